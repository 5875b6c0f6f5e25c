use Rattle.part_tree.proofs.Made.{part_agrees, agree_tells, strings_are_bytes}
use Rattle.part_tree.proofs.Asked.{opened_asked, asked_opened}
use Rattle.part_tree.proofs.Formed.{canonical_form}
use Rattle.part_tree.proofs.laws.part_laws.Goals as goal

pub returns : goal.returns
returns g c = record {
  agrees = part_agrees g.D.Digester.digest_of;
  opens = λ m pages h i number. (opened_asked g.D.Digester.digest_of m pages h i number, asked_opened g.D.Digester.digest_of m pages h i number);
  canonical = λ m pages. canonical_form g.D.Digester.digest_of m pages g.D.Digester.is_digest;
  tells = agree_tells g.D.Digester.digest_of g.D.Digester.is_digest;
  bytes = strings_are_bytes g.D.Digester.digest_of g.D.Digester.is_digest;
}
