use Rattle.part_tree.proofs.Splits.{agree_unsplit, split_exhibits}
use Rattle.part_tree.proofs.laws.split_laws.Goals as goal

pub returns : goal.returns
returns g c = record {
  unsplit = agree_unsplit g.D.Digester.digest_of;
  exhibits = split_exhibits g.D.Digester.digest_of g.D.Digester.is_digest;
}
