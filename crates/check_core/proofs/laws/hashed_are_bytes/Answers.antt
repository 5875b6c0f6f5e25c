use Rattle.check_core.proofs.Hashes as Hashes
use Rattle.check_core.proofs.Members as Members
use Rattle.check_core.proofs.laws.hashed_are_bytes.Goals as goal

pub returns : goal.returns
returns g c = record {
  bytes = Hashes.hashed_are_bytes g.D.Digester.digest_of g.D.Digester.is_digest;
  compared = Members.compared_are_hashed g.D.Digester.digest_of;
}
