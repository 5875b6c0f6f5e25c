use Rattle.resolve.proofs.Accepted.{resolved_accepted}
use Rattle.resolve.proofs.laws.resolved_is_accepted.Goals as goal

pub returns : goal.returns
returns g c = resolved_accepted g.D.Digester.digest_of g.D.Digester.is_digest
