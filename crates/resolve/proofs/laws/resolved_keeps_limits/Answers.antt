use Rattle.resolve.proofs.Keeping.{resolved_keeps}
use Rattle.resolve.proofs.laws.resolved_keeps_limits.Goals as goal

pub returns : goal.returns
returns g c = resolved_keeps g.D.Digester.digest_of
