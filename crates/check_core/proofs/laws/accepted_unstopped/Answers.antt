use Rattle.check_core.proofs.Unstopped as Judging
use Rattle.check_core.proofs.laws.accepted_unstopped.Goals as goal

pub returns : goal.returns
returns g c = Judging.accepted_unstopped g.D.Digester.digest_of
