use Rattle.check_core.proofs.Called as Called
use Rattle.check_core.proofs.laws.calls_hold.Goals as goal

pub returns : goal.returns
returns g c = Called.calls_hold g.D.Digester.digest_of g.D.Digester.is_digest
