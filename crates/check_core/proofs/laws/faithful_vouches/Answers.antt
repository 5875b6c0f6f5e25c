use Rattle.check_core.proofs.Vouched as Vouched
use Rattle.check_core.proofs.laws.faithful_vouches.Goals as goal

pub returns : goal.returns
returns g c = Vouched.faithful_vouches g.D.Digester.digest_of
