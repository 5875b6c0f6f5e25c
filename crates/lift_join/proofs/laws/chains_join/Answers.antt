use Rattle.lift_join.proofs.Joining as Joining
use Rattle.lift_join.proofs.laws.chains_join.Goals as goal

pub returns : goal.returns
returns g c = Joining.chains_join g.D.Digester.digest_of
