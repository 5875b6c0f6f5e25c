use Rattle.audit.proofs.Placed.{places_have_pairs}
use Rattle.audit.proofs.place_laws.Goals as goal

pub returns : goal.returns
returns g c = places_have_pairs g.D.Digester.digest_of
