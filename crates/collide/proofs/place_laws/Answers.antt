use Rattle.collide.proofs.Nodes.{split_place}
use Rattle.collide.proofs.place_laws.Goals as goal

pub returns : goal.returns
returns g c = split_place g.D.Digester.digest_of
