use Rattle.page_core.specs.Stored.{stored_pages}
use Rattle.part_tree.specs.Views.{part}
use Rattle.collide.proofs.Found.{place_tells}
use Rattle.collide.proofs.place.first_place.Goals as goal

pub returns-clause-agrees : goal.returns-clause-agrees
returns-clause-agrees g c =
    place_tells g.D.Digester.digest_of g.D.Digester.is_digest (stored_pages c.args.real.now) 18 0 (part c.args.tree.now) c.requires.canonical.shape c.requires.same_root
    c.place_below-place.result.1 c.place_below-place.ensures.place
