use Rattle.page_core.specs.Stored.{stored_pages}
use Rattle.part_tree.specs.Views.{part}
use Rattle.collide.proofs.Found.{split_tells, option_collides}
use Rattle.collide.proofs.split.first_split.Goals as goal

pub returns-clause-agrees : goal.returns-clause-agrees
returns-clause-agrees g c =
    split_tells g.D.Digester.digest_of g.D.Digester.is_digest (stored_pages c.args.real.now) 18 0 (part c.args.tree.now) c.requires.canonical.shape c.requires.same_root
    c.in_ok-split.split c.in_ok-split.ensures.split

pub returns-clause-collide : goal.returns-clause-collide
returns-clause-collide g c =
    option_collides g.D.Digester.digest_of g.D.Digester.is_digest (stored_pages c.args.real.now) (part c.args.tree.now) c.requires.canonical.shape c.requires.same_root
    c.in_ok-split.split c.in_ok-split.ensures.split c.in_ok-split.ensures.left c.in_ok-split.ensures.right
