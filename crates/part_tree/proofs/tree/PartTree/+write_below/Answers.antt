use Rattle.part_tree.specs.Views.{part}
use Rattle.part_tree.proofs.Pages.{put-left, put-right}
use Rattle.part_tree.proofs.tree.PartTree.+write_below.Goals as goal

pub returns-then-side-eq0 : goal.returns-then-side-eq0
returns-then-side-eq0 t c =
    rw c.in-Branch.is (put-left c.args.height c.args.index c.args.number c.args.content.now (part c.in-Branch.left.value) (part c.in-Branch.right.value) (part c.write_below.new.self)
    (rw c.in-Branch.is at c.requires.shape) c.requires.below c.if-side-eq0.true (rw c.deref_mut.ensures.value at c.write_below.ensures))

pub returns-else-side-eq0 : goal.returns-else-side-eq0
returns-else-side-eq0 t c =
    rw c.in-Branch.is (put-right c.args.height c.args.index c.args.number c.args.content.now (part c.in-Branch.left.value) (part c.in-Branch.right.value) (part c.write_below-else-side-eq0.new.self)
    (rw c.in-Branch.is at c.requires.shape) c.requires.below c.if-side-eq0.false (rw c.deref_mut-else-side-eq0.ensures.value at c.write_below-else-side-eq0.ensures))
