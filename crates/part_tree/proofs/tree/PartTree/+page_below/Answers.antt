use Rattle.part_tree.specs.Views.{part}
use Rattle.part_tree.proofs.Pages.{page_at-left, page_at-right}
use Rattle.part_tree.proofs.tree.PartTree.+page_below.Goals as goal

pub returns-then-side-eq0 : goal.returns-then-side-eq0
returns-then-side-eq0 t c =
    rw c.in-Branch.is (page_at-left c.args.height c.args.index c.args.number (part c.in-Branch.left.value) (part c.in-Branch.right.value) _
    (rw c.in-Branch.is at c.requires.shape) c.requires.below c.if-side-eq0.true (rw c.deref.ensures at c.page_below.ensures))

pub returns-else-side-eq0 : goal.returns-else-side-eq0
returns-else-side-eq0 t c =
    rw c.in-Branch.is (page_at-right c.args.height c.args.index c.args.number (part c.in-Branch.left.value) (part c.in-Branch.right.value) _
    (rw c.in-Branch.is at c.requires.shape) c.requires.below c.if-side-eq0.false (rw c.deref-else-side-eq0.ensures at c.page_below-else-side-eq0.ensures))
