use Rattle.std.proofs.Common.{arith}
use Rattle.std.proofs.lemmas.Grind.{common_steps}
use Rattle.page_tree.proofs.Children.{absent_more}
use Rattle.page_tree.proofs.block.Block.empty.Goals as goal

pub loop-place-preserved : goal.loop-place-preserved
loop-place-preserved g c = record {
  long = grind (arith, common_steps);
  none = λ k. rw c.in_ok-push.ensures.items (absent_more c.loop-place.children.items c.loop-place.invariant.none k);
}
