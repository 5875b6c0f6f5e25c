use Rattle.std.proofs.Common.{◌≡◌, ℕ, None, vec_len}
use Rattle.page_tree.specs.Blocks.{child_at}
use Rattle.page_tree.proofs.block.Block.empty.Given as goal

abbrev pub invariant-loop-place : goal.invariant-loop-place
invariant-loop-place g l = record {
  long : vec_len l.children ≡ l._place;
  none : (k : ℕ) → child_at l.children.items k ≡ None;
}
