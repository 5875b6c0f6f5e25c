use Rattle.std.proofs.Common.{◌≡◌, ◌<◌, ℕ, vec_len}
use Rattle.page_tree.specs.Blocks.{child_at}
use Rattle.page_tree.proofs.block.Block.shared.Given as goal

abbrev pub invariant-loop-child : goal.invariant-loop-child
invariant-loop-child g l = record {
  long : vec_len l.children ≡ l.child-index;
  same : (k : ℕ) → k < l.child-index → child_at l.children.items k ≡ child_at l.self.children.items k;
}
