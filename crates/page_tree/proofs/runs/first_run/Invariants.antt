use Rattle.std.proofs.Common.{◌≡◌, ◌-◌, ◌/◌, ◌^◌, ◌<◌, ◌≤◌, ℕ, List, get_or, length}
use Rattle.page_tree.proofs.runs.first_run.Given as goal

-- the pages that are counted are below the node
abbrev pub invariant-loop-count : goal.invariant-loop-count
invariant-loop-count l = record {
  some : 1 ≤ l.count;
  most : l.count ≤ length l.pages;
  below : (k : ℕ) (d : ℕ × List ℕ) → k < l.count → (get_or l.pages k d).0 / 2 ^ l.height ≡ l.node;
}

abbrev pub decreases-loop-count : goal.decreases-loop-count
decreases-loop-count l = length l.pages - l.count
