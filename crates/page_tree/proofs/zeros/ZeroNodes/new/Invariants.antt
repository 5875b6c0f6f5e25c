use Rattle.std.proofs.Common.{◌≡◌, ◌<◌, ◌≤◌, ℕ, get_or, [], length}
use Rattle.page_tree.specs.Blocks.{zero_node}
use Rattle.page_tree.proofs.zeros.ZeroNodes.new.Given as goal

-- the digests of the heights so far are known
abbrev pub invariant-loop-height : goal.invariant-loop-height
invariant-loop-height g l = record {
  first : 1 ≤ l.height;
  long : length l.digests ≡ 19;
  known : (h : ℕ) → h < l.height → get_or l.digests h [] ≡ zero_node g.D.Digester.digest_of h;
}
