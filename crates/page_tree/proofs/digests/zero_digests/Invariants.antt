use Rattle.std.proofs.Common.{◌≡◌, ◌+◌, ◌<◌, ◌≤◌, ℕ, [], get_or, length}
use Rattle.page_tree.specs.Blocks.{place_of, zero_node}
use Rattle.page_tree.proofs.digests.zero_digests.Given as goal

-- the heights so far have their digests
abbrev pub invariant-loop-height : goal.invariant-loop-height
invariant-loop-height g l = record {
  long : length l.digests ≡ 128;
  known : (k x : ℕ) → k < l.height → get_or l.digests (place_of k x) [] ≡ zero_node g.D.Digester.digest_of (l.base + k);
}

-- and so have the places of this height so far
abbrev pub invariant-loop-at : goal.invariant-loop-at
invariant-loop-at g l = record {
  long : length l.digests ≡ 128;
  known : (k x : ℕ) → k < l.height → get_or l.digests (place_of k x) [] ≡ zero_node g.D.Digester.digest_of (l.base + k);
  here : (p : ℕ) → l.first ≤ p → p < l.at → get_or l.digests p [] ≡ l.digest;
}
