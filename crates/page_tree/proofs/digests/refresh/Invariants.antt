use Rattle.std.proofs.Common.{◌≡◌, ◌+◌, ◌*◌, ◌<◌, ◌≤◌, ℕ, [], get_or, length}
use Rattle.page_core.specs.Pages.{Pages}
use Rattle.part_tree.specs.Tree.{node}
use Rattle.page_tree.specs.Blocks.{place_of, LevelIs}
use Rattle.page_tree.specs.Changes.{Untouched}
use Rattle.page_tree.proofs.digests.refresh.Given as goal

-- the heights so far are right, and the others as before
abbrev pub invariant-loop-height : goal.invariant-loop-height
invariant-loop-height g l = record {
  some : 1 ≤ l.height;
  long : length l.digests ≡ 128;
  lower : (m : Pages) → LevelIs g.D.Digester.digest_of m l.base 0 l.initial.digests
      → ((k x : ℕ) → 1 ≤ k → k < 6 → Untouched l.base k x l.pages → get_or l.initial.digests (place_of k x) [] ≡ node g.D.Digester.digest_of m (l.base + k) x)
      → (k : ℕ) → k < l.height → LevelIs g.D.Digester.digest_of m l.base k l.digests;
  upper : (k x : ℕ) → l.height ≤ k → k < 6 → get_or l.digests (place_of k x) [] ≡ get_or l.initial.digests (place_of k x) [];
  rises : l.initial.steps ≤ l.steps;
  cost : l.steps + length l.pages ≤ l.initial.steps + l.height * length l.pages;
}
