use Rattle.std.proofs.Common.{◌≡◌, ◌≢◌, ◌+◌, ◌-◌, ◌<◌, ◌≤◌, ℕ, [], get_or, length}
use Rattle.page_core.specs.Pages.{Pages}
use Rattle.part_tree.specs.Tree.{node}
use Rattle.page_tree.specs.Blocks.{place_of, LevelIs}
use Rattle.page_tree.specs.Changes.{Untouched}
use Rattle.page_tree.proofs.digests.refresh_height.Given as goal

-- the nodes without one of the pages below that are left are right, and those of other heights are as before
abbrev pub invariant-loop-page : goal.invariant-loop-page
invariant-loop-page g l = record {
  long : length l.digests ≡ 128;
  level : (m : Pages) → LevelIs g.D.Digester.digest_of m l.base (l.height - 1) l.initial.digests
      → ((x : ℕ) → Untouched l.base l.height x l.pages → get_or l.initial.digests (place_of l.height x) [] ≡ node g.D.Digester.digest_of m (l.base + l.height) x)
      → (x : ℕ) → Untouched l.base l.height x l.rest → get_or l.digests (place_of l.height x) [] ≡ node g.D.Digester.digest_of m (l.base + l.height) x;
  others : (k x : ℕ) → k < 6 → k ≢ l.height → get_or l.digests (place_of k x) [] ≡ get_or l.initial.digests (place_of k x) [];
  rises : l.initial.steps ≤ l.steps;
  cost : l.steps + length l.rest ≤ l.initial.steps + length l.pages;
}

abbrev pub decreases-loop-page : goal.decreases-loop-page
decreases-loop-page g l = length l.rest
