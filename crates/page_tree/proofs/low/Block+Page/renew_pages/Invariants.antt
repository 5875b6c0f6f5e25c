use Rattle.std.proofs.Common.{◌≡◌, ℕ, ◌+◌, ◌≤◌, List, length, drop}
use Rattle.std.specs.Prelude.{Some}
use Rattle.page_core.specs.Pages.{IsPage}
use Rattle.page_tree.proofs.Renewing.{IsRenewing}
use Rattle.page_tree.proofs.low.Block+Page.renew_pages.Given as goal

-- the pages so far are put
abbrev pub invariant-loop-number : goal.invariant-loop-number
invariant-loop-number g l = record {
  put : IsRenewing g.D.Digester.digest_of (λ (page : List ℕ) (n : ℕ). Some page) IsPage 0 l.initial.self.digests l.initial.self.children.items l.pages l.self.digests l.self.children.items (drop l.number-index l.pages);
  long : length l.self.digests ≡ 128;
  rises : l.initial.steps ≤ l.steps;
  cost : l.steps ≤ l.initial.steps + l.number-index;
}
