use Rattle.std.proofs.Common.{◌≡◌, ◌+◌, ◌*◌, ◌≤◌, length}
use Rattle.page_tree.specs.Blocks.{page_of_low, IsLow}
use Rattle.page_tree.proofs.Renewing.{IsRenewing}
use Rattle.page_tree.proofs.middle.Block+Low.renew_lows.Given as goal

-- the pages so far are put
abbrev pub invariant-loop-rest : goal.invariant-loop-rest
invariant-loop-rest g l = record {
  put : IsRenewing g.D.Digester.digest_of page_of_low (IsLow g.D.Digester.digest_of) 6 l.initial.self.digests l.initial.self.children.items l.pages l.self.digests l.self.children.items l.rest;
  long : length l.self.digests ≡ 128;
  rises : l.initial.steps ≤ l.steps;
  cost : l.steps + 7 * length l.rest ≤ l.initial.steps + 7 * length l.pages;
}

abbrev pub decreases-loop-rest : goal.decreases-loop-rest
decreases-loop-rest g l = length l.rest
