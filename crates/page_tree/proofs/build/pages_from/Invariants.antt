use Rattle.std.proofs.Common.{◌≡◌, ◌-◌}
use Rattle.page_core.specs.Stored.{stored_at}
use Rattle.page_tree.specs.Grown.{gathered}
use Rattle.page_tree.proofs.build.pages_from.Given as goal

-- the pages of the numbers so far are copied
abbrev pub invariant-loop-number : goal.invariant-loop-number
invariant-loop-number l = l.pages.items ≡ gathered (stored_at l.map) l.first (l.number - l.first)
