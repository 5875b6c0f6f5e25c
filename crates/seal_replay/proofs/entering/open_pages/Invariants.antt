use Rattle.std.proofs.Common.{◌≡◌, ℕ, cond, take, None}
use Rattle.page_core.specs.Memory.{is_among}
use Rattle.part_tree.specs.Part.{page_at}
use Rattle.part_tree.specs.Views.{part}
use Rattle.rv_step.specs.Opened.{page_in}
use Rattle.seal_replay.proofs.entering.open_pages.Given as goal

-- the pages so far are open
abbrev pub invariant-loop-number : goal.invariant-loop-number
invariant-loop-number l =
    (n : ℕ) → page_in l.pages n ≡ cond (is_among (take l.number-index l.numbers) n) (page_at 0 (part l.tree) n) None
