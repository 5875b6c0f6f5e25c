use Rattle.std.proofs.Common.{◌≡◌, ℕ, false, get_or, take, None}
use Rattle.rv_step.specs.Machine.{first_closed}
use Rattle.rv_step.proofs.page_marks.PageMarks.first_unmarked.Given as goal

abbrev pub invariant-loop-page : goal.invariant-loop-page
invariant-loop-page l = first_closed (λ (p : ℕ). get_or l.self p false) (take l.page-index l.pages) ≡ None
