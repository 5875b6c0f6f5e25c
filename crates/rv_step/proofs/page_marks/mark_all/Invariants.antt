use Rattle.std.proofs.Common.{◌≡◌, ℕ, ◌<◌, ◌||◌, false, get_or, length, take}
use Rattle.page_core.specs.Memory.{is_among}
use Rattle.rv_step.proofs.page_marks.mark_all.Given as goal

abbrev pub invariant-loop-page : goal.invariant-loop-page
invariant-loop-page l =
    (length l.marks ≡ length l.fn.marks)
    × ((p : ℕ) → p < length l.fn.marks → get_or l.marks p false ≡ (get_or l.fn.marks p false || is_among (take l.page-index l.pages) p))
