use Rattle.std.proofs.Common.{ℕ, false, get_or, arith}
use Rattle.rv_step.proofs.Steps.{closed_at, open_on}
use Rattle.rv_step.proofs.page_marks.PageMarks.first_unmarked.Goals as goal

pub returns-then-not-has : goal.returns-then-not-has
returns-then-not-has c =
    closed_at (λ (p : ℕ). get_or c.args.self.now p false) c.args.pages.now c.loop-page.page-index c.has.result (omega arith) c.loop-page.invariant
    c.has.ensures c.if-not-has.true

pub loop-page-preserved : goal.loop-page-preserved
loop-page-preserved c =
    open_on (λ (p : ℕ). get_or c.args.self.now p false) c.args.pages.now c.loop-page.page-index c.has.result (omega arith) c.loop-page.invariant
    c.has.ensures c.if-not-has.false
