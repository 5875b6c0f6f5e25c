use Rattle.std.proofs.Common.{arith}
use Rattle.rv_step.proofs.Steps.{closed_at, open_on}
use Rattle.rv_step.proofs.stepping.first_missing.Goals as goal

pub returns-then-not-is_open : goal.returns-then-not-is_open
returns-then-not-is_open g c =
    closed_at (g.B.Bus.opens c.args.bus.now) c.args.pages.now c.loop-page.page-index c.is_open.result (omega arith) c.loop-page.invariant c.is_open.ensures
    c.if-not-is_open.true

pub loop-page-preserved : goal.loop-page-preserved
loop-page-preserved g c =
    open_on (g.B.Bus.opens c.args.bus.now) c.args.pages.now c.loop-page.page-index c.is_open.result (omega arith) c.loop-page.invariant c.is_open.ensures
    c.if-not-is_open.false
