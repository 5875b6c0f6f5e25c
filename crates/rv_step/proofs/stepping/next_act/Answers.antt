use Rattle.std.proofs.Common.{rules, ◌≡◌, Err, sym, ◌∙◌}
use Rattle.rv_step.specs.Machine.{State}
use Rattle.rv_step.specs.Stepping.{state_at}
use Rattle.rv_step.proofs.Steps.{missed_first, is_missed, is_next}
use Rattle.rv_step.proofs.stepping.next_act.Goals as goal

pub returns-in_err-act-clause-missed : goal.returns-in_err-act-clause-missed
returns-in_err-act-clause-missed g c = λ log.
    let s : State = state_at c.args.core.now (g.B.Bus.byte_at c.args.bus.now) c.args.tape.now log in
    let is : c.from_residual.result ≡ Err c.in_err-act.field-0.0 = search rules in
    rw is (missed_first (g.B.Bus.opens c.args.bus.now) s c.in_err-act.field-0.0 (sym c.in_err-act.was ∙ c.fetch.ensures.answer log))

pub returns-in-Some-clause-missed : goal.returns-in-Some-clause-missed
returns-in-Some-clause-missed g c = λ log.
    let s : State = state_at c.args.core.now (g.B.Bus.byte_at c.args.bus.now) c.args.tape.now log in
    is_missed (g.B.Bus.opens c.args.bus.now) s c.in_ok-act.act c.footprint-foot.result c.pages.result.now c.in-Some.page
    (sym c.in_ok-act.was ∙ c.fetch.ensures.answer log) c.footprint-foot.ensures c.pages.ensures.value (sym c.in-Some.is ∙ c.first_missing.ensures)

pub returns-in-None-clause-next : goal.returns-in-None-clause-next
returns-in-None-clause-next g c = λ log.
    let s : State = state_at c.args.core.now (g.B.Bus.byte_at c.args.bus.now) c.args.tape.now log in
    is_next (g.B.Bus.opens c.args.bus.now) s c.in_ok-act.act c.footprint-foot.result c.pages.result.now
    (sym c.in_ok-act.was ∙ c.fetch.ensures.answer log) c.footprint-foot.ensures c.pages.ensures.value (sym c.in-None.is ∙ c.first_missing.ensures)
