use Rattle.std.proofs.Common.{rules, ◌≡◌, Ok, Err, sym, ◌∙◌}
use Rattle.rv_step.specs.Machine.{State}
use Rattle.rv_step.specs.Stepping.{state_at}
use Rattle.rv_step.proofs.Looks.{looked_missed, looked_told}
use Rattle.rv_step.proofs.looking.look.Goals as goal

pub returns-in_err-act : goal.returns-in_err-act
returns-in_err-act g c = λ log.
    let s : State = state_at c.args.core.now (g.B.Bus.byte_at c.args.bus.now) c.args.tape.now log in
    let is : c.from_residual.result ≡ Err c.in_err-act.field-0.0 = search rules in
    is ∙ looked_missed (g.B.Bus.opens c.args.bus.now) s c.in_err-act.field-0.0 (sym c.in_err-act.was ∙ c.fetch.ensures.answer log)

pub returns : goal.returns
returns g c = λ log.
    let s : State = state_at c.args.core.now (g.B.Bus.byte_at c.args.bus.now) c.args.tape.now log in
    (λ i. Ok (record { foot = c.footprint.ensures i; cost = c.cost_of.ensures i; fault = c.fault_of.ensures i }))
    ∙ looked_told (g.B.Bus.opens c.args.bus.now) s c.in_ok-act.act (sym c.in_ok-act.was ∙ c.fetch.ensures.answer log)
