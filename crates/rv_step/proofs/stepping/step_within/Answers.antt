use Rattle.std.proofs.Common.{rules, ◌≡◌, ℕ, Bool, Err, refl, ◌∙◌, arith}
use Rattle.rv_step.specs.Machine.{State, step_cost}
use Rattle.rv_step.specs.Stepping.{state_at, IsNext}
use Rattle.rv_step.proofs.Steps.{next_sound, next_cost, paid_stop}
use Rattle.rv_step.proofs.stepping.step_within.Goals as goal

pub cost_of-cost-requires : goal.cost_of-cost-requires
cost_of-cost-requires g c =
    let o : ℕ → Bool = g.B.Bus.opens c.args.bus.now in
    let s : State = state_at c.args.core.now (g.B.Bus.byte_at c.args.bus.now) c.args.tape.now c.args.log.now in
    (next_sound o s _ (c.in-Ok.ensures.next c.args.log.now) c.requires).limits

pub returns-then-from-room-clause-answer : goal.returns-then-from-room-clause-answer
returns-then-from-room-clause-answer g c =
    let o : ℕ → Bool = g.B.Bus.opens c.args.bus.now in
    let s : State = state_at c.args.core.now (g.B.Bus.byte_at c.args.bus.now) c.args.tape.now c.args.log.now in
    let next : IsNext o s c.in-Ok.act = c.in-Ok.ensures.next c.args.log.now in
    let costs : c.from.result ≡ step_cost s = c.from.ensures ∙ c.cost_of-cost.ensures ∙ next_cost o s _ next in
    (next.no_closed, omega (arith, costs, c.if-from-room.true), refl {a = s})

pub returns-in_err-event-clause-answer : goal.returns-in_err-event-clause-answer
returns-in_err-event-clause-answer g c =
    let o : ℕ → Bool = g.B.Bus.opens c.args.bus.now in
    let s : State = state_at c.args.core.now (g.B.Bus.byte_at c.args.bus.now) c.args.tape.now c.args.log.now in
    let t : State = state_at c.perform_act.new.core (g.B.Bus.byte_at c.perform_act.new.bus) c.perform_act.new.tape c.perform_act.new.log in
    let next : IsNext o s c.in-Ok.act = c.in-Ok.ensures.next c.args.log.now in
    let costs : c.from.result ≡ step_cost s = c.from.ensures ∙ c.cost_of-cost.ensures ∙ next_cost o s _ next in
    let is : c.from_residual.result ≡ Err c.in_err-event.field-0.0 = search rules in
    rw is (paid_stop o c.args.room s t c.in_err-event.field-0.0 (omega (arith, costs, c.if-from-room.false)) c.in_err-event.ensures.answer)

pub returns-clause-answer : goal.returns-clause-answer
returns-clause-answer g c =
    let o : ℕ → Bool = g.B.Bus.opens c.args.bus.now in
    let s : State = state_at c.args.core.now (g.B.Bus.byte_at c.args.bus.now) c.args.tape.now c.args.log.now in
    let next : IsNext o s c.in-Ok.act = c.in-Ok.ensures.next c.args.log.now in
    let costs : c.cost_of-cost.result ≡ step_cost s = c.cost_of-cost.ensures ∙ next_cost o s _ next in
    (costs, omega (arith, c.from.ensures, costs, c.if-from-room.false), c.in_ok-event.ensures.answer)
