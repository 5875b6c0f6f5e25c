use Rattle.std.proofs.Common.{◌≡◌, ℕ, List, false, Some, None, refl, sym, ap, ◌∙◌, subst, arith}
use Rattle.page_core.specs.Images.{Image}
use Rattle.host_calls.specs.Meters.{Metered}
use Rattle.rv_step.specs.Runs.{start}
use Rattle.rv_step.specs.declared.outcome.Outcome.TheVariants.{Halted as HaltedAt, Faulted as FaultedAt, OverLimit as Over}
use Rattle.flat_machine.specs.Going.{IsRunOf, DoesOne, IsRunEnd}
use Rattle.executor.specs.Cutting.{Cutting, IsCutting}
use Rattle.page_core.proofs.Options.{none_from}
use Rattle.executor.proofs.UnderWay.{none_told, has_outcome, few_steps, foot_within, with_meter, before, stands_before, stands_moved, cutting_moved, stands_stepped, cutting_stepped, stands_ended, cutting_ended, whole_ended, whole_full, some_of, some_not_none, room_at}
use Rattle.executor.proofs.executor.Executor.go_on.Goals as goal

pub returns-then-is_some-clause-whole : goal.returns-then-is_some-clause-whole
returns-then-is_some-clause-whole g c _ image words stands =
    let (o, is) = some_of c.self.inside.outcome (sym c.is_some.ensures ∙ c.if-is_some.true) in
    whole_ended (start image words) c.args.self.now o (ap (λ (x : Cutting). x.outcome) (sym c.self.view_is) ∙ is) stands.segment

pub returns-then-not-fits-clause-whole : goal.returns-then-not-fits-clause-whole
returns-then-not-fits-clause-whole g c _ image words stands =
    whole_full c.args.self.now (subst (λ (x : Cutting). IsCutting x) c.self.view_is c.self.invariant)
    (ap (λ (x : Cutting). x.outcome) (sym c.self.view_is) ∙ none_from c.self.inside.outcome (sym c.is_some.ensures ∙ c.if-is_some.false))
    (room_at _ _ c.self.view_is c.look-looked.result.foot c.look-looked.result.cost false c.look-looked.ensures.foot c.look-looked.ensures.cost (sym c.fits.ensures ∙ c.if-not-fits.true))
    image words stands.run stands.segment

pub invariant_of-self-in_err-step : goal.invariant_of-self-in_err-step
invariant_of-self-in_err-step g c =
    let v : Cutting = record { going = c.self.inside.flat; limits = c.self.inside.limits; number = c.self.inside.number; beginning = c.self.inside.beginning; steps = c.self.inside.steps; meter = c.self.inside.meter.segment; outcome = c.self.inside.outcome } in
    let m : Metered = c.reserve.new.self.segment in
    let b = before v m c.look-looked.result.foot c.look-looked.result.cost c.reserve.ensures.same c.self.invariant (none_from c.self.inside.outcome (sym c.is_some.ensures ∙ c.if-is_some.false)) c.look-looked.ensures.foot c.look-looked.ensures.cost (sym c.fits.ensures ∙ c.if-not-fits.false) in
    cutting_moved (with_meter v m) c.step.new.self c.in_err-step.ensures.refused c.step.ensures.stands b.cutting

pub returns-in_err-step-clause-stands : goal.returns-in_err-step-clause-stands
returns-in_err-step-clause-stands g c image words stands =
    let v : Cutting = record { going = c.self.inside.flat; limits = c.self.inside.limits; number = c.self.inside.number; beginning = c.self.inside.beginning; steps = c.self.inside.steps; meter = c.self.inside.meter.segment; outcome = c.self.inside.outcome } in
    let m : Metered = c.reserve.new.self.segment in
    let b = before v m c.look-looked.result.foot c.look-looked.result.cost c.reserve.ensures.same c.self.invariant (none_from c.self.inside.outcome (sym c.is_some.ensures ∙ c.if-is_some.false)) c.look-looked.ensures.foot c.look-looked.ensures.cost (sym c.fits.ensures ∙ c.if-not-fits.false) in
    let here = stands_before v _ m c.self.view_is c.reserve.ensures.same image words stands in
    stands_moved (with_meter v m) c.step.new.self image words c.in_err-step.ensures.refused.steps (c.step.ensures.stands image words here.run) here

pub add-requires-clause-pages : goal.add-requires-clause-pages
add-requires-clause-pages g c =
    let v : Cutting = record { going = c.self.inside.flat; limits = c.self.inside.limits; number = c.self.inside.number; beginning = c.self.inside.beginning; steps = c.self.inside.steps; meter = c.self.inside.meter.segment; outcome = c.self.inside.outcome } in
    let m : Metered = c.reserve.new.self.segment in
    let b = before v m c.look-looked.result.foot c.look-looked.result.cost c.reserve.ensures.same c.self.invariant (none_from c.self.inside.outcome (sym c.is_some.ensures ∙ c.if-is_some.false)) c.look-looked.ensures.foot c.look-looked.ensures.cost (sym c.fits.ensures ∙ c.if-not-fits.false) in
    foot_within (with_meter v m) b.cutting c.look-looked.result.foot b.foot_is

pub add-requires-in-Some-Halted-clause-pages : goal.add-requires-in-Some-Halted-clause-pages
add-requires-in-Some-Halted-clause-pages g c =
    let v : Cutting = record { going = c.self.inside.flat; limits = c.self.inside.limits; number = c.self.inside.number; beginning = c.self.inside.beginning; steps = c.self.inside.steps; meter = c.self.inside.meter.segment; outcome = c.self.inside.outcome } in
    let m : Metered = c.reserve.new.self.segment in
    let b = before v m c.look-looked.result.foot c.look-looked.result.cost c.reserve.ensures.same c.self.invariant (none_from c.self.inside.outcome (sym c.is_some.ensures ∙ c.if-is_some.false)) c.look-looked.ensures.foot c.look-looked.ensures.cost (sym c.fits.ensures ∙ c.if-not-fits.false) in
    foot_within (with_meter v m) b.cutting c.look-looked.result.foot b.foot_is

pub overflow_add-self : goal.overflow_add-self
overflow_add-self g c =
    let v : Cutting = record { going = c.self.inside.flat; limits = c.self.inside.limits; number = c.self.inside.number; beginning = c.self.inside.beginning; steps = c.self.inside.steps; meter = c.self.inside.meter.segment; outcome = c.self.inside.outcome } in
    let m : Metered = c.reserve.new.self.segment in
    let b = before v m c.look-looked.result.foot c.look-looked.result.cost c.reserve.ensures.same c.self.invariant (none_from c.self.inside.outcome (sym c.is_some.ensures ∙ c.if-is_some.false)) c.look-looked.ensures.foot c.look-looked.ensures.cost (sym c.fits.ensures ∙ c.if-not-fits.false) in
    omega (arith, few_steps (with_meter v m) b.cutting b.untold)

pub invariant_of-self-in-None : goal.invariant_of-self-in-None
invariant_of-self-in-None g c =
    let v : Cutting = record { going = c.self.inside.flat; limits = c.self.inside.limits; number = c.self.inside.number; beginning = c.self.inside.beginning; steps = c.self.inside.steps; meter = c.self.inside.meter.segment; outcome = c.self.inside.outcome } in
    let m : Metered = c.reserve.new.self.segment in
    let b = before v m c.look-looked.result.foot c.look-looked.result.cost c.reserve.ensures.same c.self.invariant (none_from c.self.inside.outcome (sym c.is_some.ensures ∙ c.if-is_some.false)) c.look-looked.ensures.foot c.look-looked.ensures.cost (sym c.fits.ensures ∙ c.if-not-fits.false) in
    let went : (c.self.inside.flat.halted ≡ None) × (c.step.new.self.halted ≡ None) × DoesOne c.self.inside.flat c.step.new.self = rw c.in-None.is at c.in_ok-step.ensures.went in
    cutting_stepped (with_meter v m) c.step.new.self c.add.new.self.segment c.self.inside.outcome b.untold b.on went.2 (omega (arith, c.step.ensures.within, c.limit.ensures.value)) b.cutting.cycles b.cutting.pages
    c.look-looked.result.foot c.look-looked.result.cost b.foot_is b.cost_is b.room c.add.ensures c.step.ensures.stands (λ image words run. none_told _ _ _ _ b.untold) (λ _. went.1) b.cutting

pub overflow_add-self-in-Some-Halted : goal.overflow_add-self-in-Some-Halted
overflow_add-self-in-Some-Halted g c =
    let v : Cutting = record { going = c.self.inside.flat; limits = c.self.inside.limits; number = c.self.inside.number; beginning = c.self.inside.beginning; steps = c.self.inside.steps; meter = c.self.inside.meter.segment; outcome = c.self.inside.outcome } in
    let m : Metered = c.reserve.new.self.segment in
    let b = before v m c.look-looked.result.foot c.look-looked.result.cost c.reserve.ensures.same c.self.invariant (none_from c.self.inside.outcome (sym c.is_some.ensures ∙ c.if-is_some.false)) c.look-looked.ensures.foot c.look-looked.ensures.cost (sym c.fits.ensures ∙ c.if-not-fits.false) in
    omega (arith, few_steps (with_meter v m) b.cutting b.untold)

pub invariant_of-self-in-Some-Halted : goal.invariant_of-self-in-Some-Halted
invariant_of-self-in-Some-Halted g c =
    let v : Cutting = record { going = c.self.inside.flat; limits = c.self.inside.limits; number = c.self.inside.number; beginning = c.self.inside.beginning; steps = c.self.inside.steps; meter = c.self.inside.meter.segment; outcome = c.self.inside.outcome } in
    let m : Metered = c.reserve.new.self.segment in
    let b = before v m c.look-looked.result.foot c.look-looked.result.cost c.reserve.ensures.same c.self.invariant (none_from c.self.inside.outcome (sym c.is_some.ensures ∙ c.if-is_some.false)) c.look-looked.ensures.foot c.look-looked.ensures.cost (sym c.fits.ensures ∙ c.if-not-fits.false) in
    let ended = rw (c.in-Some-Halted.is ∙ ap Some c.in-Some-Halted.field-0-is) at c.in_ok-step.ensures.ended in
    let last = (rw (c.in-Some-Halted.is ∙ ap Some c.in-Some-Halted.field-0-is) at c.in_ok-step.ensures.last) b.on in
    let told = λ (image : Image) (words : List ℕ) (run : IsRunOf c.self.inside.flat image words).
    has_outcome c.step.new.self image words c.self.inside.limits.limit (HaltedAt c.in-Some-Halted.code) (subst (λ (n : ℕ). IsRunEnd c.step.new.self image words n (HaltedAt c.in-Some-Halted.code)) c.limit.ensures.value (ended image words run)) in
    cutting_stepped (with_meter v m) c.step.new.self c.add-in-Some-Halted.new.self.segment (Some (HaltedAt c.in-Some-Halted.code)) b.untold b.on last.0 (omega (arith, c.step.ensures.within, c.limit.ensures.value)) b.cutting.cycles b.cutting.pages
    c.look-looked.result.foot c.look-looked.result.cost b.foot_is b.cost_is b.room c.add-in-Some-Halted.ensures c.step.ensures.stands told (λ none. some_not_none _ _ refl none) b.cutting

pub invariant_of-self-in-Some-Faulted : goal.invariant_of-self-in-Some-Faulted
invariant_of-self-in-Some-Faulted g c =
    let v : Cutting = record { going = c.self.inside.flat; limits = c.self.inside.limits; number = c.self.inside.number; beginning = c.self.inside.beginning; steps = c.self.inside.steps; meter = c.self.inside.meter.segment; outcome = c.self.inside.outcome } in
    let m : Metered = c.reserve.new.self.segment in
    let b = before v m c.look-looked.result.foot c.look-looked.result.cost c.reserve.ensures.same c.self.invariant (none_from c.self.inside.outcome (sym c.is_some.ensures ∙ c.if-is_some.false)) c.look-looked.ensures.foot c.look-looked.ensures.cost (sym c.fits.ensures ∙ c.if-not-fits.false) in
    let ended = rw (c.in-Some-Faulted.is ∙ ap Some c.in-Some-Faulted.field-0-is) at c.in_ok-step.ensures.ended in
    let last = (rw (c.in-Some-Faulted.is ∙ ap Some c.in-Some-Faulted.field-0-is) at c.in_ok-step.ensures.last) b.on in
    let told = λ (image : Image) (words : List ℕ) (run : IsRunOf c.self.inside.flat image words).
    has_outcome c.step.new.self image words c.self.inside.limits.limit (FaultedAt c.in-Some-Faulted.fault c.in-Some-Faulted.pc c.in-Some-Faulted.step) (subst (λ (n : ℕ). IsRunEnd c.step.new.self image words n (FaultedAt c.in-Some-Faulted.fault c.in-Some-Faulted.pc c.in-Some-Faulted.step)) c.limit.ensures.value (ended image words run)) in
    cutting_ended (with_meter v m) c.step.new.self (FaultedAt c.in-Some-Faulted.fault c.in-Some-Faulted.pc c.in-Some-Faulted.step) b.untold last c.step.ensures.stands told b.cutting

pub invariant_of-self-in-Some-OverLimit : goal.invariant_of-self-in-Some-OverLimit
invariant_of-self-in-Some-OverLimit g c =
    let v : Cutting = record { going = c.self.inside.flat; limits = c.self.inside.limits; number = c.self.inside.number; beginning = c.self.inside.beginning; steps = c.self.inside.steps; meter = c.self.inside.meter.segment; outcome = c.self.inside.outcome } in
    let m : Metered = c.reserve.new.self.segment in
    let b = before v m c.look-looked.result.foot c.look-looked.result.cost c.reserve.ensures.same c.self.invariant (none_from c.self.inside.outcome (sym c.is_some.ensures ∙ c.if-is_some.false)) c.look-looked.ensures.foot c.look-looked.ensures.cost (sym c.fits.ensures ∙ c.if-not-fits.false) in
    let ended = rw (c.in-Some-OverLimit.is ∙ ap Some c.in-Some-OverLimit.field-0-is) at c.in_ok-step.ensures.ended in
    let last = (rw (c.in-Some-OverLimit.is ∙ ap Some c.in-Some-OverLimit.field-0-is) at c.in_ok-step.ensures.last) b.on in
    let told = λ (image : Image) (words : List ℕ) (run : IsRunOf c.self.inside.flat image words).
    has_outcome c.step.new.self image words c.self.inside.limits.limit (Over c.in-Some-OverLimit.step) (subst (λ (n : ℕ). IsRunEnd c.step.new.self image words n (Over c.in-Some-OverLimit.step)) c.limit.ensures.value (ended image words run)) in
    cutting_ended (with_meter v m) c.step.new.self (Over c.in-Some-OverLimit.step) b.untold last c.step.ensures.stands told b.cutting

pub returns-in-None-clause-stands : goal.returns-in-None-clause-stands
returns-in-None-clause-stands g c image words stands =
    let v : Cutting = record { going = c.self.inside.flat; limits = c.self.inside.limits; number = c.self.inside.number; beginning = c.self.inside.beginning; steps = c.self.inside.steps; meter = c.self.inside.meter.segment; outcome = c.self.inside.outcome } in
    let m : Metered = c.reserve.new.self.segment in
    let b = before v m c.look-looked.result.foot c.look-looked.result.cost c.reserve.ensures.same c.self.invariant (none_from c.self.inside.outcome (sym c.is_some.ensures ∙ c.if-is_some.false)) c.look-looked.ensures.foot c.look-looked.ensures.cost (sym c.fits.ensures ∙ c.if-not-fits.false) in
    let went : (c.self.inside.flat.halted ≡ None) × (c.step.new.self.halted ≡ None) × DoesOne c.self.inside.flat c.step.new.self = rw c.in-None.is at c.in_ok-step.ensures.went in
    let here = stands_before v _ m c.self.view_is c.reserve.ensures.same image words stands in
    stands_stepped (with_meter v m) c.step.new.self c.add.new.self.segment c.self.inside.outcome b.untold b.on went.2 (omega (arith, c.step.ensures.within, c.limit.ensures.value)) b.cutting.cycles b.cutting.pages
    c.look-looked.result.foot c.look-looked.result.cost b.foot_is b.cost_is b.room c.add.ensures image words (c.step.ensures.stands image words here.run) (none_told _ _ _ _ b.untold) here

pub returns-in-Some-Halted-clause-stands : goal.returns-in-Some-Halted-clause-stands
returns-in-Some-Halted-clause-stands g c image words stands =
    let v : Cutting = record { going = c.self.inside.flat; limits = c.self.inside.limits; number = c.self.inside.number; beginning = c.self.inside.beginning; steps = c.self.inside.steps; meter = c.self.inside.meter.segment; outcome = c.self.inside.outcome } in
    let m : Metered = c.reserve.new.self.segment in
    let b = before v m c.look-looked.result.foot c.look-looked.result.cost c.reserve.ensures.same c.self.invariant (none_from c.self.inside.outcome (sym c.is_some.ensures ∙ c.if-is_some.false)) c.look-looked.ensures.foot c.look-looked.ensures.cost (sym c.fits.ensures ∙ c.if-not-fits.false) in
    let ended = rw (c.in-Some-Halted.is ∙ ap Some c.in-Some-Halted.field-0-is) at c.in_ok-step.ensures.ended in
    let last = (rw (c.in-Some-Halted.is ∙ ap Some c.in-Some-Halted.field-0-is) at c.in_ok-step.ensures.last) b.on in
    let told = λ (image : Image) (words : List ℕ) (run : IsRunOf c.self.inside.flat image words).
    has_outcome c.step.new.self image words c.self.inside.limits.limit (HaltedAt c.in-Some-Halted.code) (subst (λ (n : ℕ). IsRunEnd c.step.new.self image words n (HaltedAt c.in-Some-Halted.code)) c.limit.ensures.value (ended image words run)) in
    let here = stands_before v _ m c.self.view_is c.reserve.ensures.same image words stands in
    stands_stepped (with_meter v m) c.step.new.self c.add-in-Some-Halted.new.self.segment (Some (HaltedAt c.in-Some-Halted.code)) b.untold b.on last.0 (omega (arith, c.step.ensures.within, c.limit.ensures.value)) b.cutting.cycles b.cutting.pages
    c.look-looked.result.foot c.look-looked.result.cost b.foot_is b.cost_is b.room c.add-in-Some-Halted.ensures image words (c.step.ensures.stands image words here.run) (told image words here.run) here

pub returns-in-Some-Halted-clause-whole : goal.returns-in-Some-Halted-clause-whole
returns-in-Some-Halted-clause-whole g c _ image words stands = whole_ended (start image words) _ (HaltedAt c.in-Some-Halted.code) refl stands.segment

pub returns-in-Some-Faulted-clause-stands : goal.returns-in-Some-Faulted-clause-stands
returns-in-Some-Faulted-clause-stands g c image words stands =
    let v : Cutting = record { going = c.self.inside.flat; limits = c.self.inside.limits; number = c.self.inside.number; beginning = c.self.inside.beginning; steps = c.self.inside.steps; meter = c.self.inside.meter.segment; outcome = c.self.inside.outcome } in
    let m : Metered = c.reserve.new.self.segment in
    let b = before v m c.look-looked.result.foot c.look-looked.result.cost c.reserve.ensures.same c.self.invariant (none_from c.self.inside.outcome (sym c.is_some.ensures ∙ c.if-is_some.false)) c.look-looked.ensures.foot c.look-looked.ensures.cost (sym c.fits.ensures ∙ c.if-not-fits.false) in
    let ended = rw (c.in-Some-Faulted.is ∙ ap Some c.in-Some-Faulted.field-0-is) at c.in_ok-step.ensures.ended in
    let last = (rw (c.in-Some-Faulted.is ∙ ap Some c.in-Some-Faulted.field-0-is) at c.in_ok-step.ensures.last) b.on in
    let told = λ (image : Image) (words : List ℕ) (run : IsRunOf c.self.inside.flat image words).
    has_outcome c.step.new.self image words c.self.inside.limits.limit (FaultedAt c.in-Some-Faulted.fault c.in-Some-Faulted.pc c.in-Some-Faulted.step) (subst (λ (n : ℕ). IsRunEnd c.step.new.self image words n (FaultedAt c.in-Some-Faulted.fault c.in-Some-Faulted.pc c.in-Some-Faulted.step)) c.limit.ensures.value (ended image words run)) in
    let here = stands_before v _ m c.self.view_is c.reserve.ensures.same image words stands in
    stands_ended (with_meter v m) c.step.new.self (FaultedAt c.in-Some-Faulted.fault c.in-Some-Faulted.pc c.in-Some-Faulted.step) b.untold last image words (c.step.ensures.stands image words here.run) (told image words here.run) here

pub returns-in-Some-Faulted-clause-whole : goal.returns-in-Some-Faulted-clause-whole
returns-in-Some-Faulted-clause-whole g c _ image words stands = whole_ended (start image words) _ (FaultedAt c.in-Some-Faulted.fault c.in-Some-Faulted.pc c.in-Some-Faulted.step) refl stands.segment

pub returns-in-Some-OverLimit-clause-stands : goal.returns-in-Some-OverLimit-clause-stands
returns-in-Some-OverLimit-clause-stands g c image words stands =
    let v : Cutting = record { going = c.self.inside.flat; limits = c.self.inside.limits; number = c.self.inside.number; beginning = c.self.inside.beginning; steps = c.self.inside.steps; meter = c.self.inside.meter.segment; outcome = c.self.inside.outcome } in
    let m : Metered = c.reserve.new.self.segment in
    let b = before v m c.look-looked.result.foot c.look-looked.result.cost c.reserve.ensures.same c.self.invariant (none_from c.self.inside.outcome (sym c.is_some.ensures ∙ c.if-is_some.false)) c.look-looked.ensures.foot c.look-looked.ensures.cost (sym c.fits.ensures ∙ c.if-not-fits.false) in
    let ended = rw (c.in-Some-OverLimit.is ∙ ap Some c.in-Some-OverLimit.field-0-is) at c.in_ok-step.ensures.ended in
    let last = (rw (c.in-Some-OverLimit.is ∙ ap Some c.in-Some-OverLimit.field-0-is) at c.in_ok-step.ensures.last) b.on in
    let told = λ (image : Image) (words : List ℕ) (run : IsRunOf c.self.inside.flat image words).
    has_outcome c.step.new.self image words c.self.inside.limits.limit (Over c.in-Some-OverLimit.step) (subst (λ (n : ℕ). IsRunEnd c.step.new.self image words n (Over c.in-Some-OverLimit.step)) c.limit.ensures.value (ended image words run)) in
    let here = stands_before v _ m c.self.view_is c.reserve.ensures.same image words stands in
    stands_ended (with_meter v m) c.step.new.self (Over c.in-Some-OverLimit.step) b.untold last image words (c.step.ensures.stands image words here.run) (told image words here.run) here

pub returns-in-Some-OverLimit-clause-whole : goal.returns-in-Some-OverLimit-clause-whole
returns-in-Some-OverLimit-clause-whole g c _ image words stands = whole_ended (start image words) _ (Over c.in-Some-OverLimit.step) refl stands.segment
