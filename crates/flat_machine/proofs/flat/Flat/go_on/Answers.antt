use Rattle.std.proofs.Common.{◌≡◌, ◌<◌, ◌≤◌, ℕ, ◌+◌, Some, None, Ok, Err, refl, sym, ap, ◌∙◌, subst, arith}
use Rattle.rv_step.specs.Machine.{State, Halted, Faulted, step_of, step_cost}
use Rattle.rv_step.specs.Stepping.{state_at}
use Rattle.rv_step.specs.declared.stepping.Paid.{Paid}
use Rattle.rv_step.proofs.Small.{step_is_small}
use Rattle.flat_machine.specs.Layers.{memory_in}
use Rattle.flat_machine.specs.Going.{Going, IsRunOf}
use Rattle.flat_machine.proofs.RunFeet.{rest_on, some_cost}
use Rattle.flat_machine.proofs.RunPaid.{paid_cost, paid_went, paid_halted, too_dear, paid_fault, no_memory, no_miss}
use Rattle.flat_machine.proofs.RunSteps.{uncut_same, all_words, stands_still, stands_on, stops, stopped, some_code, no_code}
use Rattle.flat_machine.proofs.flat.Flat.go_on.Goals as goal

pub returns-then-is_some-clause-stays : goal.returns-then-is_some-clause-stays
returns-then-is_some-clause-stays c _ =
    let (code, is) = some_code c.self.inside.halted (sym c.is_some.ensures ∙ c.if-is_some.true) in
    (refl, λ image words stands. stopped c.args.self.now code (ap (λ (g : Going). g.halted) (sym c.self.view_is) ∙ is) image words stands)

pub invariant_of-self : goal.invariant_of-self
invariant_of-self c =
    let s : State = state_at c.self.inside.core (memory_in c.self.inside.memory) c.self.inside.tape c.self.inside.log in
    let t : State = state_at c.step_within.new.core (memory_in c.step_within.new.bus) c.step_within.new.tape c.step_within.new.log in
    let cost : c.in-Ok-Some.paid.cost ≡ step_cost s =
    paid_cost s t 257 c.step_within.result c.step_within.ensures.answer c.in-Ok-Some.paid (c.in-Ok-Some.is ∙ ap Ok c.in-Ok-Some.field-0-is) in
    record {
      going = record {
        aligned = c.step_within.ensures.aligned;
        least = omega (arith, some_cost s, ap (λ (p : Paid). p.cost) c.in-Ok-Some.paid-is, c.from.ensures, c.self.invariant.going.least);
        most = omega (arith, ap (λ (p : Paid). p.cost) c.in-Ok-Some.paid-is, c.from.ensures, (step_is_small s c.self.invariant.going.aligned).0, c.self.invariant.going.most);
      };
      rest = rest_on s t c.self.invariant.going.aligned (paid_went s t 257 c.step_within.result c.step_within.ensures.answer c.in-Ok-Some.paid (c.in-Ok-Some.is ∙ ap Ok c.in-Ok-Some.field-0-is) (sym (ap (λ (p : Paid). p.event) c.in-Ok-Some.paid-is) ∙ c.in-Went.is)) c.self.invariant.rest;
    }

pub unreachable-requires : goal.unreachable-requires
unreachable-requires c =
    let s : State = state_at c.self.inside.core (memory_in c.self.inside.memory) c.self.inside.tape c.self.inside.log in
    let t : State = state_at c.step_within.new.core (memory_in c.step_within.new.bus) c.step_within.new.tape c.step_within.new.log in
    let dear : (257 < step_cost s) × (t ≡ s) =
    too_dear s t 257 c.step_within.result c.step_within.ensures.answer (c.in-Ok-None.is ∙ ap Ok c.in-Ok-None.field-0-is) in
    omega (arith, dear.0, (step_is_small s c.self.invariant.going.aligned).0)

pub unreachable-requires-in-Err-Miss : goal.unreachable-requires-in-Err-Miss
unreachable-requires-in-Err-Miss c =
    let s : State = state_at c.self.inside.core (memory_in c.self.inside.memory) c.self.inside.tape c.self.inside.log in
    let t : State = state_at c.step_within.new.core (memory_in c.step_within.new.bus) c.step_within.new.tape c.step_within.new.log in
    no_miss s t 257 c.step_within.result c.step_within.ensures.answer c.in-Err-Miss.field-0-0 c.self.invariant.going.aligned (c.in-Err-Miss.is ∙ ap Err c.in-Err-Miss.field-0-is)

pub returns-in-Went-clause-stands : goal.returns-in-Went-clause-stands
returns-in-Went-clause-stands c image words stands =
    let s : State = state_at c.self.inside.core (memory_in c.self.inside.memory) c.self.inside.tape c.self.inside.log in
    let t : State = state_at c.step_within.new.core (memory_in c.step_within.new.bus) c.step_within.new.tape c.step_within.new.log in
    let took : c.step_within.result ≡ Ok (Some c.in-Ok-Some.paid) = c.in-Ok-Some.is ∙ ap Ok c.in-Ok-Some.field-0-is in
    let cost : c.in-Ok-Some.paid.cost ≡ step_cost s = paid_cost s t 257 c.step_within.result c.step_within.ensures.answer c.in-Ok-Some.paid took in
    let on : c.self.inside.halted ≡ None = no_code c.self.inside.halted (sym c.is_some.ensures ∙ c.if-is_some.false) in
    stands_on _ _ (all_words c.self.inside.tape c.step_within.new.tape c.step_within.ensures.same_words) refl (ap (λ (n : ℕ). c.self.inside.cycles + n) (c.from.ensures ∙ ap (λ (p : Paid). p.cost) c.in-Ok-Some.paid-is ∙ cost)) on image words
    (subst (λ (g : Going). IsRunOf g image words) (sym c.self.view_is) stands) on
    (paid_went s t 257 c.step_within.result c.step_within.ensures.answer c.in-Ok-Some.paid took (sym (ap (λ (p : Paid). p.event) c.in-Ok-Some.paid-is) ∙ c.in-Went.is))

pub returns-in-Halted-clause-stays : goal.returns-in-Halted-clause-stays
returns-in-Halted-clause-stays c _ =
    let s : State = state_at c.self.inside.core (memory_in c.self.inside.memory) c.self.inside.tape c.self.inside.log in
    let t : State = state_at c.step_within.new.core (memory_in c.step_within.new.bus) c.step_within.new.tape c.step_within.new.log in
    let took : c.step_within.result ≡ Ok (Some c.in-Ok-Some.paid) = c.in-Ok-Some.is ∙ ap Ok c.in-Ok-Some.field-0-is in
    let halts : (step_of s ≡ Halted c.in-Halted.field-0) × (t ≡ s) =
    paid_halted s t 257 c.step_within.result c.step_within.ensures.answer c.in-Ok-Some.paid c.in-Halted.field-0 took (sym (ap (λ (p : Paid). p.event) c.in-Ok-Some.paid-is) ∙ c.in-Halted.is) in (
      ap (λ (g : Going). g.steps) c.self.view_is,
      λ image words stands.
          stops _ image words (stands_still _ _ halts.1 (all_words c.self.inside.tape c.step_within.new.tape c.step_within.ensures.same_words) refl refl refl image words (subst (λ (g : Going). IsRunOf g image words) (sym c.self.view_is) stands))
          (Halted c.in-Halted.field-0) (ap step_of halts.1 ∙ halts.0) refl,
    )

pub returns-in-Err-Fault-clause-stays : goal.returns-in-Err-Fault-clause-stays
returns-in-Err-Fault-clause-stays c _ =
    let s : State = state_at c.self.inside.core (memory_in c.self.inside.memory) c.self.inside.tape c.self.inside.log in
    let t : State = state_at c.step_within.new.core (memory_in c.step_within.new.bus) c.step_within.new.tape c.step_within.new.log in
    let faults : (step_cost s ≤ 257) × (step_of s ≡ Faulted c.in-Err-Fault.field-0-0) × (t ≡ s) =
    paid_fault s t 257 c.step_within.result c.step_within.ensures.answer c.in-Err-Fault.field-0-0 (c.in-Err-Fault.is ∙ ap Err c.in-Err-Fault.field-0-is) in (
      ap (λ (g : Going). g.steps) c.self.view_is,
      λ image words stands.
          stops _ image words (stands_still _ _ faults.2 (all_words c.self.inside.tape c.step_within.new.tape c.step_within.ensures.same_words) refl refl refl image words (subst (λ (g : Going). IsRunOf g image words) (sym c.self.view_is) stands))
          (Faulted c.in-Err-Fault.field-0-0) (ap step_of faults.2 ∙ faults.1) refl,
    )

pub invariant_of-self-in-Halted : goal.invariant_of-self-in-Halted
invariant_of-self-in-Halted c =
    let s : State = state_at c.self.inside.core (memory_in c.self.inside.memory) c.self.inside.tape c.self.inside.log in
    let t : State = state_at c.step_within.new.core (memory_in c.step_within.new.bus) c.step_within.new.tape c.step_within.new.log in
    let same : t ≡ s = (paid_halted s t 257 c.step_within.result c.step_within.ensures.answer c.in-Ok-Some.paid c.in-Halted.field-0 (c.in-Ok-Some.is ∙ ap Ok c.in-Ok-Some.field-0-is) (sym (ap (λ (p : Paid). p.event) c.in-Ok-Some.paid-is) ∙ c.in-Halted.is)).1 in
    uncut_same _ _ (ap (λ (u : State). u.pc) same) (ap (λ (u : State). u.memory) same) refl refl c.self.invariant

pub invariant_of-self-in-Err-Fault : goal.invariant_of-self-in-Err-Fault
invariant_of-self-in-Err-Fault c =
    let s : State = state_at c.self.inside.core (memory_in c.self.inside.memory) c.self.inside.tape c.self.inside.log in
    let t : State = state_at c.step_within.new.core (memory_in c.step_within.new.bus) c.step_within.new.tape c.step_within.new.log in
    let same : t ≡ s = (paid_fault s t 257 c.step_within.result c.step_within.ensures.answer c.in-Err-Fault.field-0-0 (c.in-Err-Fault.is ∙ ap Err c.in-Err-Fault.field-0-is)).2 in
    uncut_same _ _ (ap (λ (u : State). u.pc) same) (ap (λ (u : State). u.memory) same) refl refl c.self.invariant

pub invariant_of-self-in-Err-Memory : goal.invariant_of-self-in-Err-Memory
invariant_of-self-in-Err-Memory c =
    let s : State = state_at c.self.inside.core (memory_in c.self.inside.memory) c.self.inside.tape c.self.inside.log in
    let t : State = state_at c.step_within.new.core (memory_in c.step_within.new.bus) c.step_within.new.tape c.step_within.new.log in
    let same : t ≡ s = no_memory s t 257 c.step_within.result c.step_within.ensures.answer (c.in-Err-Memory.is ∙ ap Err c.in-Err-Memory.field-0-is) in
    uncut_same _ _ (ap (λ (u : State). u.pc) same) (ap (λ (u : State). u.memory) same) refl refl c.self.invariant
