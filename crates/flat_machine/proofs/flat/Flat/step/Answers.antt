use Rattle.std.proofs.Common.{◌≡◌, ℕ, ◌+◌, ◌-◌, ◌<◌, ◌≤◌, Some, Ok, Err, refl, sym, ap, ◌∙◌, subst, arith}
use Rattle.rv_step.specs.Machine.{State, Halted, Faulted, step_of, step_cost}
use Rattle.rv_step.specs.Stepping.{state_at}
use Rattle.rv_step.specs.declared.stepping.Paid.{Paid}
use Rattle.rv_step.proofs.Small.{step_is_small}
use Rattle.flat_machine.specs.Layers.{memory_in}
use Rattle.flat_machine.specs.Going.{Going, IsRunOf}
use Rattle.flat_machine.proofs.RunFeet.{rest_on, rest_same, some_cost}
use Rattle.flat_machine.proofs.RunPaid.{paid_cost, paid_room, paid_went, paid_halted, too_dear, paid_fault, no_memory, no_miss}
use Rattle.flat_machine.proofs.RunSteps.{uncut_same, all_words, stands_still, stands_on, stands_halted, ends_halted, ends_over, ends_faulted}
use Rattle.flat_machine.proofs.flat.Flat.step.Goals as goal

pub returns-in-Some-clause-ended : goal.returns-in-Some-clause-ended
returns-in-Some-clause-ended c image words stands =
    ends_halted c.args.self.now image words c.args.limit stands c.requires c.in-Some.code (ap (λ (g : Going). g.halted) (sym c.self.view_is) ∙ c.in-Some.is)

pub overflow_add-self : goal.overflow_add-self
overflow_add-self c =
    let s : State = state_at c.self.inside.core (memory_in c.self.inside.memory) c.self.inside.tape c.self.inside.log in
    let t : State = state_at c.step_within.new.core (memory_in c.step_within.new.bus) c.step_within.new.tape c.step_within.new.log in
    let room : step_cost s ≤ c.args.limit - c.self.inside.cycles =
    paid_room s t (c.args.limit - c.self.inside.cycles) c.step_within.result c.step_within.ensures.answer c.in-Ok-Some.paid (c.in-Ok-Some.is ∙ ap Ok c.in-Ok-Some.field-0-is) in
    omega (arith, some_cost s)

pub invariant_of-self : goal.invariant_of-self
invariant_of-self c =
    let s : State = state_at c.self.inside.core (memory_in c.self.inside.memory) c.self.inside.tape c.self.inside.log in
    let t : State = state_at c.step_within.new.core (memory_in c.step_within.new.bus) c.step_within.new.tape c.step_within.new.log in
    let cost : c.in-Ok-Some.paid.cost ≡ step_cost s =
    paid_cost s t (c.args.limit - c.self.inside.cycles) c.step_within.result c.step_within.ensures.answer c.in-Ok-Some.paid (c.in-Ok-Some.is ∙ ap Ok c.in-Ok-Some.field-0-is) in
    record {
      going = record {
        aligned = c.step_within.ensures.aligned;
        least = omega (arith, some_cost s, ap (λ (p : Paid). p.cost) c.in-Ok-Some.paid-is, c.from.ensures, c.self.invariant.going.least);
        most = omega (arith, ap (λ (p : Paid). p.cost) c.in-Ok-Some.paid-is, c.from.ensures, (step_is_small s c.self.invariant.going.aligned).0, c.self.invariant.going.most);
      };
      rest = rest_on s t c.self.invariant.going.aligned (paid_went s t (c.args.limit - c.self.inside.cycles) c.step_within.result c.step_within.ensures.answer c.in-Ok-Some.paid (c.in-Ok-Some.is ∙ ap Ok c.in-Ok-Some.field-0-is) (sym (ap (λ (p : Paid). p.event) c.in-Ok-Some.paid-is) ∙ c.in-Went.is)) c.self.invariant.rest;
    }

pub invariant_of-self-in-Halted : goal.invariant_of-self-in-Halted
invariant_of-self-in-Halted c =
    let s : State = state_at c.self.inside.core (memory_in c.self.inside.memory) c.self.inside.tape c.self.inside.log in
    let t : State = state_at c.step_within.new.core (memory_in c.step_within.new.bus) c.step_within.new.tape c.step_within.new.log in
    let cost : c.in-Ok-Some.paid.cost ≡ step_cost s =
    paid_cost s t (c.args.limit - c.self.inside.cycles) c.step_within.result c.step_within.ensures.answer c.in-Ok-Some.paid (c.in-Ok-Some.is ∙ ap Ok c.in-Ok-Some.field-0-is) in
    record {
      going = record {
        aligned = c.step_within.ensures.aligned;
        least = omega (arith, some_cost s, ap (λ (p : Paid). p.cost) c.in-Ok-Some.paid-is, c.from.ensures, c.self.invariant.going.least);
        most = omega (arith, ap (λ (p : Paid). p.cost) c.in-Ok-Some.paid-is, c.from.ensures, (step_is_small s c.self.invariant.going.aligned).0, c.self.invariant.going.most);
      };
      rest = rest_same s t (paid_halted s t (c.args.limit - c.self.inside.cycles) c.step_within.result c.step_within.ensures.answer c.in-Ok-Some.paid c.in-Halted.code (c.in-Ok-Some.is ∙ ap Ok c.in-Ok-Some.field-0-is) (sym (ap (λ (p : Paid). p.event) c.in-Ok-Some.paid-is) ∙ c.in-Halted.is)).1 c.self.invariant.rest;
    }

pub unreachable-requires : goal.unreachable-requires
unreachable-requires c =
    let s : State = state_at c.self.inside.core (memory_in c.self.inside.memory) c.self.inside.tape c.self.inside.log in
    let t : State = state_at c.step_within.new.core (memory_in c.step_within.new.bus) c.step_within.new.tape c.step_within.new.log in
    no_miss s t (c.args.limit - c.self.inside.cycles) c.step_within.result c.step_within.ensures.answer c.in-Err-Miss.field-0-0 c.self.invariant.going.aligned
    (c.in-Err-Miss.is ∙ ap Err c.in-Err-Miss.field-0-is)

pub returns-in-Went-clause-stands : goal.returns-in-Went-clause-stands
returns-in-Went-clause-stands c image words stands =
    let s : State = state_at c.self.inside.core (memory_in c.self.inside.memory) c.self.inside.tape c.self.inside.log in
    let t : State = state_at c.step_within.new.core (memory_in c.step_within.new.bus) c.step_within.new.tape c.step_within.new.log in
    let took : c.step_within.result ≡ Ok (Some c.in-Ok-Some.paid) = c.in-Ok-Some.is ∙ ap Ok c.in-Ok-Some.field-0-is in
    let cost : c.in-Ok-Some.paid.cost ≡ step_cost s =
    paid_cost s t (c.args.limit - c.self.inside.cycles) c.step_within.result c.step_within.ensures.answer c.in-Ok-Some.paid took in
    stands_on _ _ (all_words c.self.inside.tape c.step_within.new.tape c.step_within.ensures.same_words) refl (ap (λ (n : ℕ). c.self.inside.cycles + n) (c.from.ensures ∙ ap (λ (p : Paid). p.cost) c.in-Ok-Some.paid-is ∙ cost)) c.in_default.is image words
    (subst (λ (g : Going). IsRunOf g image words) (sym c.self.view_is) stands) c.in_default.is
    (paid_went s t (c.args.limit - c.self.inside.cycles) c.step_within.result c.step_within.ensures.answer c.in-Ok-Some.paid took (sym (ap (λ (p : Paid). p.event) c.in-Ok-Some.paid-is) ∙ c.in-Went.is))

pub returns-in-Went-clause-went : goal.returns-in-Went-clause-went
returns-in-Went-clause-went c =
    let s : State = state_at c.self.inside.core (memory_in c.self.inside.memory) c.self.inside.tape c.self.inside.log in
    let t : State = state_at c.step_within.new.core (memory_in c.step_within.new.bus) c.step_within.new.tape c.step_within.new.log in
    let cost : c.in-Ok-Some.paid.cost ≡ step_cost s =
    paid_cost s t (c.args.limit - c.self.inside.cycles) c.step_within.result c.step_within.ensures.answer c.in-Ok-Some.paid (c.in-Ok-Some.is ∙ ap Ok c.in-Ok-Some.field-0-is) in (
      sym (ap (λ (g : Going). g.halted) c.self.view_is) ∙ c.in_default.is,
      c.in_default.is,
      record {
        steps = ap (λ (g : Going). g.steps + 1) c.self.view_is;
        cycles = omega (arith, some_cost s, ap (λ (p : Paid). p.cost) c.in-Ok-Some.paid-is, c.from.ensures, ap (λ (g : Going). g.cycles) c.self.view_is);
      },
    )

pub returns-in-Halted-clause-stands : goal.returns-in-Halted-clause-stands
returns-in-Halted-clause-stands c image words stands =
    let s : State = state_at c.self.inside.core (memory_in c.self.inside.memory) c.self.inside.tape c.self.inside.log in
    let t : State = state_at c.step_within.new.core (memory_in c.step_within.new.bus) c.step_within.new.tape c.step_within.new.log in
    let took : c.step_within.result ≡ Ok (Some c.in-Ok-Some.paid) = c.in-Ok-Some.is ∙ ap Ok c.in-Ok-Some.field-0-is in
    let cost : c.in-Ok-Some.paid.cost ≡ step_cost s =
    paid_cost s t (c.args.limit - c.self.inside.cycles) c.step_within.result c.step_within.ensures.answer c.in-Ok-Some.paid took in
    let halts : (step_of s ≡ Halted c.in-Halted.code) × (t ≡ s) =
    paid_halted s t (c.args.limit - c.self.inside.cycles) c.step_within.result c.step_within.ensures.answer c.in-Ok-Some.paid c.in-Halted.code took (sym (ap (λ (p : Paid). p.event) c.in-Ok-Some.paid-is) ∙ c.in-Halted.is) in
    stands_halted _ _ (all_words c.self.inside.tape c.step_within.new.tape c.step_within.ensures.same_words) refl (ap (λ (n : ℕ). c.self.inside.cycles + n) (c.from.ensures ∙ ap (λ (p : Paid). p.cost) c.in-Ok-Some.paid-is ∙ cost)) c.in_default.is image words
    (subst (λ (g : Going). IsRunOf g image words) (sym c.self.view_is) stands) c.in-Halted.code refl halts.0 halts.1

pub returns-in-Halted-clause-ended : goal.returns-in-Halted-clause-ended
returns-in-Halted-clause-ended c image words stands =
    let s : State = state_at c.self.inside.core (memory_in c.self.inside.memory) c.self.inside.tape c.self.inside.log in
    let t : State = state_at c.step_within.new.core (memory_in c.step_within.new.bus) c.step_within.new.tape c.step_within.new.log in
    let took : c.step_within.result ≡ Ok (Some c.in-Ok-Some.paid) = c.in-Ok-Some.is ∙ ap Ok c.in-Ok-Some.field-0-is in
    let cost : c.in-Ok-Some.paid.cost ≡ step_cost s =
    paid_cost s t (c.args.limit - c.self.inside.cycles) c.step_within.result c.step_within.ensures.answer c.in-Ok-Some.paid took in
    let room : step_cost s ≤ c.args.limit - c.self.inside.cycles =
    paid_room s t (c.args.limit - c.self.inside.cycles) c.step_within.result c.step_within.ensures.answer c.in-Ok-Some.paid took in
    ends_halted _ image words c.args.limit (returns-in-Halted-clause-stands c image words stands)
    (omega (arith, c.requires, ap (λ (p : Paid). p.cost) c.in-Ok-Some.paid-is, c.from.ensures, ap (λ (g : Going). g.cycles) c.self.view_is)) c.in-Halted.code refl

pub returns-in-Halted-clause-last : goal.returns-in-Halted-clause-last
returns-in-Halted-clause-last c _ =
    let s : State = state_at c.self.inside.core (memory_in c.self.inside.memory) c.self.inside.tape c.self.inside.log in
    let t : State = state_at c.step_within.new.core (memory_in c.step_within.new.bus) c.step_within.new.tape c.step_within.new.log in
    let cost : c.in-Ok-Some.paid.cost ≡ step_cost s =
    paid_cost s t (c.args.limit - c.self.inside.cycles) c.step_within.result c.step_within.ensures.answer c.in-Ok-Some.paid (c.in-Ok-Some.is ∙ ap Ok c.in-Ok-Some.field-0-is) in (
      record {
        steps = ap (λ (g : Going). g.steps + 1) c.self.view_is;
        cycles = omega (arith, some_cost s, ap (λ (p : Paid). p.cost) c.in-Ok-Some.paid-is, c.from.ensures, ap (λ (g : Going). g.cycles) c.self.view_is);
      },
      refl,
    )

pub returns-in-Ok-None-clause-ended : goal.returns-in-Ok-None-clause-ended
returns-in-Ok-None-clause-ended c image words stands =
    let s : State = state_at c.self.inside.core (memory_in c.self.inside.memory) c.self.inside.tape c.self.inside.log in
    let t : State = state_at c.step_within.new.core (memory_in c.step_within.new.bus) c.step_within.new.tape c.step_within.new.log in
    let dear : (c.args.limit - c.self.inside.cycles < step_cost s) × (t ≡ s) =
    too_dear s t (c.args.limit - c.self.inside.cycles) c.step_within.result c.step_within.ensures.answer (c.in-Ok-None.is ∙ ap Ok c.in-Ok-None.field-0-is) in
    ends_over _ image words c.args.limit (stands_still _ _ dear.1 (all_words c.self.inside.tape c.step_within.new.tape c.step_within.ensures.same_words) refl refl refl image words (subst (λ (g : Going). IsRunOf g image words) (sym c.self.view_is) stands))
    (omega (arith, c.requires, ap (λ (g : Going). g.cycles) c.self.view_is)) c.in_default.is
    (subst (λ (u : State). c.args.limit - c.self.inside.cycles < step_cost u) (sym dear.1) dear.0)

pub returns-in-Err-Fault-clause-ended : goal.returns-in-Err-Fault-clause-ended
returns-in-Err-Fault-clause-ended c image words stands =
    let s : State = state_at c.self.inside.core (memory_in c.self.inside.memory) c.self.inside.tape c.self.inside.log in
    let t : State = state_at c.step_within.new.core (memory_in c.step_within.new.bus) c.step_within.new.tape c.step_within.new.log in
    let faults : (step_cost s ≤ c.args.limit - c.self.inside.cycles) × (step_of s ≡ Faulted c.in-Err-Fault.fault) × (t ≡ s) =
    paid_fault s t (c.args.limit - c.self.inside.cycles) c.step_within.result c.step_within.ensures.answer c.in-Err-Fault.fault (c.in-Err-Fault.is ∙ ap Err c.in-Err-Fault.field-0-is) in
    ends_faulted _ image words c.args.limit (stands_still _ _ faults.2 (all_words c.self.inside.tape c.step_within.new.tape c.step_within.ensures.same_words) refl refl refl image words (subst (λ (g : Going). IsRunOf g image words) (sym c.self.view_is) stands))
    (omega (arith, c.requires, ap (λ (g : Going). g.cycles) c.self.view_is)) c.in_default.is c.in-Err-Fault.fault
    (subst (λ (u : State). step_cost u ≤ c.args.limit - c.self.inside.cycles) (sym faults.2) faults.0)
    (ap step_of faults.2 ∙ faults.1)

pub invariant_of-self-in-Ok-None : goal.invariant_of-self-in-Ok-None
invariant_of-self-in-Ok-None c =
    let s : State = state_at c.self.inside.core (memory_in c.self.inside.memory) c.self.inside.tape c.self.inside.log in
    let t : State = state_at c.step_within.new.core (memory_in c.step_within.new.bus) c.step_within.new.tape c.step_within.new.log in
    let same : t ≡ s = (too_dear s t (c.args.limit - c.self.inside.cycles) c.step_within.result c.step_within.ensures.answer (c.in-Ok-None.is ∙ ap Ok c.in-Ok-None.field-0-is)).1 in
    uncut_same _ _ (ap (λ (u : State). u.pc) same) (ap (λ (u : State). u.memory) same) refl refl c.self.invariant

pub invariant_of-self-in-Err-Fault : goal.invariant_of-self-in-Err-Fault
invariant_of-self-in-Err-Fault c =
    let s : State = state_at c.self.inside.core (memory_in c.self.inside.memory) c.self.inside.tape c.self.inside.log in
    let t : State = state_at c.step_within.new.core (memory_in c.step_within.new.bus) c.step_within.new.tape c.step_within.new.log in
    let same : t ≡ s = (paid_fault s t (c.args.limit - c.self.inside.cycles) c.step_within.result c.step_within.ensures.answer c.in-Err-Fault.fault (c.in-Err-Fault.is ∙ ap Err c.in-Err-Fault.field-0-is)).2 in
    uncut_same _ _ (ap (λ (u : State). u.pc) same) (ap (λ (u : State). u.memory) same) refl refl c.self.invariant

pub invariant_of-self-in-Err-Memory : goal.invariant_of-self-in-Err-Memory
invariant_of-self-in-Err-Memory c =
    let s : State = state_at c.self.inside.core (memory_in c.self.inside.memory) c.self.inside.tape c.self.inside.log in
    let t : State = state_at c.step_within.new.core (memory_in c.step_within.new.bus) c.step_within.new.tape c.step_within.new.log in
    let same : t ≡ s = no_memory s t (c.args.limit - c.self.inside.cycles) c.step_within.result c.step_within.ensures.answer (c.in-Err-Memory.is ∙ ap Err c.in-Err-Memory.field-0-is) in
    uncut_same _ _ (ap (λ (u : State). u.pc) same) (ap (λ (u : State). u.memory) same) refl refl c.self.invariant
