use Rattle.std.proofs.Common.{ℕ, Bool, List, refl, sym, ap, ◌∙◌}
use Rattle.rv_step.specs.declared.act.Act.TheVariants.{Sets, Loads, Stores, Does, Faults}
use Rattle.rv_step.specs.Machine.{State, Went}
use Rattle.rv_step.specs.Stepping.{state_at, IsNext}
use Rattle.rv_step.proofs.Steps.{next_as, next_place, next_sound, next_open, next_supplied, step_answers, call_answers, sets_done, fault_done, open_start, load_some, store_some}
use Rattle.rv_step.proofs.stepping.perform_act.Goals as goal

pub load-requires-clause-place : goal.load-requires-clause-place
load-requires-clause-place g c =
    let o : ℕ → Bool = g.B.Bus.opens c.args.bus.now in
    let s : State = state_at c.args.core.now (g.B.Bus.byte_at c.args.bus.now) c.args.tape.now c.args.log.now in
    let next : IsNext o s (Loads c.in-Loads.op c.in-Loads.rd c.in-Loads.address) = next_as o s c.args.act _ c.in-Loads.is c.requires.next in
    next_place o s _ next refl

pub load-requires-clause-aligned : goal.load-requires-clause-aligned
load-requires-clause-aligned g c =
    let o : ℕ → Bool = g.B.Bus.opens c.args.bus.now in
    let s : State = state_at c.args.core.now (g.B.Bus.byte_at c.args.bus.now) c.args.tape.now c.args.log.now in
    let next : IsNext o s (Loads c.in-Loads.op c.in-Loads.rd c.in-Loads.address) = next_as o s c.args.act _ c.in-Loads.is c.requires.next in
    (next_sound o s _ next c.requires.aligned).aligned

pub load-requires-clause-opened : goal.load-requires-clause-opened
load-requires-clause-opened g c =
    let o : ℕ → Bool = g.B.Bus.opens c.args.bus.now in
    let s : State = state_at c.args.core.now (g.B.Bus.byte_at c.args.bus.now) c.args.tape.now c.args.log.now in
    let next : IsNext o s (Loads c.in-Loads.op c.in-Loads.rd c.in-Loads.address) = next_as o s c.args.act _ c.in-Loads.is c.requires.next in
    open_start o c.in-Loads.address _ (load_some c.in-Loads.op) (next_open o s _ next).0

pub store-requires-clause-place : goal.store-requires-clause-place
store-requires-clause-place g c =
    let o : ℕ → Bool = g.B.Bus.opens c.args.bus.now in
    let s : State = state_at c.args.core.now (g.B.Bus.byte_at c.args.bus.now) c.args.tape.now c.args.log.now in
    let next : IsNext o s (Stores c.in-Stores.op c.in-Stores.address c.in-Stores.value) = next_as o s c.args.act _ c.in-Stores.is c.requires.next in
    next_place o s _ next refl

pub store-requires-clause-aligned : goal.store-requires-clause-aligned
store-requires-clause-aligned g c =
    let o : ℕ → Bool = g.B.Bus.opens c.args.bus.now in
    let s : State = state_at c.args.core.now (g.B.Bus.byte_at c.args.bus.now) c.args.tape.now c.args.log.now in
    let next : IsNext o s (Stores c.in-Stores.op c.in-Stores.address c.in-Stores.value) = next_as o s c.args.act _ c.in-Stores.is c.requires.next in
    (next_sound o s _ next c.requires.aligned).aligned

pub store-requires-clause-opened : goal.store-requires-clause-opened
store-requires-clause-opened g c =
    let o : ℕ → Bool = g.B.Bus.opens c.args.bus.now in
    let s : State = state_at c.args.core.now (g.B.Bus.byte_at c.args.bus.now) c.args.tape.now c.args.log.now in
    let next : IsNext o s (Stores c.in-Stores.op c.in-Stores.address c.in-Stores.value) = next_as o s c.args.act _ c.in-Stores.is c.requires.next in
    open_start o c.in-Stores.address _ (store_some c.in-Stores.op) (next_open o s _ next).0

pub perform-requires-clause-place : goal.perform-requires-clause-place
perform-requires-clause-place g c =
    let o : ℕ → Bool = g.B.Bus.opens c.args.bus.now in
    let s : State = state_at c.args.core.now (g.B.Bus.byte_at c.args.bus.now) c.args.tape.now c.args.log.now in
    let next : IsNext o s (Does c.in-Does.call) = next_as o s c.args.act _ c.in-Does.is c.requires.next in
    next_place o s _ next refl

pub perform-requires-clause-limits : goal.perform-requires-clause-limits
perform-requires-clause-limits g c =
    let o : ℕ → Bool = g.B.Bus.opens c.args.bus.now in
    let s : State = state_at c.args.core.now (g.B.Bus.byte_at c.args.bus.now) c.args.tape.now c.args.log.now in
    let next : IsNext o s (Does c.in-Does.call) = next_as o s c.args.act _ c.in-Does.is c.requires.next in
    (next_sound o s _ next c.requires.aligned).limits

pub perform-requires-clause-aligned : goal.perform-requires-clause-aligned
perform-requires-clause-aligned g c =
    let o : ℕ → Bool = g.B.Bus.opens c.args.bus.now in
    let s : State = state_at c.args.core.now (g.B.Bus.byte_at c.args.bus.now) c.args.tape.now c.args.log.now in
    let next : IsNext o s (Does c.in-Does.call) = next_as o s c.args.act _ c.in-Does.is c.requires.next in
    (next_sound o s _ next c.requires.aligned).aligned

pub perform-requires-clause-below : goal.perform-requires-clause-below
perform-requires-clause-below g c =
    let o : ℕ → Bool = g.B.Bus.opens c.args.bus.now in
    let s : State = state_at c.args.core.now (g.B.Bus.byte_at c.args.bus.now) c.args.tape.now c.args.log.now in
    let next : IsNext o s (Does c.in-Does.call) = next_as o s c.args.act _ c.in-Does.is c.requires.next in
    (next_sound o s _ next c.requires.aligned).below

pub perform-requires-clause-opened : goal.perform-requires-clause-opened
perform-requires-clause-opened g c =
    let o : ℕ → Bool = g.B.Bus.opens c.args.bus.now in
    let s : State = state_at c.args.core.now (g.B.Bus.byte_at c.args.bus.now) c.args.tape.now c.args.log.now in
    let next : IsNext o s (Does c.in-Does.call) = next_as o s c.args.act _ c.in-Does.is c.requires.next in
    next_open o s _ next

pub perform-requires-clause-supplied : goal.perform-requires-clause-supplied
perform-requires-clause-supplied g c =
    let o : ℕ → Bool = g.B.Bus.opens c.args.bus.now in
    let s : State = state_at c.args.core.now (g.B.Bus.byte_at c.args.bus.now) c.args.tape.now c.args.log.now in
    let next : IsNext o s (Does c.in-Does.call) = next_as o s c.args.act _ c.in-Does.is c.requires.next in
    next_supplied o s _ next

pub returns-in-Sets-clause-aligned : goal.returns-in-Sets-clause-aligned
returns-in-Sets-clause-aligned g c =
    let o : ℕ → Bool = g.B.Bus.opens c.args.bus.now in
    let s : State = state_at c.args.core.now (g.B.Bus.byte_at c.args.bus.now) c.args.tape.now c.args.log.now in
    let next : IsNext o s (Sets c.in-Sets.pc c.in-Sets.rd c.in-Sets.value) = next_as o s c.args.act _ c.in-Sets.is c.requires.next in
    (next_sound o s _ next c.requires.aligned).goes.0

pub returns-in-Sets-clause-answer : goal.returns-in-Sets-clause-answer
returns-in-Sets-clause-answer g c =
    let o : ℕ → Bool = g.B.Bus.opens c.args.bus.now in
    let s : State = state_at c.args.core.now (g.B.Bus.byte_at c.args.bus.now) c.args.tape.now c.args.log.now in
    let next : IsNext o s (Sets c.in-Sets.pc c.in-Sets.rd c.in-Sets.value) = next_as o s c.args.act _ c.in-Sets.is c.requires.next in
    step_answers o s _ _ next (sets_done c.in-Sets.pc c.in-Sets.rd c.in-Sets.value s ∙ ap (λ (x : List ℕ). Went (record s { pc = c.in-Sets.pc; x = x })) (sym c.set.ensures))

pub returns-in-Loads-clause-answer : goal.returns-in-Loads-clause-answer
returns-in-Loads-clause-answer g c =
    let o : ℕ → Bool = g.B.Bus.opens c.args.bus.now in
    let s : State = state_at c.args.core.now (g.B.Bus.byte_at c.args.bus.now) c.args.tape.now c.args.log.now in
    let next : IsNext o s (Loads c.in-Loads.op c.in-Loads.rd c.in-Loads.address) = next_as o s c.args.act _ c.in-Loads.is c.requires.next in
    step_answers o s _ _ next (c.load.ensures.went c.args.tape.now c.args.log.now)

pub returns-in_ok-store-in-Stores-clause-answer : goal.returns-in_ok-store-in-Stores-clause-answer
returns-in_ok-store-in-Stores-clause-answer g c =
    let o : ℕ → Bool = g.B.Bus.opens c.args.bus.now in
    let s : State = state_at c.args.core.now (g.B.Bus.byte_at c.args.bus.now) c.args.tape.now c.args.log.now in
    let next : IsNext o s (Stores c.in-Stores.op c.in-Stores.address c.in-Stores.value) = next_as o s c.args.act _ c.in-Stores.is c.requires.next in
    step_answers o s _ _ next (c.in_ok-store-in-Stores.ensures.went c.args.tape.now c.args.log.now)

pub returns-in-Does-clause-answer : goal.returns-in-Does-clause-answer
returns-in-Does-clause-answer g c =
    let o : ℕ → Bool = g.B.Bus.opens c.args.bus.now in
    let s : State = state_at c.args.core.now (g.B.Bus.byte_at c.args.bus.now) c.args.tape.now c.args.log.now in
    let next : IsNext o s (Does c.in-Does.call) = next_as o s c.args.act _ c.in-Does.is c.requires.next in
    call_answers o s _ c.in-Does.call c.perform.result next c.perform.ensures.answer

pub returns-in-Faults-clause-answer : goal.returns-in-Faults-clause-answer
returns-in-Faults-clause-answer g c =
    let o : ℕ → Bool = g.B.Bus.opens c.args.bus.now in
    let s : State = state_at c.args.core.now (g.B.Bus.byte_at c.args.bus.now) c.args.tape.now c.args.log.now in
    let next : IsNext o s (Faults c.in-Faults.fault) = next_as o s c.args.act _ c.in-Faults.is c.requires.next in
    let (none, is) = step_answers o s _ _ next (fault_done c.in-Faults.fault s) in (none, (is, refl {a = s}))
