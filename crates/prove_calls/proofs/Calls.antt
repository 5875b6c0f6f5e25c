-- The assumption calls of a run, bounded by what its steps cost.
use Rattle.std.proofs.Common.{◌≡◌, ℕ, zero, suc, ◌+◌, ◌*◌, ◌≤◌, length, Some, refl, ap, arith, length-append}
use Rattle.executor.proofs.Forward.{went, no_halt, no_fault}
use Rattle.rv_step.proofs.Runs.{spent_next, step_back}
use Rattle.host_calls.specs.declared.call.Call.{Call}
use Rattle.host_calls.specs.declared.call.Call.TheVariants.{Halt, Read, Commit, Assume}
use Rattle.host_calls.specs.Calls.{cost_of}
use Rattle.rv_step.specs.declared.act.Act.{Act}
use Rattle.rv_step.specs.declared.act.Act.TheVariants.{Sets, Loads, Stores, Does, Faults}
use Rattle.rv_step.specs.Machine.{State, Went, act, call_event, act_event, step_of, cost_of_act, step_cost}
use Rattle.rv_step.specs.Runs.{after, run_cost, IsOutcome}
use Rattle.rv_step.specs.declared.outcome.Outcome.{Outcome}
use Rattle.std.proofs.lemmas.Option.{same_Some}

-- the calls of a state, by those of another
same_calls : (s u t : State) (cost : ℕ) → u ≡ t → length u.calls ≡ length s.calls → 4 * length t.calls ≤ 4 * length s.calls + cost
same_calls s u t cost e size = let same = ap (λ (v : State). length v.calls) e in omega (arith, same, size)

one_call : (s u t : State) → u ≡ t → length u.calls ≡ length s.calls + 1 → 4 * length t.calls ≤ 4 * length s.calls + 17
one_call s u t e size = let same = ap (λ (v : State). length v.calls) e in omega (arith, same, size)

-- ---- a step costs at least 4 for each call that it makes
called_few : (call : Call) (s t : State) → call_event call s ≡ Went t → 4 * length t.calls ≤ 4 * length s.calls + cost_of call
unfolding call_event
called_few (Halt code) s t e = absurd (no_halt code t e)
called_few (Read pointer count) s t e = same_calls s _ t (cost_of (Read pointer count)) (went _ t e) refl
called_few (Commit pointer count) s t e = same_calls s _ t (cost_of (Commit pointer count)) (went _ t e) refl
called_few (Assume image journal) s t e = one_call s _ t (went _ t e) (length-append s.calls _)

done_few : (a : Act) (s t : State) → act_event a s ≡ Went t → 4 * length t.calls ≤ 4 * length s.calls + cost_of_act a
unfolding act_event
done_few (Sets pc rd v) s t e = same_calls s _ t 1 (went _ t e) refl
done_few (Loads op rd a) s t e = same_calls s _ t 1 (went _ t e) refl
done_few (Stores op a v) s t e = same_calls s _ t 1 (went _ t e) refl
done_few (Does call) s t e = called_few call s t e
done_few (Faults fault) s t e = absurd (no_fault fault t e)

step_few : (s t : State) → step_of s ≡ Went t → 4 * length t.calls ≤ 4 * length s.calls + step_cost s
unfolding step_of step_cost
step_few s t e = done_few (act s) s t e

-- ---- and so do the steps of a run
pub few_calls : (s : State) (n : ℕ) (t : State) → after s n ≡ Some t → 4 * length t.calls ≤ 4 * length s.calls + run_cost s n
unfolding after
few_calls s zero t h = let same = ap (λ (u : State). length u.calls) (same_Some s t h) in omega (arith, same)
few_calls s (suc n) t h =
    let (u, before, goes) = step_back s n t h in
    omega (arith, few_calls s n u before, step_few u t goes, spent_next s n u before)

-- up to its outcome
pub calls_within : (s : State) (limit : ℕ) (o : Outcome) (ends : IsOutcome s limit o) → 4 * length ends.state.calls ≤ 4 * length s.calls + limit
calls_within s limit o ends =
    let few = few_calls s ends.step ends.state ends.reached in
    let afforded : run_cost s ends.step ≤ limit = ends.afforded in
    omega (arith, few, afforded)
