-- A run has one outcome under a limit.
use Rattle.std.proofs.Common.{◌≡◌, ⊎_elim, ℕ, suc, ◌+◌, ◌<◌, ◌≤◌, Bool, true, false, cond, ltb, Some, refl, sym, ap, ◌∙◌, subst, arith}
use Rattle.std.proofs.lemmas.Bool.{cases_lt, ltb-true}
use Rattle.std.proofs.lemmas.Option.{same_Some, none-some}
use Rattle.rv_step.specs.Machine.{State, Event, Went, step_of, step_cost}
use Rattle.rv_step.specs.Runs.{after, run_cost, ends_with, verdict, IsOutcome}
use Rattle.rv_step.specs.declared.outcome.Outcome.{Outcome}
use Rattle.rv_step.specs.declared.outcome.Outcome.TheVariants.{OverLimit}
use Rattle.rv_step.proofs.Runs.{step_back, spent_next}
use Rattle.executor.proofs.Cutting.{before_end, spent_grows}

-- a run goes on after no step that ends it
ends_here : (limit c k pc : ℕ) (t u : State) (b : Bool) (o : Outcome) → ltb limit (c + step_cost t) ≡ b → c + step_cost t ≤ limit → step_of t ≡ Went u
    → cond b (Some (OverLimit k)) (ends_with k pc (step_of t)) ≡ Some o → ⊥
ends_here limit c k pc t u true o test within goes ended = let over = ltb-true limit (c + step_cost t) test in omega (arith, over, within)
ends_here limit c k pc t u false o test within goes ended = none-some o (subst (λ (e : Event). ends_with k pc e ≡ Some o) goes ended)

module _ (s : State) (limit : ℕ) where
  -- no outcome comes later than another
  not_later : (o p : Outcome) (x : IsOutcome s limit o) (y : IsOutcome s limit p) → x.step < y.step → ⊥
  not_later o p x y earlier =
      let k : ℕ = x.step in
      let (v, there) = before_end s y.step y.state (suc k) y.reached (omega (arith, earlier)) in
      let (u, here, goes) = step_back s k v there in
      let same : u ≡ x.state = same_Some u x.state (sym here ∙ x.reached) in
      let went : step_of x.state ≡ Went v = subst (λ (t : State). step_of t ≡ Went v) same goes in
      let cost : run_cost s (suc k) ≡ run_cost s k + step_cost x.state = spent_next s k x.state x.reached in
      let within : run_cost s (suc k) ≤ run_cost s y.step = spent_grows s (suc k) y.step (omega (arith, earlier)) in
      let afforded : run_cost s y.step ≤ limit = y.afforded in
      ends_here limit (run_cost s k) k x.state.pc x.state v (ltb limit (run_cost s k + step_cost x.state)) o refl (omega (arith, cost, within, afforded)) went x.ended

  pub same_step : (o p : Outcome) (x : IsOutcome s limit o) (y : IsOutcome s limit p) → x.step ≡ y.step
  same_step o p x y =
      ⊎_elim (λ earlier. absurd (not_later o p x y earlier))
      (λ from. ⊎_elim (λ later. absurd (not_later p o y x later)) (λ to. omega (arith, from, to)) (cases_lt y.step x.step))
      (cases_lt x.step y.step)

  pub one_outcome : (o p : Outcome) → IsOutcome s limit o → IsOutcome s limit p → o ≡ p
  one_outcome o p x y =
      let step : x.step ≡ y.step = same_step o p x y in
      let state : x.state ≡ y.state = same_Some x.state y.state (sym x.reached ∙ ap (after s) step ∙ y.reached) in
      let ended : verdict limit (run_cost s y.step) y.step y.state ≡ Some o =
      subst (λ (t : State). verdict limit (run_cost s y.step) y.step t ≡ Some o) state
      (subst (λ (k : ℕ). verdict limit (run_cost s k) k x.state ≡ Some o) step x.ended) in
      same_Some o p (sym ended ∙ y.ended)
