-- A run over pages that its footprints lie in.
use Rattle.std.proofs.Common.{◌≡◌, ℕ, zero, suc, ◌+◌, List, refl, sym, ap, ap₂, ◌∙◌, subst, arith, Option, Some, None, option_and_then, add-zero}
use Rattle.std.proofs.lemmas.Option.{same_Some, none-some}
use Rattle.rv_isa.specs.declared.fault.Fault.{Fault}
use Rattle.rv_step.specs.Machine.{State, Event, Went, Halted, Faulted, step_of, step_cost}
use Rattle.rv_step.specs.Runs.{after, run_cost, state_gone, at_some}
use Rattle.rv_step.specs.Laws.{IsReady, Beside, Alike, AlikeEvents, RunReadsItsFeet}
use Rattle.rv_step.proofs.Frame.{step_reads_its_foot}
use Rattle.rv_step.proofs.Kept.{step_keeps}

-- the step before
pub gone : (e : Event) (t : State) → state_gone e ≡ Some t → e ≡ Went t
gone (Went s) t h = ap Went (same_Some s t h)
gone (Halted c) t h = absurd (none-some t h)
gone (Faulted f) t h = absurd (none-some t h)

pub back : (o : Option State) (t : State) → option_and_then (λ u. state_gone (step_of u)) o ≡ Some t
    → (u : State) × (o ≡ Some u) × (step_of u ≡ Went t)
back (Some u) t h = (u, refl, gone (step_of u) t h)
back None t h = absurd (none-some t h)

pub step_back : (s : State) (n : ℕ) (t : State) → after s (suc n) ≡ Some t → (u : State) × (after s n ≡ Some u) × (step_of u ≡ Went t)
unfolding after
step_back s n t h = back (after s n) t h

-- what each step that goes on keeps, a run keeps
pub run_keeps : (P : State → Type 0) → ((u v : State) → step_of u ≡ Went v → P u → P v) → (s : State) (n : ℕ) (t : State) → P s → after s n ≡ Some t → P t
unfolding after
run_keeps P keeps s zero t h e = subst P (same_Some s t e) h
run_keeps P keeps s (suc n) t h e = let (u, before, goes) = step_back s n t e in keeps u t goes (run_keeps P keeps s n u h before)

pub step_on : (s : State) (n : ℕ) (t u : State) → after s n ≡ Some t → step_of t ≡ Went u → after s (suc n) ≡ Some u
unfolding after
step_on s n t u h e = ap (option_and_then (λ t. state_gone (step_of t))) h ∙ ap state_gone e

pub not_ended : (s t : State) (f : Fault) → step_of s ≡ Went t → step_of s ≡ Faulted f → ⊥
not_ended s t f e h = cc

-- what is like a step that went went
like_went : (pages : List ℕ) (more : Beside) (s : State) (e : Event) → AlikeEvents pages more (Went s) e
    → (t : State) × (e ≡ Went t) × Alike pages more s t
like_went pages more s (Went t) h = (t, refl, h)
like_went pages more s (Halted c) h = absurd h
like_went pages more s (Faulted f) h = absurd h

pub like_halted : (pages : List ℕ) (more : Beside) (c : ℕ) (e : Event) → AlikeEvents pages more (Halted c) e → e ≡ Halted c
like_halted pages more c (Went t) h = absurd h
like_halted pages more c (Halted d) h = ap Halted h
like_halted pages more c (Faulted f) h = absurd h

pub spent_next : (s : State) (n : ℕ) (t : State) → after s n ≡ Some t → run_cost s (suc n) ≡ run_cost s n + step_cost t
unfolding run_cost
spent_next s n t h = ap (λ o. run_cost s n + at_some step_cost o) h

pub run_reads_its_feet : RunReadsItsFeet
unfolding after run_cost
run_reads_its_feet pages more s r zero t ready same h feet =
    let e : s ≡ t = same_Some s t h in
    (r, refl, subst (λ (u : State). Alike pages more u r) e same, refl, subst (λ (u : State). IsReady u) e ready)
run_reads_its_feet pages more s r (suc n) t ready same h feet =
    let (u, before, goes) = step_back s n t h in
    let (v, reached, alike, costs, fit) = run_reads_its_feet pages more s r n u ready same before (λ k w l e. feet k w (omega arith) e) in
    let (foot, cost, events) = step_reads_its_foot pages more u v fit.aligned alike (feet n u (omega arith) before)
    (λ f. absurd (not_ended u t _ goes f)) in
    let (w, on, like) = like_went pages more t (step_of v)
    (subst (λ (e : Event). AlikeEvents pages more e (step_of v)) goes events) in (
      w,
      step_on r n v w reached on,
      like,
      spent_next r n v reached ∙ ap₂ ◌+◌ costs cost ∙ sym (spent_next s n u before),
      (step_keeps u t goes).ready fit,
    )

pub after-add : (s : State) (b n : ℕ) (t : State) → after s b ≡ Some t → after s (b + n) ≡ after t n
unfolding after
after-add s b zero t h = ap (after s) (add-zero b) ∙ h
after-add s b (suc n) t h =
    let e : b + suc n ≡ suc (b + n) = omega arith in
    ap (after s) e ∙ ap (option_and_then (λ u. state_gone (step_of u))) (after-add s b n t h)
