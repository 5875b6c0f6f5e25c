-- The segments of a run have all steps that are done, and these are the steps up to its outcome.
use Rattle.std.proofs.Common.{◌≡◌, ⊎_elim, ℕ, zero, suc, ◌+◌, ◌-◌, ◌%◌, ◌<◌, ◌≤◌, Bool, true, false, cond, ltb, List, ◌∷◌, length, Option, Some, None, option_and_then, refl, sym, ap, ◌∙◌, subst, arith}
use Rattle.std.proofs.lemmas.Bool.Decides.{nat_tests, eqb_tells}
use Rattle.rv_step.specs.Machine.{State, Event, Went, Halted, Faulted, step_of, step_cost, foot_of}
use Rattle.rv_step.specs.Runs.{after, run_cost, run_pages, state_gone, ends_with, steps_done}
use Rattle.rv_step.specs.Laws.{IsReady}
use Rattle.rv_step.specs.declared.outcome.Outcome.{Outcome}
use Rattle.rv_step.specs.declared.outcome.Outcome.TheVariants.{OverLimit}
use Rattle.std.proofs.lemmas.Bool.{false_from_ne_true, true≢false}
use Rattle.std.proofs.lemmas.Option.{same_Some}
use Rattle.rv_step.proofs.Runs.{step_back, after-add, spent_next}
use Rattle.rv_step.proofs.Small.{step_is_small}
use Rattle.executor.specs.Segments.{Limits, is_fault, is_done_at, done_in, segment_fits, longest, segments, total}
use Rattle.executor.specs.Laws.{AreLimits, AreLengths, SegmentsCover, DoneToOutcome}
use Rattle.page_core.proofs.Ascending.{length-ascending}
use Rattle.executor.proofs.Cutting.{run_ready, before_end, spent_grows, done_at_tells, done_at_from, done_in_tells, done_in_is, fits_from, longest_low, longest_some, segments_none, segments_some}

-- ---- one step fits into a segment
spent_one : (s : State) → run_cost s 1 ≡ step_cost s
unfolding run_cost after
spent_one s = omega arith

touched_one : (s : State) → run_pages s 1 ≡ foot_of s
unfolding run_pages after
touched_one s = refl

pub one_fits : (l : Limits) (s : State) → AreLimits l → s.pc % 4 ≡ 0 → segment_fits l s 1 ≡ true
one_fits l s are aligned =
    let (cost, pages) = step_is_small s aligned in
    fits_from l s 1 (omega (arith, are.least_cycles, spent_one s, cost))
    (omega (arith, are.least_pages, length-ascending (run_pages s 1), ap length (touched_one s), pages))

-- ---- the segments
abbrev Covers : List ℕ → ℕ → Type 0
Covers ns n = AreLengths ns × (total ns ≡ n)

-- each of the n steps from s is there, and fits alone
abbrev pub EachFits : Limits → State → ℕ → Type 0
EachFits l s n = (k : ℕ) → k < n → (u : State) × (after s k ≡ Some u) × (segment_fits l u 1 ≡ true)

-- so it is of the steps after the first k
pub later : (l : Limits) (s : State) (k n : ℕ) (t : State) → after s k ≡ Some t → k ≤ n → EachFits l s n → EachFits l t (n - k)
later l s k n t h low each j below =
    let (u, reached, one) = each (k + j) (omega (arith, below, low)) in (u, sym (after-add s k j t h) ∙ reached, one)

pub first_fits : (l : Limits) (s : State) (n : ℕ) → 0 < n → EachFits l s n → segment_fits l s 1 ≡ true
unfolding after
first_fits l s n some each = let (u, here, one) = each 0 some in subst (λ (v : State). segment_fits l v 1 ≡ true) (sym (same_Some s u here)) one

-- one segment, and what covers the rest
one_more : (l : Limits) (most : ℕ) (s : State) (n : ℕ) → 0 < n → (k : ℕ) → longest l s n ≡ k → 0 < k → k ≤ n → Covers (segments l most (after s k) (n - k)) (n - k)
    → Covers (segments l (suc most) (Some s) n) n
one_more l most s n some k is positive low rest =
    let size : total (segments l most (after s k) (n - k)) ≡ n - k = rest.1 in
    let here : Covers (k ∷ segments l most (after s k) (n - k)) n = ((positive, rest.0), omega (arith, size, low)) in
    subst (λ (ns : List ℕ). Covers ns n) (sym (segments_some l most s n some ∙ ap (λ (j : ℕ). j ∷ segments l most (after s j) (n - j)) is)) here

nothing_left : (l : Limits) (most : ℕ) (o : Option State) (m : ℕ) → m ≡ 0 → Covers (segments l most o m) m
nothing_left l most o m e =
    subst (λ (j : ℕ). Covers (segments l most o j) j) (sym e) (subst (λ (ns : List ℕ). Covers ns 0) (sym (segments_none l most o)) (tt, refl))

covers : (l : Limits) (most : ℕ) (s : State) (n : ℕ) → n ≤ most → EachFits l s n → Covers (segments l most (Some s) n) n
covers l zero s n low each = nothing_left l 0 (Some s) n (omega (arith, low))
covers l (suc most) s n low each =
    ⊎_elim (λ t. nothing_left l (suc most) (Some s) n t.1)
    (λ t.
    let some : 0 < n = omega (arith, t.1) in
    let k : ℕ = longest l s n in
    let positive : 0 < k = longest_some l s n some (first_fits l s n some each) in
    let below : k ≤ n = longest_low l s n in
    one_more l most s n some k refl positive below
    (⊎_elim (λ e. nothing_left l most (after s k) (n - k) e.1)
    (λ e.
    let (v, reached, fit) = each k (omega (arith, e.1)) in
    subst (λ (o : Option State). Covers (segments l most o (n - k)) (n - k)) (sym reached)
    (covers l most v (n - k) (omega (arith, positive, low)) (later l s k n v reached below each)))
    (eqb_tells (n - k) 0)))
    (eqb_tells n 0)

-- each step that is done is there, and fits alone
pub each_done_fits : (l : Limits) (s : State) → AreLimits l → IsReady s → EachFits l s (done_in l.limit s)
each_done_fits l s are ready k low =
    let (u, there, cost, fine) = done_at_tells l.limit (run_cost s k) (after s k) (done_in_tells l.limit s k low) in
    (u, there, one_fits l u are (run_ready s k u ready there).aligned)

pub segments_cover : SegmentsCover
segments_cover l s are ready = covers l (done_in l.limit s) s (done_in l.limit s) (omega arith) (each_done_fits l s are ready)

-- ---- the steps up to the outcome
module _ (limit : ℕ) (s : State) (k : ℕ) (t : State) (reached : after s k ≡ Some t) (afforded : run_cost s k ≤ limit) where
  -- the steps before it are done
  earlier_done : (j : ℕ) → j < k → is_done_at limit (run_cost s j) (after s j) ≡ true
  earlier_done j low =
      let (v, there) = before_end s k t (suc j) reached (omega arith) in
      let (u, before, goes) = step_back s j v there in
      done_at_from limit (run_cost s j) (after s j) u before (omega (arith, spent_next s j u before, spent_grows s (suc j) k (omega arith), afforded)) (ap is_fault goes)

  here_done : is_done_at limit (run_cost s k) (after s k) ≡ true → (run_cost s k + step_cost t ≤ limit) × (is_fault (step_of t) ≡ false)
  here_done h =
      let (u, there, cost, fine) = done_at_tells limit (run_cost s k) (after s k) h in
      let same : u ≡ t = same_Some u t (sym there ∙ reached) in
      (subst (λ (v : State). run_cost s k + step_cost v ≤ limit) same cost, subst (λ (v : State). is_fault (step_of v) ≡ false) same fine)

  over : limit < run_cost s k + step_cost t → done_in limit s ≡ k
  over dear =
      done_in_is limit s k earlier_done
      (false_from_ne_true _ (λ h. let (cost, fine) = here_done h in omega (arith, dear, cost)))

  faulted : is_fault (step_of t) ≡ true → done_in limit s ≡ k
  faulted bad = done_in_is limit s k earlier_done (false_from_ne_true _ (λ h. let (cost, fine) = here_done h in true≢false (sym bad ∙ fine)))

  halted : (code : ℕ) → step_of t ≡ Halted code → run_cost s k + step_cost t ≤ limit → done_in limit s ≡ k + 1
  unfolding after
  halted code stops cost =
      let next : suc k ≡ k + 1 = omega arith in
      let gone : after s (suc k) ≡ None = ap (option_and_then (λ u. state_gone (step_of u))) reached ∙ ap state_gone stops in
      let this : is_done_at limit (run_cost s k) (after s k) ≡ true = done_at_from limit (run_cost s k) (after s k) t reached cost (ap is_fault stops) in
      done_in_is limit s (suc k)
      (λ j low. ⊎_elim (λ e. subst (λ (i : ℕ). is_done_at limit (run_cost s i) (after s i) ≡ true) (sym e.1) this) (λ e. earlier_done j (omega (arith, low, e.1))) (eqb_tells j k))
      (ap (is_done_at limit (run_cost s (suc k))) gone)
      ∙ next

  by_event : (e : Event) (b : Bool) (o : Outcome) → step_of t ≡ e → ltb limit (run_cost s k + step_cost t) ≡ b → cond b (Some (OverLimit k)) (ends_with k t.pc e) ≡ Some o
      → done_in limit s ≡ steps_done k o
  by_event e true o is test h =
      over (grind (arith, nat_tests)) ∙ ap (steps_done k) (same_Some (OverLimit k) o h)
  by_event (Went u) false o is test h = absurd (cc)
  by_event (Halted code) false o is test h =
      halted code is (grind (arith, nat_tests)) ∙ ap (steps_done k) (same_Some _ o h)
  by_event (Faulted fault) false o is test h =
      faulted (ap is_fault is) ∙ ap (steps_done k) (same_Some _ o h)

pub done_to_outcome : DoneToOutcome
done_to_outcome limit s o ends =
    by_event limit s ends.step ends.state ends.reached ends.afforded (step_of ends.state) (ltb limit (run_cost s ends.step + step_cost ends.state)) o refl refl ends.ended
