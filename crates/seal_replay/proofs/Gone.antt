-- The steps of a replay, one after the other.
use Rattle.std.proofs.Common.{◌≡◌, ◌≢◌, ℕ, zero, suc, ◌+◌, ◌-◌, ◌<◌, ⊎_elim, Ok, Err, Bool, true, false, cond, eqb, List, [], ◌++◌, length, Option, Some, None, refl, sym, ap, ap₂, ◌∙◌, subst, arith}
use Rattle.std.specs.Prelude.{Contains, option_and_then}
use Rattle.std.proofs.lemmas.Option.{none-some}
use Rattle.std.proofs.lemmas.Bool.{eqb-true}
use Rattle.std.specs.Option.{option_or}
use Rattle.std.proofs.lemmas.Bool.Decides.{nat_tests, eqb_tells}
use Rattle.rv_isa.specs.declared.fault.Fault.{Fault}
use Rattle.rv_isa.specs.declared.fault.Fault.TheVariants.{Illegal, BadAddress, Misaligned, BadTarget, Break, BadCall, BadArgs, InputEnd}
use Rattle.page_core.specs.Memory.{is_among}
use Rattle.rv_step.specs.Machine.{State, Event, Went, Halted, Faulted, step_of, foot_of, first_closed}
use Rattle.rv_step.specs.Runs.{after, run_pages, pages_at, state_gone}
use Rattle.rv_step.specs.Stepping.{IsStepOf, looked_of}
use Rattle.rv_step.specs.declared.stepping.Event.TheVariants as E
use Rattle.rv_step.specs.declared.stepping.StepStop.TheVariants as S
use Rattle.rv_step.proofs.Runs.{step_on}
use Rattle.page_core.proofs.Options.{both_none, second_none}
use Rattle.claim_types.specs.declared.claim.Exit.TheVariants.{Split, Halted as HaltedWith}
use Rattle.receipt_types.specs.Seals.{Seal}
use Rattle.seal_replay.specs.declared.stop.ReplayStop.{ReplayStop}
use Rattle.seal_replay.specs.declared.stop.ReplayStop.TheVariants as Stop
use Rattle.seal_replay.specs.Replay.{opened_by, enter, fault_stop, page_stop, event_stop, stop_at, step_stop, first_below, ending, halting, split}
use Rattle.seal_replay.specs.Replaying.{AreMarked, AreAlsoMarked, IsEvent, HasGone, HasEnded}
use Rattle.rv_step.proofs.Looks.{looks_missed}
use Rattle.rv_step.proofs.Steps.{first_in_fetch}
use Rattle.seal_replay.proofs.Marked.{also_marked}
use Rattle.seal_replay.proofs.Endings.{cond_none}

-- ---- one step
pub tested : (opens : ℕ → Bool) (steps k : ℕ) (s : State) (o : Option ℕ) (e : Event) → first_closed opens (foot_of s) ≡ o → step_of s ≡ e
    → stop_at opens steps k s ≡ option_or (page_stop k o) (event_stop steps k e)
tested opens steps k s o e closed is = ap₂ (λ (p : Option ℕ) (f : Event). option_or (page_stop k p) (event_stop steps k f)) closed is

module _ (opens : ℕ → Bool) (steps k : ℕ) (s t : State) where
  pub went_event : IsStepOf opens s t (Ok E.Went) → IsEvent opens steps k s t E.Went
  went_event (shut, is) = (tested opens steps k s None (Went t) shut is, is)

  pub halted_event : (code : ℕ) → k + 1 ≡ steps → IsStepOf opens s t (Ok (E.Halted code)) → IsEvent opens steps k s t (E.Halted code)
  halted_event code last (shut, is) =
      let same : eqb (k + 1) steps ≡ true = grind (arith, nat_tests) in
      (tested opens steps k s None (Halted code) shut is.0 ∙ ap (λ (b : Bool). cond b None (Some (Stop.EndsEarly k))) same, is.0, is.1)

  pub early_stop : (code : ℕ) → k + 1 ≢ steps → IsStepOf opens s t (Ok (E.Halted code)) → stop_at opens steps k s ≡ Some (Stop.EndsEarly k)
  early_stop code other (shut, is) =
      let differ : eqb (k + 1) steps ≡ false = grind (arith, nat_tests) in
      tested opens steps k s None (Halted code) shut is.0 ∙ ap (λ (b : Bool). cond b None (Some (Stop.EndsEarly k))) differ

  pub missed_stop : (page : ℕ) → IsStepOf opens s t (Err (S.Miss page)) → stop_at opens steps k s ≡ Some (Stop.Unopened k page)
  missed_stop page (shut, same) = ap (λ (p : Option ℕ). option_or (page_stop k p) (event_stop steps k (step_of s))) shut

  pub short_stop : IsStepOf opens s t (Err (S.Fault InputEnd)) → stop_at opens steps k s ≡ Some (Stop.WordsShort k)
  short_stop (shut, is) = tested opens steps k s None (Faulted InputEnd) shut is.0

  pub fault_stops : (fault : Fault) → fault ≢ InputEnd → IsStepOf opens s t (Err (S.Fault fault)) → stop_at opens steps k s ≡ Some (Stop.Fault k fault)
  fault_stops fault other (shut, is) = tested opens steps k s None (Faulted fault) shut is.0 ∙ ap Some (not_end fault other)
    where
      not_end : (fault : Fault) → fault ≢ InputEnd → fault_stop k fault ≡ Stop.Fault k fault
      not_end (Illegal word) h = refl
      not_end (BadAddress a) h = refl
      not_end (Misaligned a) h = refl
      not_end (BadTarget a) h = refl
      not_end Break h = refl
      not_end (BadCall n) h = refl
      not_end (BadArgs n) h = refl
      not_end InputEnd h = absurd (h refl)

-- a step that halts and isn't stopped is the last
last_step : (opens : ℕ → Bool) (steps k : ℕ) (s : State) (code : ℕ) → stop_at opens steps k s ≡ None → step_of s ≡ Halted code → k + 1 ≡ steps
last_step opens steps k s code none halts =
    eqb-true (k + 1) steps
    (cond_none (eqb (k + 1) steps) (Stop.EndsEarly k)
    (sym (ap (event_stop steps k) halts) ∙ second_none (page_stop k (first_closed opens (foot_of s))) (event_stop steps k (step_of s)) none))

ends_at : (seal : Seal) (s : State) (k code : ℕ) → suc k ≡ seal.steps → after (enter seal) k ≡ Some s → step_of s ≡ Halted code
    → ending seal ≡ Some (HaltedWith code, s)
unfolding ending after
ends_at seal s k code steps reached halts =
    let place : seal.steps - 1 ≡ k = omega arith in
    ap (λ (n : ℕ). option_or (option_and_then split (after (enter seal) n)) (option_and_then (λ u. halting u (step_of u)) (after (enter seal) (seal.steps - 1)))) (sym steps)
    ∙ ap (λ (n : ℕ). option_or (option_and_then split (after (enter seal) (suc k))) (option_and_then (λ u. halting u (step_of u)) (after (enter seal) n))) place
    ∙ ap (λ (o : Option State). option_or (option_and_then split (option_and_then (λ t. state_gone (step_of t)) o)) (option_and_then (λ u. halting u (step_of u)) o)) reached
    ∙ ap (λ (e : Event). option_or (option_and_then split (state_gone e)) (halting s e)) halts

first_some : (f : ℕ → Option ReplayStop) (k n : ℕ) (stop : ReplayStop) → first_below f k ≡ None → f k ≡ Some stop → k < n → first_below f n ≡ Some stop
unfolding first_below
first_some f k zero stop none is low = absurd (omega arith)
first_some f k (suc n) stop none is low =
    ⊎_elim
    (λ t. ap (λ (j : ℕ). option_or (first_below f j) (f j)) (sym t.1) ∙ ap (λ (o : Option ReplayStop). option_or o (f k)) none ∙ is)
    (λ t. ap (λ (o : Option ReplayStop). option_or o (f n)) (first_some f k n stop none is (omega (arith, t.1))))
    (eqb_tells k n)

-- ---- the steps so far
pub gone_none : (seal : Seal) (s : State) (marks : List Bool) → enter seal ≡ s → AreMarked (opened_by seal) marks [] → HasGone seal s marks 0
unfolding after first_below run_pages
gone_none seal s marks enters unmarked = record { reached = ap Some enters; clean = refl; marked = unmarked }

module _ (seal : Seal) (s : State) (before : List Bool) (k : ℕ) (gone : HasGone seal s before k) where
  stop_here : step_stop seal k ≡ stop_at (is_among (opened_by seal)) seal.steps k s
  unfolding step_stop
  stop_here = ap (option_and_then (stop_at (is_among (opened_by seal)) seal.steps k)) gone.reached

  clean_on : stop_at (is_among (opened_by seal)) seal.steps k s ≡ None → first_below (step_stop seal) (suc k) ≡ None
  unfolding first_below
  clean_on none = both_none (first_below (step_stop seal) k) (step_stop seal k) gone.clean (stop_here ∙ none)

  -- a stop of this step is the first
  pub stopped_at : (opens : ℕ → Bool) (stop : ReplayStop) → opens ≡ is_among (opened_by seal) → k < seal.steps → stop_at opens seal.steps k s ≡ Some stop
      → first_below (step_stop seal) seal.steps ≡ Some stop
  stopped_at opens stop same low is =
      first_some (step_stop seal) k seal.steps stop gone.clean (stop_here ∙ ap (λ (o : ℕ → Bool). stop_at o seal.steps k s) (sym same) ∙ is) low

  module _ (opens : ℕ → Bool) (same : opens ≡ is_among (opened_by seal)) (after' : List Bool) (t : State)
      (within : (p : ℕ) → Contains (opened_by seal) p → p < length before) (more : AreAlsoMarked before after' (foot_of s)) where
    marked_on : AreMarked (opened_by seal) after' (run_pages (enter seal) (suc k))
    unfolding run_pages
    marked_on p h =
        also_marked (opened_by seal) before after' (run_pages (enter seal) k) (foot_of s) within gone.marked more p h
        ∙ ap (λ (o : Option State). is_among (run_pages (enter seal) k ++ pages_at o) p) (sym gone.reached)

    pub gone_on : IsEvent opens seal.steps k s t E.Went → HasGone seal t after' (k + 1)
    gone_on event =
        let (none, went) = subst (λ (o : ℕ → Bool). IsEvent o seal.steps k s t E.Went) same event in
        let next : suc k ≡ k + 1 = omega arith in
        subst (λ (n : ℕ). HasGone seal t after' n) next
        (record { reached = step_on (enter seal) k s t gone.reached went; clean = clean_on none; marked = marked_on })

    pub gone_last : (code : ℕ) → k < seal.steps → IsEvent opens seal.steps k s t (E.Halted code) → HasEnded seal (HaltedWith code) t after'
    gone_last code low event =
        let (none, halts, as_before) = subst (λ (o : ℕ → Bool). IsEvent o seal.steps k s t (E.Halted code)) same event in
        let steps : suc k ≡ seal.steps = add-one-here k ∙ last_step (is_among (opened_by seal)) seal.steps k s code none halts in
        let ended : HasEnded seal (HaltedWith code) s after' = record {
          ends = ends_at seal s k code steps gone.reached halts;
          clean = ap (first_below (step_stop seal)) (sym steps) ∙ clean_on none;
          marked = subst (λ (n : ℕ). AreMarked (opened_by seal) after' (run_pages (enter seal) n)) steps marked_on;
        } in
        subst (λ (u : State). HasEnded seal (HaltedWith code) u after') (sym as_before) ended
      where
        add-one-here : (k : ℕ) → suc k ≡ k + 1
        add-one-here k = omega arith

-- all steps went
pub gone_all : (seal : Seal) (s : State) (marks : List Bool) → HasGone seal s marks seal.steps → HasEnded seal Split s marks
unfolding ending
gone_all seal s marks gone = record {
  ends = ap (λ (o : Option State). option_or (option_and_then split o) (option_and_then (λ u. halting u (step_of u)) (after (enter seal) (seal.steps - 1)))) gone.reached;
  clean = gone.clean;
  marked = gone.marked;
}

-- what can't be looked at has a closed page
pub not_looked : (opens : ℕ → Bool) (s : State) (page : ℕ) → Err page ≡ looked_of opens s → first_closed opens (foot_of s) ≡ None → ⊥
not_looked opens s page h none = none-some page (sym none ∙ first_in_fetch opens s page (looks_missed opens s page h))
