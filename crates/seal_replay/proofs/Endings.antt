-- A replay without a stop has an end.
use Rattle.std.proofs.Common.{◌≡◌, ◌⊎◌, inl, inr, ℕ, zero, suc, ◌+◌, ◌-◌, ◌≤◌, Bool, true, false, cond, eqb, List, Option, Some, None, refl, ap, ap₂, ◌∙◌, arith}
use Rattle.std.proofs.lemmas.Bool.{eqb-true}
use Rattle.std.specs.Prelude.{option_and_then, option_map}
use Rattle.std.specs.Option.{option_or}
use Rattle.page_core.specs.Memory.{is_among}
use Rattle.rv_step.specs.Machine.{State, Event, Went, Halted, Faulted, step_of, foot_of, first_closed}
use Rattle.rv_step.specs.Runs.{after}
use Rattle.rv_step.proofs.Runs.{step_on}
use Rattle.claim_types.specs.declared.claim.Exit.{Exit}
use Rattle.claim_types.specs.declared.claim.Exit.TheVariants.{Split, Halted as HaltedWith}
use Rattle.receipt_types.specs.Seals.{Seal}
use Rattle.seal_replay.specs.Replay.{opened_by, enter, page_stop, event_stop, step_stop, first_below, stop_of, ending, halting, split}
use Rattle.seal_replay.specs.declared.stop.ReplayStop.{ReplayStop}
use Rattle.seal_replay.specs.declared.stop.ReplayStop.TheVariants as Stop
use Rattle.seal_replay.specs.Claiming.{claim_at, unless, claim_of}
use Rattle.seal_replay.specs.Laws.{UnstoppedEnds}
use Rattle.page_core.proofs.Options.{first_none, second_none}
use Rattle.seal_replay.proofs.Chains.{below_none, no_step_stop}

pub cond_none : {A : Type 0} (b : Bool) (x : A) → cond b None (Some x) ≡ None → b ≡ true
cond_none true x h = refl
cond_none false x h = absurd (cc)

record HaltsAt (seal : Seal) (n : ℕ) : Type 0 where
  state : State
  code : ℕ
  last : n ≡ seal.steps
  reached : after (enter seal) (n - 1) ≡ Some state
  halts : step_of state ≡ Halted code

abbrev Reaches : Seal → ℕ → Type 0
Reaches seal n = ((u : State) × (after (enter seal) n ≡ Some u)) ⊎ HaltsAt seal n

on_event : (seal : Seal) (m : ℕ) (u : State) (e : Event) → after (enter seal) m ≡ Some u → step_of u ≡ e → event_stop seal.steps m e ≡ None → Reaches seal (suc m)
on_event seal m u (Went t) reached is h = inl (t, step_on (enter seal) m u t reached is)
on_event seal m u (Halted code) reached is h =
    let at_end : m + 1 ≡ seal.steps = eqb-true (m + 1) seal.steps (cond_none (eqb (m + 1) seal.steps) (Stop.EndsEarly m) h) in
    inr (record { state = u; code = code; last = omega (arith, at_end); reached = ap (after (enter seal)) (omega arith) ∙ reached; halts = is })
on_event seal m u (Faulted fault) reached is h = absurd (cc)

reaches : (seal : Seal) → first_below (step_stop seal) seal.steps ≡ None → (n : ℕ) → n ≤ seal.steps → Reaches seal n
unfolding after
reaches seal clean zero low = inl (enter seal, refl)
reaches seal clean (suc m) low =
    elim (reaches seal clean m (omega arith)) [
      | inl r ↦
          on_event seal m r.0 (step_of r.0) r.1 refl
          (second_none (page_stop m (first_closed (is_among (opened_by seal)) (foot_of r.0))) (event_stop seal.steps m (step_of r.0))
          (no_step_stop seal m r.0 (below_none (step_stop seal) seal.steps m clean (omega arith)) r.1))
      | inr r ↦ let last = r.last in absurd (omega (arith, last))
    ]

or_some : {A : Type 0} (a b : Option A) (y : A) → b ≡ Some y → (z : A) × (option_or a b ≡ Some z)
or_some (Some x) b y h = (x, refl)
or_some None b y h = (y, h)

or_first : {A : Type 0} (a b : Option A) (y : A) → a ≡ Some y → (z : A) × (option_or a b ≡ Some z)
or_first (Some x) b y h = (x, refl)
or_first None b y h = absurd (cc)

pub has_ending : UnstoppedEnds
unfolding ending stop_of
has_ending seal clean =
    elim (reaches seal (first_none (first_below (step_stop seal) seal.steps) _ clean) seal.steps (omega arith)) [
      | inl r ↦ or_first (option_and_then split (after (enter seal) seal.steps)) (option_and_then (λ s. halting s (step_of s)) (after (enter seal) (seal.steps - 1))) (Split, r.0)
          (ap (option_and_then split) r.1)
      | inr r ↦ or_some (option_and_then split (after (enter seal) seal.steps)) (option_and_then (λ s. halting s (step_of s)) (after (enter seal) (seal.steps - 1))) (HaltedWith r.code, r.state)
          (ap (option_and_then (λ s. halting s (step_of s))) r.reached ∙ ap (halting r.state) r.halts)
    ]

-- a seal's claim, by its end
pub claim_from : (H : List ℕ → List ℕ) (seal : Seal) (x : Exit × State) → stop_of seal ≡ None → ending seal ≡ Some x → claim_of H seal ≡ Some (claim_at H seal x)
claim_from H seal x clean ends = ap₂ (λ (o : Option ReplayStop) (p : Option (Exit × State)). unless o (option_map (claim_at H seal) p)) clean ends
