-- Steps of a replay that merely go on, in marked pages.
use Rattle.std.proofs.Common.{◌≡◌, ℕ, suc, ◌+◌, ◌<◌, ⊎_elim, Bool, true, false, ◌||◌, List, length, get_or, Option, Some, None, refl, sym, ◌∙◌, subst, arith, IsTrue, add-zero}
use Rattle.std.specs.Prelude.{Contains}
use Rattle.std.proofs.Math.Bool.{or-false}
use Rattle.std.proofs.lemmas.Bool.Decides.{leb_tells}
use Rattle.std.proofs.lemmas.List.{get_or_past}
use Rattle.page_core.specs.Memory.{is_among}
use Rattle.page_core.proofs.Listed.{Contains-from_is_among}
use Rattle.page_core.proofs.Options.{first_none}
use Rattle.rv_step.specs.Machine.{State, Went, step_of, foot_of, first_closed}
use Rattle.rv_step.specs.Quick.{GoesQuickly}
use Rattle.rv_step.specs.declared.stepping.Event.TheVariants as E
use Rattle.rv_step.proofs.QuickSteps.{none_closed_in, quickly_keeps}
use Rattle.rv_step.proofs.Steps.{all_open}
use Rattle.receipt_types.specs.Seals.{Seal}
use Rattle.seal_replay.specs.Replay.{opened_by, page_stop, event_stop, stop_at}
use Rattle.seal_replay.specs.Replaying.{AreAlsoMarked, IsEvent, HasGone}
use Rattle.seal_replay.proofs.Gone.{tested, gone_on}

-- marking pages that are marked changes nothing
already_marked : (marks : List Bool) (pages : List ℕ) → ((p : ℕ) → Contains pages p → IsTrue (get_or marks p false)) → AreAlsoMarked marks marks pages
already_marked marks pages h p within = go (is_among pages p) refl
  where
    go : (b : Bool) → is_among pages p ≡ b → get_or marks p false ≡ (get_or marks p false || b)
    go true e = let set : get_or marks p false ≡ true = h p (Contains-from_is_among pages p e) in rw set refl
    go false e = sym (or-false (get_or marks p false))

-- steps that merely go on in marked pages
pub gone_quickly : (seal : Seal) (s : State) (marks : List Bool) (k : ℕ) → HasGone seal s marks k → (opens : ℕ → Bool) → opens ≡ is_among (opened_by seal)
    → ((p : ℕ) → Contains (opened_by seal) p → p < length marks) → ((p : ℕ) → IsTrue (get_or marks p false) → IsTrue (opens p))
    → (n : ℕ) (t : State) → GoesQuickly (λ p. get_or marks p false) s n t → HasGone seal t marks (k + n)
gone_quickly seal s marks k gone opens same within shown n t went =
    quickly_keeps (λ p. get_or marks p false) (λ j u. HasGone seal u marks (k + j)) one s n t (subst (λ (j : ℕ). HasGone seal s marks j) (sym (add-zero k)) gone) went.reached went.within
  where
    one : (j : ℕ) (u v : State) → HasGone seal u marks (k + j) → step_of u ≡ Went v → first_closed (λ p. get_or marks p false) (foot_of u) ≡ None → HasGone seal v marks (k + suc j)
    one j u v before went none =
        let marked : (p : ℕ) → Contains (foot_of u) p → IsTrue (get_or marks p false) = all_open (λ p. get_or marks p false) (foot_of u) none in
        let clear : first_closed opens (foot_of u) ≡ None = none_closed_in opens (foot_of u) (λ p m. shown p (marked p m)) in
        let next : k + j + 1 ≡ k + suc j = omega arith in
        subst (λ (i : ℕ). HasGone seal v marks i) next
        (gone_on seal u marks (k + j) before opens same marks v within (already_marked marks (foot_of u) marked) (tested opens seal.steps (k + j) u None (Went v) clear went, went))

-- a step that nothing stops has an open footprint
clear_of : (opens : ℕ → Bool) (steps k : ℕ) (u : State) → stop_at opens steps k u ≡ None → first_closed opens (foot_of u) ≡ None
clear_of opens steps k u h = go (first_closed opens (foot_of u)) (first_none (page_stop k (first_closed opens (foot_of u))) (event_stop steps k (step_of u)) h)
  where
    go : (o : Option ℕ) → page_stop k o ≡ None → o ≡ None
    go (Some page) e = absurd (cc)
    go None e = refl

-- the marked pages stay open, where those of an open footprint are marked besides
pub still_open : (opens : ℕ → Bool) (before after' : List Bool) (steps k : ℕ) (u v : State) → length after' ≡ length before
    → ((p : ℕ) → IsTrue (get_or before p false) → IsTrue (opens p)) → AreAlsoMarked before after' (foot_of u) → IsEvent opens steps k u v E.Went
    → (p : ℕ) → IsTrue (get_or after' p false) → IsTrue (opens p)
still_open opens before after' steps k u v size shown more event p h =
    ⊎_elim
    (λ t. absurd (let out : get_or after' p false ≡ false = get_or_past after' p false (omega (arith, size, t.1)) in let both : true ≡ false = sym h ∙ out in cc))
    (λ t. go (get_or before p false) refl (sym (more p t.1) ∙ h))
    (leb_tells (length before) p)
  where
    none : first_closed opens (foot_of u) ≡ None
    none = clear_of opens steps k u event.0

    go : (b : Bool) → get_or before p false ≡ b → IsTrue (b || is_among (foot_of u) p) → IsTrue (opens p)
    go true e m = shown p e
    go false e m = all_open opens (foot_of u) none p (Contains-from_is_among (foot_of u) p m)
