-- How large a step is.
use Rattle.std.proofs.Common.{ℕ, suc, ◌/◌, ◌≤◌, eqb, List, [], ◌∷◌, length, arith, ⊎_elim}
use Rattle.std.proofs.lemmas.Bool.{cond_both}
use Rattle.std.proofs.lemmas.Bool.Decides.{leb_tells}
use Rattle.page_core.specs.Memory.{top, without}
use Rattle.page_core.proofs.Ascending.{length-ascending}
use Rattle.rv_step.specs.Machine.{data_of, State, act, pages_of_all, foot_of, step_cost}
use Rattle.rv_step.specs.Acts.{StepIsSmall}
use Rattle.rv_step.proofs.Feet.{foot-in_range, foot-out_of_range}
use Rattle.rv_step.proofs.Acts.{acts_are_sound}

length-without : (p : ℕ) (qs : List ℕ) → length (without p qs) ≤ length qs
unfolding without
length-without p [] = omega arith
length-without p (q ∷ qs) =
    cond_both (eqb p q) _ _ (λ (rs : List ℕ). length rs ≤ suc (length qs)) (λ e. omega (arith, length-without p qs)) (λ e. omega (arith, length-without p qs))

few_touched : (s : State) → length (pages_of_all (data_of (act s))) ≤ 4 → length (foot_of s) ≤ 6
few_touched s h =
    ⊎_elim (λ t. rw (foot-out_of_range s t.1) (omega arith))
    (λ t. rw (foot-in_range s t.1)
    (omega (arith, length-ascending (without (s.pc / 1024) (pages_of_all (data_of (act s)))), length-without (s.pc / 1024) (pages_of_all (data_of (act s))))))
    (leb_tells top s.pc)

pub step_is_small : StepIsSmall
unfolding step_cost
step_is_small s h = ((acts_are_sound s h).cost, few_touched s (acts_are_sound s h).pages)
