-- Which pages a step touches and what it costs at least.
use Rattle.std.proofs.Common.{◌≡◌, ℕ, zero, suc, ◌+◌, ◌-◌, ◌/◌, ◌%◌, ◌<◌, ◌≤◌, true, ltb, eqb, List, [], ◌∷◌, ◌++◌, refl, ◌∙◌, arith, IsTrue, ap, None, ⊎_elim}
use Rattle.std.specs.Prelude.{Contains}
use Rattle.std.proofs.lemmas.Bool.{cond_both}
use Rattle.std.proofs.lemmas.Bool.Decides.{nat_tests, leb_tells}
use Rattle.page_core.specs.Memory.{top, pages_from, pages_of, place, ascending, without}
use Rattle.page_core.proofs.Listed.{Contains-none, Contains-cases}
use Rattle.host_calls.specs.declared.call.Call.TheVariants.{Halt, Read, Commit, Assume}
use Rattle.host_calls.specs.Calls.{fits_below}
use Rattle.rv_step.specs.declared.act.Act.{Act}
use Rattle.rv_step.specs.declared.act.Act.TheVariants.{Sets, Loads, Stores, Does, Faults}
use Rattle.rv_step.specs.Machine.{data_of, State, Went, step_of, act, pages_of_all, foot_of, step_cost, cost_of_act, first_closed}
use Rattle.rv_step.specs.Acts.{AllBelow}
use Rattle.rv_step.specs.Stepping.{fetch_foot}
use Rattle.rv_step.proofs.Acts.{acts_are_sound}
use Rattle.rv_step.proofs.Kept.{step_keeps}
use Rattle.rv_step.proofs.Feet.{foot-in_range, foot-out_of_range}

-- each of these pages is below n
abbrev AreBelow : ℕ → List ℕ → Type 0
AreBelow n [] = Unit {0}
AreBelow n (p ∷ ps) = (p < n) × AreBelow n ps

below-pages_from : (n p k : ℕ) → p + k ≤ n → AreBelow n (pages_from p k)
unfolding pages_from
below-pages_from n p zero h = tt
below-pages_from n p (suc k) h = (omega arith, below-pages_from n (p + 1) k (omega arith))

below-append : (n : ℕ) (ps qs : List ℕ) → AreBelow n ps → AreBelow n qs → AreBelow n (ps ++ qs)
below-append n [] qs h k = k
below-append n (p ∷ ps) qs h k = (h.0, below-append n ps qs h.1 k)

below-pages_of : (a k : ℕ) → IsTrue (fits_below a k) → AreBelow 262143 (pages_of a k)
below-pages_of a zero h = tt
below-pages_of a (suc k) h =
    let ends : a + suc k ≤ top = grind (arith, nat_tests) in
    below-pages_from 262143 (a / 1024) ((a + k) / 1024 + 1 - a / 1024) (omega arith)

below-pages_of_all : (rs : List (ℕ × ℕ)) → AllBelow rs → AreBelow 262143 (pages_of_all rs)
unfolding pages_of_all
below-pages_of_all [] h = tt
below-pages_of_all (r ∷ rs) h = below-append 262143 (pages_of r.0 r.1) (pages_of_all rs) (below-pages_of r.0 r.1 h.0) (below-pages_of_all rs h.1)

below-place : (n p : ℕ) (qs : List ℕ) → p < n → AreBelow n qs → AreBelow n (place p qs)
unfolding place
below-place n p [] h k = (h, tt)
below-place n p (q ∷ qs) h k =
    cond_both (ltb p q) _ _ (λ (rs : List ℕ). AreBelow n rs) (λ _. (h, k))
    (λ _. cond_both (eqb p q) _ _ (λ (rs : List ℕ). AreBelow n rs) (λ _. k) (λ _. (k.0, below-place n p qs h k.1)))

below-ascending : (n : ℕ) (ps : List ℕ) → AreBelow n ps → AreBelow n (ascending ps)
unfolding ascending
below-ascending n [] h = tt
below-ascending n (p ∷ ps) h = below-place n p (ascending ps) h.0 (below-ascending n ps h.1)

below-without : (n p : ℕ) (qs : List ℕ) → AreBelow n qs → AreBelow n (without p qs)
unfolding without
below-without n p [] h = tt
below-without n p (q ∷ qs) h =
    cond_both (eqb p q) _ _ (λ (rs : List ℕ). AreBelow n rs) (λ _. below-without n p qs h.1) (λ _. (h.0, below-without n p qs h.1))

below-more : (m n : ℕ) (ps : List ℕ) → m ≤ n → AreBelow m ps → AreBelow n ps
below-more m n [] le h = tt
below-more m n (p ∷ ps) le h = (omega (arith, h.0), below-more m n ps le h.1)

below-foot : (s : State) → s.pc % 4 ≡ 0 → AreBelow 262144 (foot_of s)
below-foot s h =
    ⊎_elim (λ t. rw (foot-out_of_range s t.1) (omega arith, tt))
    (λ t. rw (foot-in_range s t.1) (
      omega arith,
      (omega (arith, t.1), below-more 262143 262144 _ (omega arith) (below-ascending 262143 _ (below-without 262143 (s.pc / 1024) _ (below-pages_of_all (data_of (act s)) (acts_are_sound s h).below)))),
    ))
    (leb_tells top s.pc)

none_from : (n : ℕ) (ps : List ℕ) → AreBelow n ps → first_closed (λ page. ltb page n) ps ≡ None
none_from n [] h = refl
none_from n (p ∷ ps) h = let e : ltb p n ≡ true = grind (arith, nat_tests, h.0) in rw e (none_from n ps h.1)

-- where the pages of a memory are open, no page of a footprint is closed
pub none_closed : (s : State) → s.pc % 4 ≡ 0 → first_closed (λ page. ltb page 262144) (foot_of s) ≡ None
none_closed s h = none_from 262144 (foot_of s) (below-foot s h)

below-fetch : (s : State) → AreBelow 262144 (fetch_foot s)
below-fetch s =
    ⊎_elim (λ t. rw t.0 (omega arith, tt)) (λ t. rw t.0 (omega arith, (omega (arith, t.1), tt))) (leb_tells top s.pc)

-- nor one of a fetch, wherever the pc is
pub none_closed_of_fetch : (s : State) → first_closed (λ page. ltb page 262144) (fetch_foot s) ≡ None
none_closed_of_fetch s = none_from 262144 (fetch_foot s) (below-fetch s)

-- so a step leaves a memory zero from its end on
not_in : (n : ℕ) (ps : List ℕ) (p : ℕ) → AreBelow n ps → n ≤ p → ¬ Contains ps p
not_in n [] p h far c = Contains-none p c
not_in n (q ∷ ps) p h far c = ⊎_elim (λ same. omega (arith, h.0, far, same)) (λ t. not_in n ps p h.1 far t) (Contains-cases p q ps c)

pub rest_on : (s t : State) → s.pc % 4 ≡ 0 → step_of s ≡ Went t → ((a : ℕ) → 268435456 ≤ a → s.memory a ≡ 0) → (a : ℕ) → 268435456 ≤ a → t.memory a ≡ 0
rest_on s t h went rest a far = (step_keeps s t went).outside a (not_in 262144 (foot_of s) (a / 1024) (below-foot s h) (omega arith)) ∙ rest a far

pub rest_same : (s t : State) → t ≡ s → ((a : ℕ) → 268435456 ≤ a → s.memory a ≡ 0) → (a : ℕ) → 268435456 ≤ a → t.memory a ≡ 0
rest_same s t same rest a far = ap (λ (u : State). u.memory a) same ∙ rest a far

-- a step costs something
least_cost : (a : Act) → 1 ≤ cost_of_act a
least_cost (Sets pc rd v) = omega arith
least_cost (Loads op rd a) = omega arith
least_cost (Stores op a v) = omega arith
least_cost (Does (Halt code)) = omega arith
least_cost (Does (Read pointer count)) = omega arith
least_cost (Does (Commit pointer count)) = omega arith
least_cost (Does (Assume image journal)) = omega arith
least_cost (Faults fault) = omega arith

pub some_cost : (s : State) → 1 ≤ step_cost s
unfolding step_cost
some_cost s = least_cost (act s)
