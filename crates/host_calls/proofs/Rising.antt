-- What a search among pages that ascend tells.
use Rattle.std.proofs.Common.{◌≡◌, ℕ, zero, suc, ◌<◌, ◌≤◌, true, false, not, ltb, eqb, List, [], ◌∷◌, length, get_or, Result, Ok, Err, ap, ◌∙◌, subst, arith, refl, ⊎_elim}
use Rattle.std.specs.Prelude.{Contains, insert, is_err, MatchResult}
use Rattle.std.specs.List.Sorted.{IsBinarySearchResult}
use Rattle.std.specs.Ordering.{nat_cmp}
use Rattle.std.proofs.lemmas.Bool.{false_from_ne_true}
use Rattle.std.proofs.lemmas.Bool.Decides.{nat_tests, leb_tells}
use Rattle.std.proofs.lemmas.List.{get_or_default}
use Rattle.std.proofs.lemmas.List.Elements.{Contains-get_or}
use Rattle.std.proofs.lemmas.List.Sorted.{searched}
use Rattle.page_core.specs.Memory.{place, ascending, is_among}
use Rattle.page_core.proofs.Listed.{Contains-from_is_among, is_among-from_Contains}
use Rattle.page_core.proofs.Ascending.{Ascend, ascends_already, place_there}

-- each is no less than those before it
at_least : (least : ℕ) (qs : List ℕ) (k : ℕ) → Ascend least qs → k < length qs → least ≤ get_or qs k 0
at_least least [] k up h = absurd (omega arith)
at_least least (q ∷ qs) zero up h = up.0
at_least least (q ∷ qs) (suc k) up h = omega (arith, up.0, at_least (suc q) qs k up.1 (omega arith))

in_order : (least : ℕ) (qs : List ℕ) → Ascend least qs → (i j : ℕ) → i ≤ j → j < length qs → get_or qs i 0 ≤ get_or qs j 0
in_order least [] up i j le h = absurd (omega arith)
in_order least (q ∷ qs) up zero zero le h = omega arith
in_order least (q ∷ qs) up zero (suc j) le h = omega (arith, at_least (suc q) qs j up.1 (omega arith))
in_order least (q ∷ qs) up (suc i) zero le h = absurd (omega arith)
in_order least (q ∷ qs) up (suc i) (suc j) le h = in_order (suc q) qs up.1 i j (omega arith) (omega arith)

-- ---- what a search tells
found : (p : ℕ) (qs : List ℕ) (i : ℕ) → i < length qs → get_or qs i 0 ≡ p → is_among qs p ≡ true
found p qs i h e = is_among-from_Contains qs p (subst (Contains qs) e (Contains-get_or qs i 0 h))

-- p would stand at this place
abbrev IsGap : ℕ → List ℕ → ℕ → Type 0
IsGap p qs i = (i ≤ length qs) × ((k : ℕ) → k < i → get_or qs k 0 < p) × ((k : ℕ) → i ≤ k → k < length qs → p < get_or qs k 0)

gap_behind : (p q : ℕ) (qs : List ℕ) (i : ℕ) → IsGap p (q ∷ qs) (suc i) → IsGap p qs i
gap_behind p q qs i g = (omega (arith, g.0), λ k h. g.1 (suc k) (omega arith), λ k h l. g.2 (suc k) (omega arith) (omega arith))

-- then it is not among the pages
absent : (p : ℕ) (qs : List ℕ) (i : ℕ) → IsGap p qs i → is_among qs p ≡ false
absent p qs i g = false_from_ne_true (is_among qs p) (λ e. there (Contains-from_is_among qs p e))
  where
    there : Contains qs p → ⊥
    there (k, within, is) =
        let here : get_or qs k 0 ≡ p = get_or_default qs k 0 p within ∙ is in
        ⊎_elim (λ t. omega (arith, here, g.2 k t.1 within)) (λ t. omega (arith, here, g.1 k t.1)) (leb_tells i k)

-- and is put there
placed_in_gap : (p : ℕ) (qs : List ℕ) (i : ℕ) → IsGap p qs i → place p qs ≡ insert qs i p
unfolding place
placed_in_gap p [] zero g = refl
placed_in_gap p [] (suc i) g = absurd (omega (arith, g.0))
placed_in_gap p (q ∷ qs) zero g = let more : p < q = g.2 0 (omega arith) (omega arith) in let e : ltb p q ≡ true = grind (arith, nat_tests) in rw e refl
placed_in_gap p (q ∷ qs) (suc i) g =
    let less : q < p = g.1 0 (omega arith) in
    let e : ltb p q ≡ false = grind (arith, nat_tests) in
    let f : eqb p q ≡ false = grind (arith, nat_tests) in
    rw (e, f) (ap (λ rest. q ∷ rest) (placed_in_gap p qs i (gap_behind p q qs i g)))

-- a search ends at the page, or at the place where it would stand
searched_pages : (p : ℕ) (qs : List ℕ) (r : Result ℕ ℕ) → ascending qs ≡ qs → IsBinarySearchResult (λ y. nat_cmp y p) qs r
    → MatchResult r (λ i. (i < length qs) × (get_or qs i 0 ≡ p)) (IsGap p qs)
searched_pages p qs r e s = searched qs p r s (in_order 0 qs (ascends_already qs e))

pub search_tells : (p : ℕ) (qs : List ℕ) (r : Result ℕ ℕ) → ascending qs ≡ qs → IsBinarySearchResult (λ y. nat_cmp y p) qs r → is_among qs p ≡ not (is_err r)
search_tells p qs (Ok i) e s = let t = searched_pages p qs (Ok i) e s in found p qs i t.0 t.1
search_tells p qs (Err i) e s = absent p qs i (searched_pages p qs (Err i) e s)

pub search_there : (p i : ℕ) (qs : List ℕ) → ascending qs ≡ qs → IsBinarySearchResult (λ y. nat_cmp y p) qs (Ok i) → place p qs ≡ qs
search_there p i qs e s = place_there p qs e (Contains-from_is_among qs p (search_tells p qs (Ok i) e s))

pub search_gap : (p i : ℕ) (qs : List ℕ) → ascending qs ≡ qs → IsBinarySearchResult (λ y. nat_cmp y p) qs (Err i) → place p qs ≡ insert qs i p
search_gap p i qs e s = placed_in_gap p qs i (searched_pages p qs (Err i) e s)
