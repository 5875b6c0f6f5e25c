-- Lists of pages put in order: their members determine them.
use Rattle.std.proofs.Common.{◌≡◌, ℕ, suc, ◌<◌, ◌≤◌, Bool, true, false, ◌||◌, eqb, List, [], ◌∷◌, ◌++◌, length, refl, sym, ap, ap₂, ◌∙◌, subst, arith, ⊎_elim}
use Rattle.std.specs.Prelude.{Contains}
use Rattle.std.proofs.Math.Bool.{or_comm}
use Rattle.std.proofs.lemmas.Bool.{false≢true, false_from_ne_true}
use Rattle.std.proofs.lemmas.Bool.Decides.{eqb_tells}
use Rattle.std.proofs.lemmas.List.Folds.{list_any-append}
use Rattle.page_core.specs.Memory.{is_among, ascending}
use Rattle.page_core.proofs.Listed.{Contains-head, Contains-from_is_among, is_among-from_Contains}
use Rattle.page_core.proofs.Ascending.{Ascend, ascends, from_least, is_among-ascending, Contains-ascending, place_size}

-- ---- members of pages that ascend
has_first : (p : ℕ) (ps : List ℕ) → is_among (p ∷ ps) p ≡ true
has_first p ps = is_among-from_Contains (p ∷ ps) p (Contains-head p p ps refl)

none_below : (least : ℕ) (ps : List ℕ) (p : ℕ) → Ascend least ps → p < least → is_among ps p ≡ false
none_below least ps p all low = false_from_ne_true _ (λ e. omega (arith, low, from_least least ps p all (Contains-from_is_among ps p e)))

first_same : (l m p q : ℕ) (ps qs : List ℕ) → Ascend l (p ∷ ps) → Ascend m (q ∷ qs) → ((n : ℕ) → is_among (p ∷ ps) n ≡ is_among (q ∷ qs) n) → p ≡ q
first_same l m p q ps qs one two same =
    let low : q ≤ p = from_least q (q ∷ qs) p (omega arith, two.1) (Contains-from_is_among (q ∷ qs) p (sym (same p) ∙ has_first p ps)) in
    let high : p ≤ q = from_least p (p ∷ ps) q (omega arith, one.1) (Contains-from_is_among (p ∷ ps) q (same q ∙ has_first q qs)) in
    omega (arith, low, high)

-- what is left of two lists with the same first and the same members has the same members
rest_same : (p : ℕ) (ps qs : List ℕ) → Ascend (suc p) ps → Ascend (suc p) qs → ((n : ℕ) → is_among (p ∷ ps) n ≡ is_among (p ∷ qs) n)
    → (n : ℕ) → is_among ps n ≡ is_among qs n
rest_same p ps qs one two same n =
    ⊎_elim (λ t. none_below (suc p) ps n one (omega (arith, t.1)) ∙ sym (none_below (suc p) qs n two (omega (arith, t.1))))
    (λ t. ap (λ (b : Bool). b || is_among ps n) (sym t.0) ∙ same n ∙ ap (λ (b : Bool). b || is_among qs n) t.0) (eqb_tells n p)

one_list : (l m : ℕ) (ps qs : List ℕ) → Ascend l ps → Ascend m qs → ((n : ℕ) → is_among ps n ≡ is_among qs n) → ps ≡ qs
one_list l m [] [] one two same = refl
one_list l m [] (q ∷ qs) one two same = absurd (false≢true (same q ∙ has_first q qs))
one_list l m (p ∷ ps) [] one two same = absurd (false≢true (sym (same p) ∙ has_first p ps))
one_list l m (p ∷ ps) (q ∷ qs) one two same =
    let first : p ≡ q = first_same l m p q ps qs one two same in
    let two_here : Ascend (suc p) qs = subst (λ (n : ℕ). Ascend (suc n) qs) (sym first) two.1 in
    let same_here : (n : ℕ) → is_among (p ∷ ps) n ≡ is_among (p ∷ qs) n =
    subst (λ (r : ℕ). (n : ℕ) → is_among (p ∷ ps) n ≡ is_among (r ∷ qs) n) (sym first) same in
    ap₂ ◌∷◌ first (one_list (suc p) (suc p) ps qs one.1 two_here (rest_same p ps qs one.1 two_here same_here))

-- lists with the same members are the same in order
pub ascending_same : (ps qs : List ℕ) → ((p : ℕ) → is_among ps p ≡ is_among qs p) → ascending ps ≡ ascending qs
ascending_same ps qs same =
    one_list 0 0 (ascending ps) (ascending qs) (ascends ps) (ascends qs) (λ p. is_among-ascending ps p ∙ same p ∙ sym (is_among-ascending qs p))

pub ascending_turned : (ps qs : List ℕ) → ascending (ps ++ qs) ≡ ascending (qs ++ ps)
ascending_turned ps qs =
    ascending_same (ps ++ qs) (qs ++ ps) (λ p. list_any-append (eqb p) ps qs ∙ or_comm (is_among ps p) (is_among qs p) ∙ sym (list_any-append (eqb p) qs ps))

-- pages added to pages in order
pub ascending_added : (ps foot : List ℕ) → ascending (foot ++ ascending ps) ≡ ascending (ps ++ foot)
ascending_added ps foot =
    ascending_same (foot ++ ascending ps) (ps ++ foot)
    (λ p. list_any-append (eqb p) foot (ascending ps) ∙ ap (λ (b : Bool). is_among foot p || b) (is_among-ascending ps p)
    ∙ or_comm (is_among foot p) (is_among ps p) ∙ sym (list_any-append (eqb p) ps foot))

-- ---- sizes
in_front : (ps qs : List ℕ) → length (ascending qs) ≤ length (ascending (ps ++ qs))
unfolding ascending
in_front [] qs = omega arith
in_front (p ∷ ps) qs = omega (arith, in_front ps qs, (place_size p (ascending (ps ++ qs))).1)

-- with more pages there are no fewer
pub ascending_grows : (ps qs : List ℕ) → length (ascending ps) ≤ length (ascending (ps ++ qs))
ascending_grows ps qs = let e : length (ascending (ps ++ qs)) ≡ length (ascending (qs ++ ps)) = ap length (ascending_turned ps qs) in omega (arith, in_front qs ps, e)

-- pages that have a member are not none
pub ascending_some : (ps : List ℕ) (p : ℕ) → Contains ps p → 1 ≤ length (ascending ps)
ascending_some ps p h = let there = Contains-ascending ps p h in omega (arith, there.1)
