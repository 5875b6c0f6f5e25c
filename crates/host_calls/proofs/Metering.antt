-- How the pages of one more step change the pages of a segment, and how many of them are new.
use Rattle.std.proofs.Common.{◌≡◌, ℕ, suc, ◌+◌, ◌<◌, Bool, true, false, not, cond, ◌||◌, ltb, eqb, List, [], ◌∷◌, ◌++◌, take, drop, length, get_or, refl, sym, ap, ap₂, ◌∙◌, ◌-◌, add-one, drop-cons, length-drop, arith, IsTrue}
use Rattle.std.specs.List.{list_any}
use Rattle.std.proofs.Math.Seq.{take-length}
use Rattle.std.proofs.Math.Bool.{or-false}
use Rattle.std.proofs.lemmas.Bool.{not-true, not-false, or_right}
use Rattle.std.proofs.lemmas.List.Folds.{list_any-append}
use Rattle.std.proofs.lemmas.Bool.Decides.{nat_tests}
use Rattle.page_core.specs.Memory.{place, ascending, is_among}
use Rattle.host_calls.specs.Meters.{fresh_meter, is_within}
use Rattle.page_core.proofs.Listed.{Contains-from_is_among}
use Rattle.page_core.proofs.Ascending.{ascending-ascending, ascending-place, place_there, is_among-ascending, Contains-ascending}

-- a segment of no steps stays within any limits
pub unused_within : (cycles pages : ℕ) → IsTrue (is_within (fresh_meter cycles pages))
unused_within cycles pages = grind (arith, nat_tests)

-- ---- the order in which pages are placed makes no difference
commute_none : (p q : ℕ) → cond (ltb p q) (p ∷ q ∷ []) (cond (eqb p q) (q ∷ []) (q ∷ p ∷ [])) ≡ cond (ltb q p) (q ∷ p ∷ []) (cond (eqb q p) (p ∷ []) (p ∷ q ∷ []))
commute_none p q = grind (arith, nat_tests)

commute_from : (p q x : ℕ) (xs with_p with_q : List ℕ) → place p xs ≡ with_p → place q xs ≡ with_q → place p with_q ≡ place q with_p
    → place p (cond (ltb q x) (q ∷ x ∷ xs) (cond (eqb q x) (x ∷ xs) (x ∷ with_q))) ≡ place q (cond (ltb p x) (p ∷ x ∷ xs) (cond (eqb p x) (x ∷ xs) (x ∷ with_p)))
unfolding place
commute_from p q x xs with_p with_q e f ih = grind (arith, nat_tests)

place-place : (p q : ℕ) (qs : List ℕ) → place p (place q qs) ≡ place q (place p qs)
unfolding place
place-place p q [] = commute_none p q
place-place p q (x ∷ xs) = commute_from p q x xs (place p xs) (place q xs) refl refl (place-place p q xs)

-- so the first of the pages can be put first
place-ascending : (p : ℕ) (ps qs : List ℕ) → ascending qs ≡ qs → place p (ascending (ps ++ qs)) ≡ ascending (ps ++ place p qs)
unfolding ascending
place-ascending p [] qs e = ap (place p) e ∙ sym (ascending-place p qs e)
place-ascending p (r ∷ ps) qs e = place-place p r (ascending (ps ++ qs)) ∙ ap (place r) (place-ascending p ps qs e)

-- the page at a place is put, and those behind it are left
pub next_placed : (ps qs : List ℕ) (k : ℕ) → k < length ps → ascending qs ≡ qs → ascending (drop (k + 1) ps ++ place (get_or ps k 0) qs) ≡ ascending (drop k ps ++ qs)
unfolding ascending
next_placed ps qs k h e = rw (drop-cons ps k 0, add-one) (sym (place-ascending (get_or ps k 0) (drop (suc k) ps) qs e))

-- ---- how many pages there are with one more
-- a page that is not there makes one more
new_from : (p q : ℕ) (qs rest : List ℕ) (b c : Bool) → eqb p q ≡ c → (is_among qs p ≡ false → length rest ≡ length qs + 1) → (eqb p q || is_among qs p) ≡ false
    → length (cond b (p ∷ q ∷ qs) (cond c (q ∷ qs) (q ∷ rest))) ≡ length (q ∷ qs) + 1
new_from p q qs rest true c e ih h = omega arith
new_from p q qs rest false true e ih h = absurd (let same : true ≡ false = rw e at h in cc)
new_from p q qs rest false false e ih h = let more : length rest ≡ length qs + 1 = ih (rw e at h) in omega arith

place_new : (p : ℕ) (qs : List ℕ) → is_among qs p ≡ false → length (place p qs) ≡ length qs + 1
unfolding place
place_new p [] h = omega arith
place_new p (q ∷ qs) h = new_from p q qs (place p qs) (ltb p q) (eqb p q) refl (place_new p qs) h

-- where a page is listed already, it makes no more pages, and else one more
counted_had : (p : ℕ) (ps qs : List ℕ) → not (is_among (ps ++ qs) p) ≡ false → length (ascending (p ∷ ps ++ qs)) ≡ length (ascending (ps ++ qs))
unfolding ascending
counted_had p ps qs h =
    ap length (place_there p (ascending (ps ++ qs)) (ascending-ascending (ps ++ qs)) (Contains-ascending (ps ++ qs) p (Contains-from_is_among (ps ++ qs) p (not-false _ h))))

counted_new : (p : ℕ) (ps qs : List ℕ) → not (is_among (ps ++ qs) p) ≡ true → length (ascending (p ∷ ps ++ qs)) ≡ length (ascending (ps ++ qs)) + 1
unfolding ascending
counted_new p ps qs h = place_new p (ascending (ps ++ qs)) (is_among-ascending (ps ++ qs) p ∙ not-true _ h)

-- the pages behind a place
behind : (ps : List ℕ) (k : ℕ) → take (length ps - (k + 1)) (drop (k + 1) ps) ≡ drop (suc k) ps
behind ps k = rw add-one (ap (λ n. take n (drop (suc k) ps)) (sym (length-drop (suc k) ps)) ∙ take-length (drop (suc k) ps))

-- a count goes up by one at a page that is listed neither behind nor among the pages touched
pub count_next : (ps qs : List ℕ) (k count total : ℕ) (new : Bool) → k < length ps → new ≡ not (is_among (take (length ps - (k + 1)) (drop (k + 1) ps) ++ qs) (get_or ps k 0))
    → count + length (ascending (drop k ps ++ qs)) ≡ total → count + cond new 1 0 + length (ascending (drop (k + 1) ps ++ qs)) ≡ total
count_next ps qs k count total new h is e = go new (is ∙ ap (λ (others : List ℕ). not (is_among (others ++ qs) p)) (behind ps k))
  where
    p : ℕ
    p = get_or ps k 0

    before : length (ascending (drop k ps ++ qs)) ≡ length (ascending (p ∷ drop (suc k) ps ++ qs))
    before = ap (λ (rest : List ℕ). length (ascending (rest ++ qs))) (drop-cons ps k 0 h)

    after : length (ascending (drop (k + 1) ps ++ qs)) ≡ length (ascending (drop (suc k) ps ++ qs))
    after = ap (λ n. length (ascending (drop n ps ++ qs))) (add-one k)

    go : (b : Bool) → b ≡ not (is_among (drop (suc k) ps ++ qs) p) → count + cond b 1 0 + length (ascending (drop (k + 1) ps ++ qs)) ≡ total
    go true t = omega (arith, e, before, after, counted_new p (drop (suc k) ps) qs (sym t))
    go false t = omega (arith, e, before, after, counted_had p (drop (suc k) ps) qs (sym t))

-- ---- whether a page is new
any_page : (p : ℕ) (qs : List ℕ) → list_any (λ y. eqb y p) qs ≡ is_among qs p
any_page p [] = refl
any_page p (q ∷ qs) = let e : eqb q p ≡ eqb p q = grind (arith, nat_tests) in ap₂ ◌||◌ e (any_page p qs)

-- a page is new where neither a search nor a look at the others finds it
pub new_absent : (p : ℕ) (ps qs : List ℕ) (others : Bool) → is_among qs p ≡ false → others ≡ list_any (λ y. eqb y p) ps → not others ≡ not (is_among (ps ++ qs) p)
new_absent p ps qs others e is =
    ap not (is ∙ any_page p ps ∙ sym (list_any-append (eqb p) ps qs ∙ ap (λ b. is_among ps p || b) e ∙ or-false (is_among ps p)))

pub new_touched : (p : ℕ) (ps qs : List ℕ) → is_among qs p ≡ true → false ≡ not (is_among (ps ++ qs) p)
new_touched p ps qs e = ap not (sym (list_any-append (eqb p) ps qs ∙ or_right (is_among ps p) (is_among qs p) e))
