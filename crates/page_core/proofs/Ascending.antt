-- Pages that are put in order: a list keeps its members, and has each of them once.
use Rattle.std.proofs.Common.{◌≡◌, ℕ, suc, ◌+◌, ◌≤◌, Bool, true, false, cond, ◌||◌, ltb, eqb, List, [], ◌∷◌, length, refl, sym, ap, ◌∙◌, subst, arith, ⊎_elim}
use Rattle.std.specs.Prelude.{Contains}
use Rattle.std.proofs.lemmas.Bool.Decides.{nat_tests}
use Rattle.page_core.specs.Memory.{is_among, place, ascending}
use Rattle.page_core.proofs.Listed.{Contains-none, Contains-cases, Contains-from_is_among, is_among-from_Contains}

-- ---- members
is_among-placed : (p q r : ℕ) (qs rest : List ℕ) (b c : Bool) → eqb q r ≡ c → is_among rest p ≡ (eqb p q || is_among qs p)
    → is_among (cond b (q ∷ r ∷ qs) (cond c (r ∷ qs) (r ∷ rest))) p ≡ (eqb p q || (eqb p r || is_among qs p))
is_among-placed p q r qs rest true c e ih = refl
is_among-placed p q r qs rest false true e ih = grind (arith, nat_tests)
is_among-placed p q r qs rest false false e ih = grind (arith, nat_tests)

is_among-place : (q : ℕ) (qs : List ℕ) (p : ℕ) → is_among (place q qs) p ≡ (eqb p q || is_among qs p)
unfolding place
is_among-place q [] p = refl
is_among-place q (r ∷ qs) p = is_among-placed p q r qs (place q qs) (ltb q r) (eqb q r) refl (is_among-place q qs p)

pub is_among-ascending : (qs : List ℕ) (p : ℕ) → is_among (ascending qs) p ≡ is_among qs p
unfolding ascending
is_among-ascending [] p = refl
is_among-ascending (q ∷ qs) p = is_among-place q (ascending qs) p ∙ ap (λ b. eqb p q || b) (is_among-ascending qs p)

pub Contains-ascending : (qs : List ℕ) (p : ℕ) → Contains qs p → Contains (ascending qs) p
Contains-ascending qs p h = Contains-from_is_among (ascending qs) p (is_among-ascending qs p ∙ is_among-from_Contains qs p h)

pub Contains-from_ascending : (qs : List ℕ) (p : ℕ) → Contains (ascending qs) p → Contains qs p
Contains-from_ascending qs p h = Contains-from_is_among qs p (sym (is_among-ascending qs p) ∙ is_among-from_Contains (ascending qs) p h)

-- ---- order
-- each page is greater than the one before it, and the first is at least this one
abbrev pub Ascend : ℕ → List ℕ → Type 0
Ascend least [] = Unit {0}
Ascend least (q ∷ qs) = (least ≤ q) × Ascend (suc q) qs

ascend-placed : (least p q : ℕ) (qs rest : List ℕ) (b c : Bool) → ltb p q ≡ b → eqb p q ≡ c → least ≤ p → Ascend least (q ∷ qs) → (suc q ≤ p → Ascend (suc q) rest)
    → Ascend least (cond b (p ∷ q ∷ qs) (cond c (q ∷ qs) (q ∷ rest)))
ascend-placed least p q qs rest true c e f low up ih = let above : suc p ≤ q = grind (arith, nat_tests) in (low, (above, up.1))
ascend-placed least p q qs rest false true e f low up ih = up
ascend-placed least p q qs rest false false e f low up ih = let above : suc q ≤ p = grind (arith, nat_tests) in (up.0, ih above)

ascend-place : (least p : ℕ) (qs : List ℕ) → least ≤ p → Ascend least qs → Ascend least (place p qs)
unfolding place
ascend-place least p [] low up = (low, tt)
ascend-place least p (q ∷ qs) low up =
    ascend-placed least p q qs (place p qs) (ltb p q) (eqb p q) refl refl low up (λ above. ascend-place (suc q) p qs above up.1)

pub ascends : (qs : List ℕ) → Ascend 0 (ascending qs)
unfolding ascending
ascends [] = tt
ascends (q ∷ qs) = ascend-place 0 q (ascending qs) (omega arith) (ascends qs)

-- a page below the rest stands first
place-first : (q : ℕ) (qs : List ℕ) → Ascend (suc q) qs → place q qs ≡ q ∷ qs
unfolding place
place-first q [] up = refl
place-first q (r ∷ rs) up = let lower : suc q ≤ r = up.0 in let f : ltb q r ≡ true = grind (arith, nat_tests) in rw f refl

-- pages that ascend are in their places
ascending-ascend : (least : ℕ) (qs : List ℕ) → Ascend least qs → ascending qs ≡ qs
unfolding ascending
ascending-ascend least [] up = refl
ascending-ascend least (q ∷ qs) up = ap (place q) (ascending-ascend (suc q) qs up.1) ∙ place-first q qs up.1

pub ascends_already : (qs : List ℕ) → ascending qs ≡ qs → Ascend 0 qs
ascends_already qs e = subst (Ascend 0) e (ascends qs)

pub ascending-none : ascending [] ≡ []
unfolding ascending
ascending-none = refl

pub ascending-ascending : (qs : List ℕ) → ascending (ascending qs) ≡ ascending qs
ascending-ascending qs = ascending-ascend 0 (ascending qs) (ascends qs)

-- pages that ascend do so with one more put into its place
pub ascending-place : (p : ℕ) (qs : List ℕ) → ascending qs ≡ qs → ascending (place p qs) ≡ place p qs
ascending-place p qs e = ascending-ascend 0 (place p qs) (ascend-place 0 p qs (omega arith) (ascends_already qs e))

-- a member is at least the least
pub from_least : (least : ℕ) (qs : List ℕ) (p : ℕ) → Ascend least qs → Contains qs p → least ≤ p
from_least least [] p up h = absurd (Contains-none p h)
from_least least (q ∷ qs) p up h =
    ⊎_elim (λ same. omega (arith, up.0, same)) (λ rest. omega (arith, up.0, from_least (suc q) qs p up.1 rest)) (Contains-cases p q qs h)

-- a page that is there changes nothing
place_had : (least p : ℕ) (qs : List ℕ) → Ascend least qs → Contains qs p → place p qs ≡ qs
unfolding place
place_had least p [] up h = absurd (Contains-none p h)
place_had least p (q ∷ qs) up h =
    ⊎_elim
    (λ same. let e : ltb p q ≡ false = grind (arith, nat_tests) in let f : eqb p q ≡ true = grind (arith, nat_tests) in rw (e, f) refl)
    (λ rest.
    let above : suc q ≤ p = from_least (suc q) qs p up.1 rest in
    let e : ltb p q ≡ false = grind (arith, nat_tests) in
    let f : eqb p q ≡ false = grind (arith, nat_tests) in
    rw (e, f) (ap (λ rs. q ∷ rs) (place_had (suc q) p qs up.1 rest)))
    (Contains-cases p q qs h)

pub place_there : (p : ℕ) (qs : List ℕ) → ascending qs ≡ qs → Contains qs p → place p qs ≡ qs
place_there p qs e h = place_had 0 p qs (ascends_already qs e) h

-- ---- sizes
placed_size : (p q : ℕ) (qs rest : List ℕ) (b c : Bool) → length rest ≤ length qs + 1 → length qs ≤ length rest
    → (length (cond b (p ∷ q ∷ qs) (cond c (q ∷ qs) (q ∷ rest))) ≤ length (q ∷ qs) + 1) × (length (q ∷ qs) ≤ length (cond b (p ∷ q ∷ qs) (cond c (q ∷ qs) (q ∷ rest))))
placed_size p q qs rest true c h l = (omega arith, omega arith)
placed_size p q qs rest false true h l = (omega arith, omega arith)
placed_size p q qs rest false false h l = (omega (arith, h), omega (arith, l))

pub place_size : (p : ℕ) (qs : List ℕ) → (length (place p qs) ≤ length qs + 1) × (length qs ≤ length (place p qs))
unfolding place
place_size p [] = (omega arith, omega arith)
place_size p (q ∷ qs) = let (h, l) = place_size p qs in placed_size p q qs (place p qs) (ltb p q) (eqb p q) h l

pub length-ascending : (ps : List ℕ) → length (ascending ps) ≤ length ps
unfolding ascending
length-ascending [] = omega arith
length-ascending (p ∷ ps) = omega (arith, (place_size p (ascending ps)).0, length-ascending ps)
