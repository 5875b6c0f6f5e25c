-- Stored pages of which each is the one that is found under its number, and stored pages that others are put into.
use Rattle.std.proofs.Common.{◌≡◌, ◌≢◌, inl, inr, ℕ, zero, suc, ◌+◌, ◌<◌, ◌≤◌, Bool, true, false, cond, leb, eqb, List, [], ◌∷◌, ◌++◌, length, Option, Some, None, refl, sym, ap, ap₂, subst, ◌∙◌, arith}
use Rattle.std.specs.Prelude.{◌==◌, if◌then◌else◌, map}
use Rattle.std.specs.Option.{option_or}
use Rattle.std.proofs.lemmas.Bool.{eqb-true}
use Rattle.std.proofs.lemmas.Bool.Decides.{eqb_tells, leb_tells}
use Rattle.page_core.specs.Stored.{Stored, IsStoredFrom, stored_at}
use Rattle.page_tree.specs.Grown.{AscendFrom, stored_with, stored_with_all, found_before, gathered}

-- the numbers of stored pages ascend from this one on
abbrev pub Ascends : ℕ → Stored → Type 0
Ascends least [] = Unit {0}
Ascends least (p ∷ ps) = (least ≤ p.0) × Ascends (p.0 + 1) ps

pub stored_ascends : (least : ℕ) (s : Stored) → IsStoredFrom least s → Ascends least s
stored_ascends least [] are = tt
stored_ascends least (p ∷ ps) are = (are.0, stored_ascends (p.0 + 1) ps are.3)

-- so do pages whose numbers do
pub numbers_ascend : (least : ℕ) (ps : Stored) → AscendFrom least (map (λ p. p.0) ps) → Ascends least ps
numbers_ascend least [] up = tt
numbers_ascend least (p ∷ ps) up = (up.0, numbers_ascend (p.0 + 1) ps up.2)

ascends_before : (before least : ℕ) (s : Stored) → before ≤ least → Ascends least s → Ascends before s
ascends_before before least [] le up = tt
ascends_before before least (p ∷ ps) le up = (omega (arith, le, up.0), up.1)

-- the page of the first number, and of the others
pub at_head : (p : ℕ × List ℕ) (ps : Stored) → stored_at (p ∷ ps) p.0 ≡ Some p.1
at_head p ps = elim (eqb_tells p.0 p.0) [ inl e ↦ ap (λ t. if t then Some p.1 else stored_at ps p.0) e.0 | inr ne ↦ absurd (ne.1 refl) ]

pub at_rest : (p : ℕ × List ℕ) (ps : Stored) (n : ℕ) → n ≢ p.0 → stored_at (p ∷ ps) n ≡ stored_at ps n
at_rest p ps n other = elim (eqb_tells n p.0) [ inl e ↦ absurd (other e.1) | inr ne ↦ ap (λ t. if t then Some p.1 else stored_at ps n) ne.0 ]

-- no page is stored before the first number
pub none_before : (least n : ℕ) (s : Stored) → Ascends least s → n < least → stored_at s n ≡ None
none_before least n [] up lt = refl
none_before least n (p ∷ ps) up lt = at_rest p ps n (λ e. omega (arith, e, up.0, lt)) ∙ none_before (p.0 + 1) n ps up.1 (omega (arith, up.0, lt))

-- the first numbers of two lists with the same pages are one
first_same : (x y : ℕ × List ℕ) (xs ys : Stored) → Ascends (y.0 + 1) ys → ((n : ℕ) → stored_at (x ∷ xs) n ≡ stored_at (y ∷ ys) n) → x.0 < y.0 → ⊥
first_same x y xs ys up same lt =
    let e = sym (at_head x xs) ∙ same x.0 ∙ none_before y.0 x.0 (y ∷ ys) (omega arith, up) lt in
    cc

rest_same : (x y : ℕ × List ℕ) (xs ys : Stored) → Ascends (x.0 + 1) xs → Ascends (y.0 + 1) ys → x.0 ≡ y.0 → ((n : ℕ) → stored_at (x ∷ xs) n ≡ stored_at (y ∷ ys) n)
    → (n : ℕ) → stored_at xs n ≡ stored_at ys n
rest_same x y xs ys xup yup e same n =
    elim (leb_tells (x.0 + 1) n) [
      | inl after ↦ sym (at_rest x xs n (λ f. omega (arith, f, after.1))) ∙ same n ∙ at_rest y ys n (λ f. omega (arith, e, f, after.1))
      | inr not ↦ none_before (x.0 + 1) n xs xup (omega (arith, not.1)) ∙ sym (none_before (y.0 + 1) n ys yup (omega (arith, e, not.1)))
    ]

-- two lists with the same pages are one
pub same_stored : (least : ℕ) (xs ys : Stored) → Ascends least xs → Ascends least ys → ((n : ℕ) → stored_at xs n ≡ stored_at ys n) → xs ≡ ys
same_stored least [] [] xup yup same = refl
same_stored least [] (y ∷ ys) xup yup same = absurd (let e = same y.0 ∙ at_head y ys in cc)
same_stored least (x ∷ xs) [] xup yup same = absurd (let e = sym (same x.0) ∙ at_head x xs in cc)
same_stored least (x ∷ xs) (y ∷ ys) xup yup same =
    let a = first_same x y xs ys yup.1 same in
    let b = first_same y x ys xs xup.1 (λ n. sym (same n)) in
    let number : x.0 ≡ y.0 = omega (arith, a, b) in
    let page : x.1 ≡ y.1 = let e = sym (at_head x xs) ∙ same x.0 ∙ ap (stored_at (y ∷ ys)) number ∙ at_head y ys in cc in
    ap₂ (λ (p : ℕ × List ℕ) (ps : Stored). p ∷ ps) (ap₂ (λ (n : ℕ) (l : List ℕ). (n, l)) number page)
    (same_stored (x.0 + 1) xs ys xup.1 (subst (λ (n : ℕ). Ascends (n + 1) ys) (sym number) yup.1) (rest_same x y xs ys xup.1 yup.1 number same))

-- ---- pages that are put
-- one page more is stored, and the others as before
pub stored_at-with : (s : Stored) (n : ℕ) (page : List ℕ) (k : ℕ) → stored_at (stored_with s n page) k ≡ (if k == n then Some page else stored_at s k)
unfolding stored_with
stored_at-with [] n page k = refl
stored_at-with (p ∷ ps) n page k =
    elim (leb p.0 n) as (λ t. stored_at (cond t (cond (eqb n p.0) ((n, page) ∷ ps) (p ∷ stored_with ps n page)) ((n, page) ∷ p ∷ ps)) k ≡ (if k == n then Some page else stored_at (p ∷ ps) k)) [
      | false ↦ refl
      | true ↦ elim (eqb_tells n p.0) [
        | inl same ↦
            ap (λ t. stored_at (cond t ((n, page) ∷ ps) (p ∷ stored_with ps n page)) k) same.0
            ∙ elim (eqb_tells k n) [
              | inl e ↦ ap (λ t. if t then Some page else stored_at ps k) e.0 ∙ sym (ap (λ t. if t then Some page else stored_at (p ∷ ps) k) e.0)
              | inr ne ↦ ap (λ t. if t then Some page else stored_at ps k) ne.0 ∙ sym (at_rest p ps k (λ f. ne.1 (f ∙ sym same.1))) ∙ sym (ap (λ t. if t then Some page else stored_at (p ∷ ps) k) ne.0)
            ]
        | inr other ↦
            ap (λ t. stored_at (cond t ((n, page) ∷ ps) (p ∷ stored_with ps n page)) k) other.0
            ∙ ap (λ (o : Option (List ℕ)). if k == p.0 then Some p.1 else o) (stored_at-with ps n page k)
            ∙ elim (eqb_tells k p.0) [
              | inl e ↦
                  ap (λ t. if t then Some p.1 else (if k == n then Some page else stored_at ps k)) e.0
                  ∙ sym (elim (eqb_tells k n) [ inl f ↦ absurd (other.1 (sym f.1 ∙ e.1)) | inr f ↦ ap (λ t. if t then Some page else stored_at (p ∷ ps) k) f.0 ] ∙ ap (λ t. if t then Some p.1 else stored_at ps k) e.0)
              | inr ne ↦
                  ap (λ t. if t then Some p.1 else (if k == n then Some page else stored_at ps k)) ne.0
                  ∙ ap (λ (o : Option (List ℕ)). if k == n then Some page else o) (sym (at_rest p ps k ne.1))
            ]
      ]
    ]

-- a fact about the three lists that a page is put to
put_cases : (P : Stored → Type 0) (p : ℕ × List ℕ) (ps rest : Stored) (n : ℕ) (page : List ℕ) → (n < p.0 → P ((n, page) ∷ p ∷ ps)) → (n ≡ p.0 → P ((n, page) ∷ ps)) → (p.0 < n → P (p ∷ rest))
    → P (cond (leb p.0 n) (cond (eqb n p.0) ((n, page) ∷ ps) (p ∷ rest)) ((n, page) ∷ p ∷ ps))
put_cases P p ps rest n page before here after =
    elim (leb_tells p.0 n) [
      | inl not ↦ subst (λ t. P (cond t (cond (eqb n p.0) ((n, page) ∷ ps) (p ∷ rest)) ((n, page) ∷ p ∷ ps))) (sym not.0)
          (elim (eqb_tells n p.0) [
            | inl same ↦ subst (λ t. P (cond t ((n, page) ∷ ps) (p ∷ rest))) (sym same.0) (here same.1)
            | inr other ↦ subst (λ t. P (cond t ((n, page) ∷ ps) (p ∷ rest))) (sym other.0) (after (omega (arith, not.1, other.1)))
          ])
      | inr lt ↦ subst (λ t. P (cond t (cond (eqb n p.0) ((n, page) ∷ ps) (p ∷ rest)) ((n, page) ∷ p ∷ ps))) (sym lt.0) (before lt.1)
    ]

pub ascends-with : (least : ℕ) (s : Stored) (n : ℕ) (page : List ℕ) → least ≤ n → Ascends least s → Ascends least (stored_with s n page)
unfolding stored_with
ascends-with least [] n page le up = (le, tt)
ascends-with least (p ∷ ps) n page le up =
    put_cases (Ascends least) p ps (stored_with ps n page) n page
    (λ lt. (le, (omega (arith, lt), up.1)))
    (λ e. (le, subst (λ (k : ℕ). Ascends (k + 1) ps) (sym e) up.1))
    (λ gt. (up.0, ascends-with (p.0 + 1) ps n page (omega (arith, gt)) up.1))

-- after several pages, a number has its page among them, and where it isn't among them that of before
pub stored_at-with_all : (least : ℕ) (s ps : Stored) (k : ℕ) → Ascends least ps → stored_at (stored_with_all s ps) k ≡ option_or (stored_at ps k) (stored_at s k)
unfolding stored_with_all
stored_at-with_all least s [] k up = refl
stored_at-with_all least s (p ∷ ps) k up =
    stored_at-with_all (p.0 + 1) (stored_with s p.0 p.1) ps k up.1
    ∙ ap (option_or (stored_at ps k)) (stored_at-with s p.0 p.1 k)
    ∙ elim (eqb_tells k p.0) [
      | inl e ↦
          ap₂ option_or (ap (stored_at ps) e.1 ∙ none_before (p.0 + 1) p.0 ps up.1 (omega arith)) (ap (λ t. if t then Some p.1 else stored_at s k) e.0)
          ∙ sym (ap (λ t. option_or (if t then Some p.1 else stored_at ps k) (stored_at s k)) e.0)
      | inr ne ↦
          ap (λ t. option_or (stored_at ps k) (if t then Some p.1 else stored_at s k)) ne.0
          ∙ sym (ap (λ t. option_or (if t then Some p.1 else stored_at ps k) (stored_at s k)) ne.0)
    ]

pub ascends-with_all : (s ps : Stored) → Ascends 0 s → Ascends 0 (stored_with_all s ps)
unfolding stored_with_all
ascends-with_all s [] up = up
ascends-with_all s (p ∷ ps) up = ascends-with_all (stored_with s p.0 p.1) ps (ascends-with 0 s p.0 p.1 (omega arith) up)

-- ---- pages that are found
pub gathered_ascends : (found : ℕ → Option (List ℕ)) (least n : ℕ) → Ascends least (gathered found least n)
unfolding gathered
gathered_ascends found least zero = tt
gathered_ascends found least (suc n) =
    let rest = gathered_ascends found (least + 1) n in
    elim (found least) as (λ o. Ascends least (found_before least o (gathered found (least + 1) n))) [
      | Some page ↦ (omega arith, rest)
      | None ↦ ascends_before least (least + 1) (gathered found (least + 1) n) (omega arith) rest
    ]

-- the page that is found under the first number, and those of the others
found_here : (n : ℕ) (o : Option (List ℕ)) (after : Stored) → stored_at after n ≡ None → stored_at (found_before n o after) n ≡ o
found_here n None after none = none
found_here n (Some page) after none = at_head (n, page) after

found_there : (n k : ℕ) (o : Option (List ℕ)) (after : Stored) → k ≢ n → stored_at (found_before n o after) k ≡ stored_at after k
found_there n k None after other = refl
found_there n k (Some page) after other = at_rest (n, page) after k other

-- a number among them has the page that is found
pub gathered_at : (found : ℕ → Option (List ℕ)) (least n k : ℕ) → least ≤ k → k < least + n → stored_at (gathered found least n) k ≡ found k
unfolding gathered
gathered_at found least zero k from to = absurd (omega (arith, from, to))
gathered_at found least (suc n) k from to =
    let rest : stored_at (gathered found (least + 1) n) least ≡ None = none_before (least + 1) least (gathered found (least + 1) n) (gathered_ascends found (least + 1) n) (omega arith) in
    elim (eqb_tells k least) [
      | inl e ↦ subst (λ (j : ℕ). stored_at (found_before least (found least) (gathered found (least + 1) n)) j ≡ found j) (sym e.1) (found_here least (found least) (gathered found (least + 1) n) rest)
      | inr ne ↦ found_there least k (found least) (gathered found (least + 1) n) ne.1 ∙ gathered_at found (least + 1) n k (omega (arith, from, ne.1)) (omega (arith, to))
    ]

-- and a number after them has none
pub gathered_after : (found : ℕ → Option (List ℕ)) (least n k : ℕ) → least + n ≤ k → stored_at (gathered found least n) k ≡ None
unfolding gathered
gathered_after found least zero k after = refl
gathered_after found least (suc n) k after =
    found_there least k (found least) (gathered found (least + 1) n) (λ e. omega (arith, e, after)) ∙ gathered_after found (least + 1) n k (omega (arith, after))

before_append : (n : ℕ) (o : Option (List ℕ)) (xs ys : Stored) → found_before n o (xs ++ ys) ≡ found_before n o xs ++ ys
before_append n None xs ys = refl
before_append n (Some page) xs ys = refl

pub gathered_zero : (found : ℕ → Option (List ℕ)) (least : ℕ) → gathered found least 0 ≡ []
unfolding gathered
gathered_zero found least = refl

-- one number more
pub gathered_more : (found : ℕ → Option (List ℕ)) (least n : ℕ) → gathered found least (suc n) ≡ gathered found least n ++ found_before (least + n) (found (least + n)) []
unfolding gathered
gathered_more found least zero =
    let e : least + 0 ≡ least = omega arith in
    rw e refl
gathered_more found least (suc n) =
    let e : least + suc n ≡ least + 1 + n = omega arith in
    rw e (ap (found_before least (found least)) (gathered_more found (least + 1) n) ∙ before_append least (found least) (gathered found (least + 1) n) (found_before (least + 1 + n) (found (least + 1 + n)) []))

-- with no pages the stored pages are as before
pub none_with_all : (s ps : Stored) (test : Bool) → test ≡ (length ps == 0) → test ≡ true → s ≡ stored_with_all s ps
unfolding stored_with_all
none_with_all s [] test is passed = refl
none_with_all s (p ∷ ps) test is passed = absurd (omega (arith, eqb-true (length (p ∷ ps)) 0 (sym is ∙ passed)))
