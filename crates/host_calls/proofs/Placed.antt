-- Where a page stands among pages that ascend.
use Rattle.std.proofs.Common.{◌≡◌, ◌≢◌, ℕ, zero, suc, ◌+◌, ◌<◌, ◌≤◌, Bool, true, false, cond, ltb, eqb, List, [], ◌∷◌, take, drop, length, get_or, refl, sym, ap, ap₂, ◌∙◌, ◌-◌, arith, Some, slice_get}
use Rattle.std.proofs.lemmas.Bool.{ne_eqb}
use Rattle.std.specs.Prelude.{insert}
use Rattle.std.proofs.Math.Seq.{take-length}
use Rattle.std.proofs.lemmas.Option.{same_Some}
use Rattle.std.proofs.lemmas.Bool.Decides.{nat_tests}
use Rattle.page_core.specs.Memory.{place}
use Rattle.page_core.proofs.Ascending.{place_size}
use Rattle.host_calls.specs.Foots.{below, with_data}

there_from : (p q : ℕ) (qs : List ℕ) (b : Bool) → ltb q p ≡ b → (slice_get qs (below p qs) ≡ Some p → place p qs ≡ qs)
    → slice_get (q ∷ qs) (cond b (suc (below p qs)) 0) ≡ Some p
    → cond (ltb p q) (p ∷ q ∷ qs) (cond (eqb p q) (q ∷ qs) (q ∷ place p qs)) ≡ q ∷ qs
there_from p q qs true less ih e =
    let f : ltb p q ≡ false = grind (arith, nat_tests) in
    let g : eqb p q ≡ false = grind (arith, nat_tests) in
    rw (f, g) (ap (λ rest. q ∷ rest) (ih e))
there_from p q qs false more ih e =
    let same : q ≡ p = same_Some q p e in
    let f : ltb p q ≡ false = grind (arith, nat_tests) in
    let g : eqb p q ≡ true = grind (arith, nat_tests) in
    rw (f, g) refl

-- a page that stands in its place is there already
pub there : (p : ℕ) (qs : List ℕ) → slice_get qs (below p qs) ≡ Some p → place p qs ≡ qs
unfolding place
there p [] e = absurd (cc)
there p (q ∷ qs) e = there_from p q qs (ltb q p) refl (there p qs) e

put_from : (p q : ℕ) (qs : List ℕ) (b : Bool) → ltb q p ≡ b → (slice_get qs (below p qs) ≢ Some p → place p qs ≡ insert qs (below p qs) p)
    → slice_get (q ∷ qs) (cond b (suc (below p qs)) 0) ≢ Some p
    → cond (ltb p q) (p ∷ q ∷ qs) (cond (eqb p q) (q ∷ qs) (q ∷ place p qs)) ≡ insert (q ∷ qs) (cond b (suc (below p qs)) 0) p
put_from p q qs true less ih e =
    let f : ltb p q ≡ false = grind (arith, nat_tests) in
    let g : eqb p q ≡ false = grind (arith, nat_tests) in
    rw (f, g) (ap (λ rest. q ∷ rest) (ih e))
put_from p q qs false more ih e =
    let other : q ≢ p = λ s. e (ap Some s) in
    let f : ltb p q ≡ true = grind (arith, nat_tests) in
    rw f refl

-- and else it is put there
pub put_there : (p : ℕ) (qs : List ℕ) → slice_get qs (below p qs) ≢ Some p → place p qs ≡ insert qs (below p qs) p
unfolding place
put_there p [] e = refl
put_there p (q ∷ qs) e = put_from p q qs (ltb q p) refl (put_there p qs) e

pub below_at_most : (p : ℕ) (qs : List ℕ) → below p qs ≤ length qs
below_at_most p [] = omega arith
below_at_most p (q ∷ qs) = go (ltb q p) (below_at_most p qs)
  where
    go : (b : Bool) → below p qs ≤ length qs → cond b (suc (below p qs)) 0 ≤ suc (length qs)
    go true h = omega (arith, h)
    go false h = omega arith

-- the first that is no less than p stands behind those that come before
pub below_here : (p : ℕ) (qs : List ℕ) (k : ℕ) → k < length qs → p ≤ get_or qs k 0 → below p (drop k qs) ≡ 0
below_here p [] k h l = absurd (omega arith)
below_here p (q ∷ qs) zero h l = let f : ltb q p ≡ false = grind (arith, nat_tests) in rw f refl
below_here p (q ∷ qs) (suc k) h l = below_here p qs k (omega arith) l

pub below_next : (p : ℕ) (qs : List ℕ) (k : ℕ) → k < length qs → get_or qs k 0 < p → below p (drop k qs) ≡ suc (below p (drop (suc k) qs))
below_next p [] k h l = absurd (omega arith)
below_next p (q ∷ qs) zero h l = let f : ltb q p ≡ true = grind (arith, nat_tests) in rw f refl
below_next p (q ∷ qs) (suc k) h l = below_next p qs k (omega arith) l

-- ---- a footprint with one more page
-- the pages behind the first two
abbrev pub behind : List ℕ → List ℕ
behind foot = take (length foot - 2) (drop 2 foot)

behind-two : (r c : ℕ) (others : List ℕ) → behind (r ∷ c ∷ others) ≡ others
behind-two r c others =
    let size : length (r ∷ c ∷ others) - 2 ≡ length others = omega arith in
    ap (λ n. take n others) size ∙ take-length others

insert-two : (r c : ℕ) (others : List ℕ) (k p : ℕ) → insert (r ∷ c ∷ others) (2 + k) p ≡ r ∷ c ∷ insert others k p
insert-two r c others k p = let two : 2 + k ≡ suc (suc k) = omega arith in ap (λ n. insert (r ∷ c ∷ others) n p) two

pub added : (p : ℕ) (foot : List ℕ) (at : ℕ) → 2 ≤ length foot → get_or foot 1 0 ≢ p → at ≡ below p (behind foot) → slice_get (behind foot) at ≢ Some p
    → insert foot (2 + at) p ≡ with_data p foot
added p [] at long code is absent = absurd (omega arith)
added p (r ∷ []) at long code is absent = absurd (omega arith)
added p (r ∷ c ∷ others) at long code is absent =
    let f : eqb c p ≡ false = ne_eqb c p code in
    let here : at ≡ below p others = is ∙ ap (below p) (behind-two r c others) in
    let away : slice_get others (below p others) ≢ Some p = λ e. absent (ap₂ slice_get (behind-two r c others) here ∙ e) in
    rw f (ap (λ k. insert (r ∷ c ∷ others) (2 + k) p) here ∙ insert-two r c others (below p others) p ∙ ap (λ rest. r ∷ c ∷ rest) (sym (put_there p others away)))

pub not_added : (p : ℕ) (foot : List ℕ) (at : ℕ) → 2 ≤ length foot → at ≡ below p (behind foot) → slice_get (behind foot) at ≡ Some p
    → foot ≡ with_data p foot
not_added p [] at long is present = absurd (omega arith)
not_added p (r ∷ []) at long is present = absurd (omega arith)
not_added p (r ∷ c ∷ others) at long is present =
    let here : at ≡ below p others = is ∙ ap (below p) (behind-two r c others) in
    ap (λ rest. r ∷ c ∷ rest) (same (eqb c p) (place p others) (sym (there p others (sym (ap₂ slice_get (behind-two r c others) here) ∙ present))))
  where
    same : (b : Bool) (rest : List ℕ) → others ≡ rest → others ≡ cond b others rest
    same true rest e = refl
    same false rest e = e

-- ---- sizes
-- a footprint grows by at most one page
pub data_size : (p : ℕ) (foot : List ℕ) → (length (with_data p foot) ≤ length foot + 1) × (length foot ≤ length (with_data p foot))
data_size p [] = (omega arith, omega arith)
data_size p (r ∷ []) = (omega arith, omega arith)
data_size p (r ∷ c ∷ others) = go (eqb c p) (place p others) (place_size p others).0 (place_size p others).1
  where
    go : (b : Bool) (rest : List ℕ) → length rest ≤ length others + 1 → length others ≤ length rest
        → (length (r ∷ c ∷ cond b others rest) ≤ length (r ∷ c ∷ others) + 1) × (length (r ∷ c ∷ others) ≤ length (r ∷ c ∷ cond b others rest))
    go true rest h l = (omega arith, omega arith)
    go false rest h l = (omega (arith, h), omega (arith, l))
