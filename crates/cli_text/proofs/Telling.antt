-- What a word's digits tell.
use Rattle.std.proofs.Common.{◌≡◌, ℕ, ◌^◌, ◌<◌, ◌≤◌, List, Option, Some, Bool, true, false, not, Ok, Err, Result, subst, sym, ap, ◌∙◌, arith}
use Rattle.std.specs.Prelude.{decimal, IfSome}
use Rattle.std.specs.Str.{bytes_eq}
use Rattle.std.proofs.lemmas.Fmt.{decimal_injective}
use Rattle.std.proofs.lemmas.Slice.Eq.{bytes_eq-Decides}

pub ok_not_err : {E : Type 0} (n : ℕ) (e : E) → ◌≡◌ {A = Result ℕ E} (Ok n) (Err e) → ⊥
ok_not_err n e h = cc

pub same_ok : {E : Type 0} (m n : ℕ) → ◌≡◌ {A = Result ℕ E} (Ok m) (Ok n) → m ≡ n
same_ok m n h = cc

pub not_other : (x y : List ℕ) (b : Bool) → b ≡ not (bytes_eq x y) → b ≡ true → x ≡ y → ⊥
not_other x y b is other same = false_not_true (sym (is ∙ ap not ((bytes_eq-Decides x y).1 same)) ∙ other)
  where
    false_not_true : false ≡ true → ⊥
    false_not_true h = cc

-- the number that a word tells
pub told_same : (word : List ℕ) (o : Option ℕ) (m n : ℕ) → IfSome o (λ k. (word ≡ decimal k) × (k < 2 ^ 64)) → o ≡ Some m → n < 2 ^ 64 → word ≡ decimal n → n ≡ m
told_same word o m n some is small told =
    let (digits, fits) = subst (λ (p : Option ℕ). IfSome p (λ k. (word ≡ decimal k) × (k < 2 ^ 64))) is some in
    decimal_injective n m small fits (sym told ∙ digits)

-- it is outside a range
pub told_outside : (word : List ℕ) (o : Option ℕ) (m low high : ℕ) → IfSome o (λ k. (word ≡ decimal k) × (k < 2 ^ 64)) → o ≡ Some m → high < 2 ^ 64 → ((low ≤ m) → (m ≤ high) → ⊥)
    → (n : ℕ) → low ≤ n → n ≤ high → word ≡ decimal n → ⊥
told_outside word o m low high some is fits outside n at_least at_most told =
    let same : n ≡ m = told_same word o m n some is (omega (arith, fits, at_most)) told in
    outside (omega (arith, same, at_least)) (omega (arith, same, at_most))
