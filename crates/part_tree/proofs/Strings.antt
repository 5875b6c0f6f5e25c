-- Lists of strings.
use Rattle.std.proofs.Common.{◌≡◌, ℕ, zero, suc, List, [], ◌∷◌, ◌++◌, length, take, drop, refl, sym, ap, ◌∙◌, arith}
use Rattle.std.specs.Prelude.{Contains}
use Rattle.std.proofs.lemmas.List.Elements.{Contains-append_left, Contains-append_right}
use Rattle.std.proofs.Math.Seq.{take-append_seam, drop-append_seam}

-- two strings of two equally long halves
pub halves : (a b c d : List ℕ) → length a ≡ length c → a ++ b ≡ c ++ d → (a ≡ c) × (b ≡ d)
halves a b c d n e = (
  sym (take-append_seam a b) ∙ ap (take (length a)) e ∙ ap (λ (k : ℕ). take k (c ++ d)) n ∙ take-append_seam c d,
  sym (drop-append_seam a b) ∙ ap (drop (length a)) e ∙ ap (λ (k : ℕ). drop k (c ++ d)) n ∙ drop-append_seam c d,
)

-- a list of one element has that one
pub Contains-one : {X : Type 0} (y x : X) → Contains (y ∷ []) x → y ≡ x
Contains-one y x (zero, lt, e) = e
Contains-one y x (suc k, lt, e) = absurd (omega arith)

-- the strings of a node are its own, then those of its left side, then those of its right side
pub of_top : (x : List ℕ) (l r : List (List ℕ)) → Contains (x ∷ (l ++ r)) x
of_top x l r = Contains-append_left (x ∷ []) (l ++ r) x (0, omega arith, refl)

pub of_left : (x : List ℕ) (l r : List (List ℕ)) (s : List ℕ) → Contains l s → Contains (x ∷ (l ++ r)) s
of_left x l r s c = Contains-append_left (x ∷ l) r s (Contains-append_right (x ∷ []) l s c)

pub of_right : (x : List ℕ) (l r : List (List ℕ)) (s : List ℕ) → Contains r s → Contains (x ∷ (l ++ r)) s
of_right x l r s c = Contains-append_right (x ∷ l) r s c
