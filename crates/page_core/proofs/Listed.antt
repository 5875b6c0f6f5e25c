-- What is listed, as a fact and as a test.
use Rattle.std.proofs.Common.{◌≡◌, ℕ, zero, suc, eqb, List, [], ◌∷◌, sym, arith, IsTrue, inl, inr, ◌⊎◌, ⊎_elim}
use Rattle.std.specs.Prelude.{Contains}
use Rattle.std.proofs.lemmas.Bool.{or_cases, or_left, or_right, eqb-true, eq-eqb}
use Rattle.std.proofs.lemmas.List.Elements.{Contains-append_right}
use Rattle.page_core.specs.Memory.{is_among}

pub Contains-none : (p : ℕ) → Contains [] p → ⊥
Contains-none p h = omega (arith, h.1)

-- a member of a list is the head or of the tail
pub Contains-head : (p q : ℕ) (ps : List ℕ) → p ≡ q → Contains (q ∷ ps) p
Contains-head p q ps e = (0, omega arith, sym e)

pub Contains-tail : (p q : ℕ) (ps : List ℕ) → Contains ps p → Contains (q ∷ ps) p
Contains-tail p q ps h = Contains-append_right (q ∷ []) ps p h

pub Contains-cases : (p q : ℕ) (ps : List ℕ) → Contains (q ∷ ps) p → (p ≡ q) ⊎ Contains ps p
Contains-cases p q ps (zero, lt, e) = inl (omega (arith, e))
Contains-cases p q ps (suc k, lt, e) = inr (k, omega arith, e)

pub Contains-from_is_among : (ps : List ℕ) (p : ℕ) → IsTrue (is_among ps p) → Contains ps p
Contains-from_is_among [] p h = absurd (cc)
Contains-from_is_among (q ∷ ps) p h =
    ⊎_elim (λ t. Contains-head p q ps (eqb-true p q t)) (λ t. Contains-tail p q ps (Contains-from_is_among ps p t)) (or_cases (eqb p q) (is_among ps p) h)

pub is_among-from_Contains : (ps : List ℕ) (p : ℕ) → Contains ps p → IsTrue (is_among ps p)
is_among-from_Contains [] p c = absurd (Contains-none p c)
is_among-from_Contains (q ∷ ps) p c =
    ⊎_elim (λ t. or_left (eqb p q) (is_among ps p) (eq-eqb p q t))
    (λ t. or_right (eqb p q) (is_among ps p) (is_among-from_Contains ps p t)) (Contains-cases p q ps c)
