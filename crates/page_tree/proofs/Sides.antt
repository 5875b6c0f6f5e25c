-- Page numbers that ascend, and on which side of a node they are.
use Rattle.std.proofs.Common.{inl, inr, ℕ, zero, suc, ◌≡◌, ◌-◌, ◌+◌, ◌*◌, ◌%◌, ◌^◌, ◌<◌, ◌≤◌, List, [], ◌∷◌, ◌++◌, length, get_or, arith}
use Rattle.std.specs.Prelude.{All}
use Rattle.std.specs.List.Sorted.{IsNonDecreasingBy}
use Rattle.std.proofs.lemmas.Nat.{pow_pos, div_below, le-div, shl_whole}
use Rattle.part_tree.specs.Tree.{IsBelow}
use Rattle.part_tree.proofs.Below.{one_side, sides_fit}
use Rattle.page_tree.specs.Grown.{AscendFrom}

-- numbers that ascend from one on also ascend from each before it
pub ascend_before : (before least : ℕ) (xs : List ℕ) → before ≤ least → AscendFrom least xs → AscendFrom before xs
ascend_before before least [] le up = tt
ascend_before before least (x ∷ xs) le up = (omega (arith, le, up.0), up.1, up.2)

-- the first of numbers that ascend do too
pub ascend_front : (least : ℕ) (xs ys : List ℕ) → AscendFrom least (xs ++ ys) → AscendFrom least xs
ascend_front least [] ys up = tt
ascend_front least (x ∷ xs) ys up = (up.0, up.1, ascend_front (x + 1) xs ys up.2)

-- and so do the last of them
pub ascend_back : (least : ℕ) (xs ys : List ℕ) → AscendFrom least (xs ++ ys) → AscendFrom least ys
ascend_back least [] ys up = up
ascend_back least (x ∷ xs) ys up = ascend_before least (x + 1) ys (omega (arith, up.0)) (ascend_back (x + 1) xs ys up.2)

-- each of them is at least the number that they ascend from
at_least : (least : ℕ) (xs : List ℕ) → AscendFrom least xs → (k d : ℕ) → k < length xs → least ≤ get_or xs k d
at_least least [] up k d lt = absurd (omega (arith, lt))
at_least least (x ∷ xs) up zero d lt = up.0
at_least least (x ∷ xs) up (suc k) d lt = omega (arith, up.0, at_least (x + 1) xs up.2 k d (omega (arith, lt)))

-- numbers that ascend never fall
pub never_fall : (least : ℕ) (xs : List ℕ) → AscendFrom least xs → IsNonDecreasingBy (λ p. p) xs
never_fall least [] up i j d le lt = absurd (omega (arith, lt))
never_fall least (x ∷ xs) up zero zero d le lt = omega arith
never_fall least (x ∷ xs) up zero (suc j) d le lt = omega (arith, at_least (x + 1) xs up.2 j d (omega (arith, lt)))
never_fall least (x ∷ xs) up (suc i) zero d le lt = absurd (omega (arith, le))
never_fall least (x ∷ xs) up (suc i) (suc j) d le lt = never_fall (x + 1) xs up.2 i j d (omega (arith, le)) (omega (arith, lt))

-- page numbers that ascend are all below the root
pub below_root : (least : ℕ) (xs : List ℕ) → AscendFrom least xs → All (IsBelow 18 0) xs
below_root least [] up k d lt = absurd (omega (arith, lt))
below_root least (x ∷ xs) up zero d lt = omega (arith, up.1)
below_root least (x ∷ xs) up (suc k) d lt = below_root (x + 1) xs up.2 k d (omega (arith, lt))

-- and below 2^18
pub below_top : (least : ℕ) (xs : List ℕ) → AscendFrom least xs → All (λ page. page < 262144) xs
below_top least [] up k d lt = absurd (omega (arith, lt))
below_top least (x ∷ xs) up zero d lt = up.1
below_top least (x ∷ xs) up (suc k) d lt = below_top (x + 1) xs up.2 k d (omega (arith, lt))

-- the number of a node's middle page fits 32 bits
pub middle_fits : (height i : ℕ) → 1 ≤ height → height ≤ 18 → i < 2 ^ (18 - height) → ((2 * i + 1) * 2 ^ (height - 1)) % 4294967296 ≡ (2 * i + 1) * 2 ^ (height - 1)
middle_fits height i some low fits = shl_whole (2 * i + 1) (18 - (height - 1)) (height - 1) 32 (sides_fit height i some low fits) (omega arith)

-- a page below a node and before its middle is below its left side
pub before_middle : (height i page : ℕ) → 1 ≤ height → IsBelow height i page → page < (2 * i + 1) * 2 ^ (height - 1) → IsBelow (height - 1) (2 * i) page
before_middle zero i page some b lt = absurd (omega (arith, some))
before_middle (suc h) i page some b lt =
    let one : suc h - 1 ≡ h = omega arith in
    rw one (elim (one_side h i page b) [
      | inl left ↦ left
      | inr right ↦ absurd (omega (arith, right, div_below page (2 ^ h) (2 * i + 1) (pow_pos h) (rw one at lt)))
    ])

-- a page below a node and from its middle on is below its right side
pub from_middle : (height i page : ℕ) → 1 ≤ height → IsBelow height i page → (2 * i + 1) * 2 ^ (height - 1) ≤ page → IsBelow (height - 1) (2 * i + 1) page
from_middle zero i page some b le = absurd (omega (arith, some))
from_middle (suc h) i page some b le =
    let one : suc h - 1 ≡ h = omega arith in
    rw one (elim (one_side h i page b) [
      | inl left ↦ absurd (omega (arith, left, le-div (2 * i + 1) page (2 ^ h) (pow_pos h) (rw one at le)))
      | inr right ↦ right
    ])
