-- The open pages of a part tree ascend.
use Rattle.std.proofs.Common.{ℕ, zero, suc, ◌+◌, ◌*◌, ◌^◌, ◌<◌, ◌≤◌, List, [], ◌∷◌, ◌++◌, arith}
use Rattle.std.proofs.Math.Nat.{pow-suc}
use Rattle.part_tree.specs.Part.{Part, pruned, branch, leaf, IsPart, open_numbers}
use Rattle.page_tree.specs.Grown.{AscendFrom}

-- they ascend from one number on and are below another
Between : ℕ → ℕ → List ℕ → Type 0
Between least most [] = Unit {0}
Between least most (x ∷ xs) = (least ≤ x) × (x < most) × Between (x + 1) most xs

between_wider : (least' least most : ℕ) (xs : List ℕ) → least' ≤ least → Between least most xs → Between least' most xs
unfolding Between
between_wider least' least most [] le up = tt
between_wider least' least most (x ∷ xs) le up = (omega (arith, le, up.0), up.1, up.2)

between_append : (least mid most : ℕ) (xs ys : List ℕ) → least ≤ mid → mid ≤ most → Between least mid xs → Between mid most ys → Between least most (xs ++ ys)
unfolding Between
between_append least mid most [] ys low high up up' = between_wider least mid most ys low up'
between_append least mid most (x ∷ xs) ys low high up up' =
    (up.0, omega (arith, up.1, high), between_append (x + 1) mid most xs ys (omega (arith, up.1)) high up.2 up')

between_open : (h i : ℕ) (t : Part) → IsPart h t → Between (i * 2 ^ h) ((i + 1) * 2 ^ h) (open_numbers i t)
unfolding Between
between_open h i (pruned digest) shape = tt
between_open zero i (branch left right) shape = absurd shape
between_open (suc h) i (branch left right) shape =
    rw (pow-suc 2 h)
    (between_append (i * (2 ^ h * 2)) ((2 * i + 1) * 2 ^ h) ((i + 1) * (2 ^ h * 2)) (open_numbers (2 * i) left) (open_numbers (2 * i + 1) right) (omega arith) (omega arith)
    (between_wider (i * (2 ^ h * 2)) (2 * i * 2 ^ h) ((2 * i + 1) * 2 ^ h) (open_numbers (2 * i) left) (omega arith) (between_open h (2 * i) left shape.0))
    (between_same ((2 * i + 1) * 2 ^ h) ((2 * i + 1 + 1) * 2 ^ h) ((i + 1) * (2 ^ h * 2)) (open_numbers (2 * i + 1) right) (omega arith) (between_open h (2 * i + 1) right shape.1)))
  where
    between_same : (least most most' : ℕ) (xs : List ℕ) → most ≤ most' → Between least most xs → Between least most' xs
    between_same least most most' [] le up = tt
    between_same least most most' (x ∷ xs) le up = (up.0, omega (arith, up.1, le), between_same (x + 1) most most' xs le up.2)
between_open zero i (leaf page) shape = (omega arith, omega arith, tt)
between_open (suc h) i (leaf page) shape = absurd shape

ascend_between : (least : ℕ) (xs : List ℕ) → Between least 262144 xs → AscendFrom least xs
unfolding Between
ascend_between least [] up = tt
ascend_between least (x ∷ xs) up = (up.0, up.1, ascend_between (x + 1) xs up.2)

pub opened_ascend : (t : Part) → IsPart 18 t → AscendFrom 0 (open_numbers 0 t)
opened_ascend t shape = ascend_between 0 (open_numbers 0 t) (between_open 18 0 t shape)
