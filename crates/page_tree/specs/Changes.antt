-- Pages that a block is changed by.
use Rattle.std.specs.Prelude.{◌≢◌, ⊤, ℕ, Bool, false, ◌+◌, ◌/◌, ◌%◌, ◌^◌, ◌==◌, if◌then◌else◌, List, [], ◌∷◌, Option, Some, None}
use Rattle.std.specs.Option.{option_or}
use Rattle.page_tree.specs.Blocks.{place_of}

-- none of these pages is at or below node x, of height k over children of 2^b pages
abbrev pub Untouched : ℕ → ℕ → ℕ → List (ℕ × List ℕ) → Type 0
Untouched b k x [] = ⊤
Untouched b k x (p ∷ ps) = (place_of k (p.0 / 2 ^ (b + k)) ≢ place_of k x) × Untouched b k x ps

-- the last of these pages whose number is n, in a memory of this many pages
abbrev pub last_of : ℕ → ℕ → List (ℕ × List ℕ) → Option (List ℕ)
last_of many n [] = None
last_of many n (p ∷ ps) = option_or (last_of many n ps) (if p.0 % many == n % many then Some p.1 else None)

-- the test whether the first of these pages is at or below node i of height h
abbrev pub begins_below : ℕ → ℕ → List (ℕ × List ℕ) → Bool
begins_below h i [] = false
begins_below h i (p ∷ ps) = p.0 / 2 ^ h == i
