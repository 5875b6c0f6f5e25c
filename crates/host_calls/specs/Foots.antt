-- Footprints: the pages that a step touches, listed as the register page, the code page unless the fetch faults, and
-- the data pages ascending, each page once.
use Rattle.std.specs.Prelude.{ℕ, suc, cond, ltb, eqb, List, [], ◌∷◌}
use Rattle.page_core.specs.Memory.{place}

-- how many of these come before the first that is no less than p
abbrev pub below : ℕ → List ℕ → ℕ
below p [] = 0
below p (q ∷ qs) = cond (ltb q p) (suc (below p qs)) 0

-- a footprint with one more page of data
abbrev pub with_data : ℕ → List ℕ → List ℕ
with_data p (registers ∷ code ∷ others) = registers ∷ code ∷ cond (eqb code p) others (place p others)
with_data p foot = foot

-- a footprint with more pages of data, the last first
abbrev pub with_pages : List ℕ → List ℕ → List ℕ
with_pages foot [] = foot
with_pages foot (p ∷ ps) = with_data p (with_pages foot ps)
