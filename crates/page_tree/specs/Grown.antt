-- The stored pages of a memory that grow by others, whose numbers ascend.
use Rattle.std.specs.Prelude.{⊤, ℕ, zero, suc, ◌+◌, ◌<◌, ◌≤◌, ◌==◌, if◌then◌else◌, leb, List, [], ◌∷◌, Option, Some, None}
use Rattle.page_core.specs.Stored.{Stored}
use Rattle.page_core.specs.declared.sizes.TheConstants.{PAGES}

-- page numbers ascend from this one on and are those of pages of a memory
abbrev pub AscendFrom : ℕ → List ℕ → Type 0
AscendFrom least [] = ⊤
AscendFrom least (p ∷ ps) = (least ≤ p) × (p < PAGES) × AscendFrom (p + 1) ps

-- the stored pages with one more, or with it in the place of the one with its number
unfoldable pub stored_with : Stored → ℕ → List ℕ → Stored
stored_with [] n page = (n, page) ∷ []
stored_with (p ∷ ps) n page = if leb p.0 n then (if n == p.0 then (n, page) ∷ ps else p ∷ stored_with ps n page) else (n, page) ∷ p ∷ ps

-- and with each of these
unfoldable pub stored_with_all : Stored → List (ℕ × List ℕ) → Stored
stored_with_all stored [] = stored
stored_with_all stored (p ∷ ps) = stored_with_all (stored_with stored p.0 p.1) ps

-- the page with this number, if it is found, before those after it
abbrev pub found_before : ℕ → Option (List ℕ) → Stored → Stored
found_before number None after = after
found_before number (Some page) after = (number, page) ∷ after

-- the stored pages of n numbers from this one on: those that are found
unfoldable pub gathered : (ℕ → Option (List ℕ)) → ℕ → ℕ → Stored
gathered found least zero = []
gathered found least (suc n) = found_before least (found least) (gathered found (least + 1) n)
