-- A finite map of stored pages, and the memory that it stands for.
use Rattle.std.specs.Prelude.{◌≡◌, ⊤, ℕ, ◌+◌, ◌<◌, ◌≤◌, ◌==◌, ◌||◌, leb, if◌then◌else◌, List, [], ◌∷◌, Contains, IsTrue, Option, Some, None, is_some, unwrap_or}
use Rattle.page_core.specs.Memory.{is_among}
use Rattle.page_core.specs.Pages.{Pages, IsPage, zero_page}
use Rattle.page_core.specs.Memories.{flat}
use Rattle.page_core.specs.declared.sizes.TheConstants.{PAGES}

-- pages with their numbers, ascending
abbrev pub Stored : Type 0
Stored = List (ℕ × List ℕ)

-- the numbers ascend from this one on and are those of pages of a memory, and each page has its bytes
abbrev pub IsStoredFrom : ℕ → Stored → Type 0
IsStoredFrom least [] = ⊤
IsStoredFrom least (p ∷ ps) = (least ≤ p.0) × (p.0 < PAGES) × IsPage p.1 × IsStoredFrom (p.0 + 1) ps

-- the page with this number, if it is stored
abbrev pub stored_at : Stored → ℕ → Option (List ℕ)
stored_at [] number = None
stored_at (p ∷ ps) number = if number == p.0 then Some p.1 else stored_at ps number

-- the first stored page from this number on
abbrev pub first_from : ℕ → Stored → Option (ℕ × List ℕ)
first_from least [] = None
first_from least (p ∷ ps) = if leb least p.0 then Some p else first_from least ps

-- the pages of the memory: one that isn't stored is zero
abbrev pub stored_pages : Stored → Pages
stored_pages stored = λ number. unwrap_or (stored_at stored number) zero_page

-- the byte at each address
abbrev pub memory_of : Stored → ℕ → ℕ
memory_of stored = flat (stored_pages stored)

-- exactly this page and those that were stored are stored
abbrev pub StoresAlso : ℕ → Stored → Stored → Type 0
StoresAlso number old new = (n : ℕ) → is_some (stored_at new n) ≡ (n == number || is_some (stored_at old n))

-- each page that was stored is stored, and each that is stored now was stored or is one of these
pub record StoresSome (pages : List ℕ) (old new : Stored) : Type 0 where
  pub kept : (n : ℕ) → IsTrue (is_some (stored_at old n)) → IsTrue (is_some (stored_at new n))
  pub only : (n : ℕ) → IsTrue (is_some (stored_at new n)) → IsTrue (is_among pages n || is_some (stored_at old n))

-- one of these pages isn't stored
abbrev pub IsAbsentAmong : List ℕ → Stored → Type 0
IsAbsentAmong pages stored = (number : ℕ) × Contains pages number × (stored_at stored number ≡ None)
