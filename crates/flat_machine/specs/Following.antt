-- A tree that follows a run, and the pages that two memories have differently.
use Rattle.std.specs.Prelude.{◌≡◌, ℕ, ◌<◌, if◌then◌else◌, List, [], ◌∷◌, ◌++◌}
use Rattle.std.specs.Str.{bytes_eq}
use Rattle.page_core.specs.Memories.{page_of}
use Rattle.page_core.specs.Pages.{Pages}
use Rattle.page_core.specs.Stored.{Stored, stored_pages}
use Rattle.page_core.specs.declared.sizes.TheConstants.{PAGES}
use Rattle.rv_step.specs.Machine.{State, full}

-- a tree holds the memory of a state, with the registers
abbrev pub HoldsMemory : Stored → State → Type 0
HoldsMemory tree s = (page : ℕ) → page < PAGES → stored_pages tree page ≡ page_of (full s) page

-- the new page with this number, if it isn't the old one
abbrev pub changed_page : ℕ → List ℕ → List ℕ → Stored
changed_page number old new = if bytes_eq old new then [] else (number, new) ∷ []

-- the new ones of these pages that aren't the old ones
unfoldable pub changed : Pages → Pages → List ℕ → Stored
changed old new [] = []
changed old new (page ∷ pages) = changed_page page (old page) (new page) ++ changed old new pages
