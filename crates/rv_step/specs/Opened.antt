-- Pages of a memory, of which some are open.
use Rattle.std.specs.Prelude.{ℕ, List, Option, None, get_or, unwrap_or}
use Rattle.page_core.specs.Pages.{Pages, zero_page}

-- the page with this number, if it is open
abbrev pub page_in : List (Option (List ℕ)) → ℕ → Option (List ℕ)
page_in pages number = get_or pages number None

-- the memory with the open pages, and zeros elsewhere
abbrev pub pages_in : List (Option (List ℕ)) → Pages
pages_in pages = λ number. unwrap_or (page_in pages number) zero_page
