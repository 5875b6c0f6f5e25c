-- A memory in two layers: the pages above, and below them those of a map.
use Rattle.std.specs.Prelude.{ℕ, List, Option, unwrap_or}
use Rattle.std.specs.Option.{option_or}
use Rattle.page_core.specs.Pages.{Pages, zero_page}
use Rattle.page_core.specs.Memories.{flat}
use Rattle.page_core.specs.Stored.{Stored, stored_at}
use Rattle.rv_step.specs.Opened.{page_in}

pub record Layers : Type 0 where
  pub above : List (Option (List ℕ))
  pub below : Stored

-- the page with this number, if one of the layers has it
abbrev pub layer_page : Layers → ℕ → Option (List ℕ)
layer_page l number = option_or (page_in l.above number) (stored_at l.below number)

-- the pages: one that neither has is zero
abbrev pub layered_pages : Layers → Pages
layered_pages l = λ number. unwrap_or (layer_page l number) zero_page

-- the byte at each address
abbrev pub memory_in : Layers → ℕ → ℕ
memory_in l = flat (layered_pages l)
