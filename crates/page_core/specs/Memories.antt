-- The two views of one memory: its bytes by their addresses, and its pages by their numbers.
use Rattle.std.specs.Prelude.{ℕ, ◌*◌, ◌/◌, ◌%◌, get_or}
use Rattle.page_core.specs.Memory.{bytes}
use Rattle.page_core.specs.Pages.{Pages}

-- the pages of a memory, each of 1,024 bytes
abbrev pub page_of : (ℕ → ℕ) → Pages
page_of m i = bytes m (1024 * i) 1024

-- the byte at each address, of a memory of pages: the page of an address is the address divided by 1,024
abbrev pub flat : Pages → ℕ → ℕ
flat pages a = get_or (pages (a / 1024)) (a % 1024) 0
