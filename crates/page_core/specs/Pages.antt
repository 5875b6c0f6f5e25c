-- A memory as a function from page numbers to pages of 1,024 bytes. Pages from 2 ^ 18 on have bytes too; the trees and
-- the maps of stored pages don't see them.
use Rattle.std.specs.Prelude.{◌≡◌, ℕ, ◌<◌, List, length, All, replicate, ◌==◌, if◌then◌else◌}

-- the bytes of each page, by its number
abbrev pub Pages : Type 0
Pages = ℕ → List ℕ

-- 1,024 bytes
abbrev pub IsPage : List ℕ → Type 0
IsPage page = (length page ≡ 1024) × All (λ byte. byte < 256) page

-- each page has its bytes
abbrev pub ArePages : Pages → Type 0
ArePages m = (number : ℕ) → IsPage (m number)

-- the pages with these bytes in the place of one
abbrev pub with_page : Pages → ℕ → List ℕ → Pages
with_page m page bytes = λ p. if p == page then bytes else m p

-- a page of zeros
unfoldable pub zero_page : List ℕ
zero_page = replicate 1024 0
