-- A tree in which some pages are open and the rest is pruned to digests. H is the digest function.
use Rattle.std.specs.Prelude.{◌≡◌, ℕ, zero, suc, ◌+◌, ◌*◌, ◌/◌, ◌^◌, Bool, List, [], ◌∷◌, ◌++◌, Option, Some, None, unwrap_or, ◌==◌, if◌then◌else◌}
use Rattle.std.specs.List.{list_any}
use Rattle.std.specs.Option.{option_or}
use Rattle.digest_core.specs.Digests.{IsDigest}
use Rattle.page_core.specs.Pages.{Pages, IsPage, zero_page}
use Rattle.part_tree.specs.Tree.{node, IsBelow}

pub data Part : Type 0 where
  pruned : (digest : List ℕ) → Part
  branch : (left right : Part) → Part
  leaf : (page : List ℕ) → Part

-- branches stand above height 0 alone, pages at height 0 alone, and digests and pages have their bytes
abbrev pub IsPart : ℕ → Part → Type 0
IsPart h (pruned digest) = IsDigest digest
IsPart zero (branch left right) = ⊥
IsPart (suc h) (branch left right) = IsPart h left × IsPart h right
IsPart zero (leaf page) = IsPage page
IsPart (suc h) (leaf page) = ⊥

abbrev pub root_of : (List ℕ → List ℕ) → Part → List ℕ
root_of H (pruned digest) = digest
root_of H (branch left right) = H (root_of H left ++ root_of H right)
root_of H (leaf page) = H page

-- what is hashed at the branches and pages
abbrev pub part_strings : (List ℕ → List ℕ) → Part → List (List ℕ)
part_strings H (pruned digest) = []
part_strings H (branch left right) = (root_of H left ++ root_of H right) ∷ (part_strings H left ++ part_strings H right)
part_strings H (leaf page) = page ∷ []

-- the numbers of the open pages, under node i
abbrev pub open_numbers : ℕ → Part → List ℕ
open_numbers i (pruned digest) = []
open_numbers i (branch left right) = open_numbers (2 * i) left ++ open_numbers (2 * i + 1) right
open_numbers i (leaf page) = i ∷ []

-- the bytes of a page, if it is open under node i
abbrev pub page_at : ℕ → Part → ℕ → Option (List ℕ)
page_at i (pruned digest) number = None
page_at i (branch left right) number = option_or (page_at (2 * i) left number) (page_at (2 * i + 1) right number)
page_at i (leaf page) number = if number == i then Some page else None

-- the memory with the open pages, and zeros elsewhere
abbrev pub fill : Part → Pages
fill t = λ number. unwrap_or (page_at 0 t number) zero_page

-- at or below node i of height h, the memory has the open pages, and zeros elsewhere
abbrev pub HasPages : ℕ → ℕ → Part → Pages → Type 0
HasPages h i t m = (number : ℕ) → IsBelow h i number → m number ≡ unwrap_or (page_at i t number) zero_page

-- the tree with the memory's bytes in each open page
abbrev pub put_part : ℕ → Part → Pages → Part
put_part i (pruned digest) m = pruned digest
put_part i (branch left right) m = branch (put_part (2 * i) left m) (put_part (2 * i + 1) right m)
put_part i (leaf page) m = leaf (m i)

-- at node i of height h, each open page is the memory's and each pruned digest is that of the memory's node
abbrev pub Agree : (List ℕ → List ℕ) → Pages → ℕ → ℕ → Part → Type 0
Agree H m h i (pruned digest) = digest ≡ node H m h i
Agree H m zero i (branch left right) = ⊥
Agree H m (suc h) i (branch left right) = Agree H m h (2 * i) left × Agree H m h (2 * i + 1) right
Agree H m zero i (leaf page) = page ≡ m i
Agree H m (suc h) i (leaf page) = ⊥

-- whether one of the pages is at or below node i of height h
abbrev pub any_below : ℕ → ℕ → List ℕ → Bool
any_below h i pages = list_any (λ page. page / 2 ^ h == i) pages

-- the tree of a memory that opens these pages and is pruned at each highest node without one
unfoldable pub part_of : (List ℕ → List ℕ) → Pages → List ℕ → ℕ → ℕ → Part
part_of H m pages zero i = if any_below 0 i pages then leaf (m i) else pruned (node H m 0 i)
part_of H m pages (suc h) i = if any_below (suc h) i pages then branch (part_of H m pages h (2 * i)) (part_of H m pages h (2 * i + 1)) else pruned (node H m (suc h) i)
