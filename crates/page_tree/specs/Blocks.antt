-- Blocks of a hash tree: 64 children of 2^b pages each, and the digests of the nodes over them. A block is one at each of its
-- places in a memory: its pages are found by the last binary digits of their numbers. H is the digest function.
use Rattle.std.specs.Prelude.{◌≡◌, ℕ, ◌+◌, ◌-◌, ◌/◌, ◌%◌, ◌^◌, ◌<◌, List, [], length, get_or, Option, Some, None, option_map, option_and_then, unwrap_or, IfSome}
use Rattle.std.specs.Arc.{arc_value}
use Rattle.std.specs.declared.sync.Arc.{Arc}
use Rattle.page_core.specs.Pages.{Pages, IsPage, zero_page}
use Rattle.part_tree.specs.Tree.{node}
use Rattle.page_tree.specs.declared.block.Block.{Block}

-- the digest of a node of height h in a memory of zeros
abbrev pub zero_node : (List ℕ → List ℕ) → ℕ → List ℕ
zero_node H h = node H (λ page. zero_page) h 0

-- the place in a block of the digest of node x, of height k over its children
abbrev pub place_of : ℕ → ℕ → ℕ
place_of k x = 2 ^ (6 - k) + x % 2 ^ (6 - k)

-- the digests of one height are those of a memory's nodes
abbrev pub LevelIs : (List ℕ → List ℕ) → Pages → ℕ → ℕ → List (List ℕ) → Type 0
LevelIs H m b k digests = (x : ℕ) → get_or digests (place_of k x) [] ≡ node H m (b + k) x

-- and so are those of all six
abbrev pub DigestsAre : (List ℕ → List ℕ) → Pages → ℕ → List (List ℕ) → Type 0
DigestsAre H m b digests = (k : ℕ) → k < 6 → LevelIs H m b k digests

-- the child at this place, if it isn't absent
abbrev pub child_at : {C Z : Type 0} → List (Option (Arc C Z)) → ℕ → Option C
child_at children k = option_map (λ child. arc_value child) (get_or children k None)

-- the page with this number, if it is stored below one of the children, each of which has those that `pages` finds
abbrev pub page_in : {C Z : Type 0} → (C → ℕ → Option (List ℕ)) → ℕ → List (Option (Arc C Z)) → ℕ → Option (List ℕ)
page_in pages b children n = option_and_then (λ child. pages child n) (child_at children (n / 2 ^ b % 64))

-- the memory of the pages that are found: the others are zero
abbrev pub memory_by : (ℕ → Option (List ℕ)) → Pages
memory_by found = λ n. unwrap_or (found n) zero_page

-- the digests of a block are those of its pages, and each of its 64 children is what it is to be
pub record IsBlock {C Z : Type 0} (H : List ℕ → List ℕ) (pages : C → ℕ → Option (List ℕ)) (Is : C → Type 0) (b : ℕ) (digests : List (List ℕ)) (children : List (Option (Arc C Z))) : Type 0 where
  pub long : length children ≡ 64
  pub digests_are : DigestsAre H (memory_by (page_in pages b children)) b digests
  pub children_are : (k : ℕ) → IfSome (child_at children k) Is

-- the page with this number in a low, a middle and the top block
abbrev pub page_of_low : Block (List ℕ) → ℕ → Option (List ℕ)
page_of_low low = page_in (λ page n. Some page) 0 low.children.items

abbrev pub page_of_middle : Block (Block (List ℕ)) → ℕ → Option (List ℕ)
page_of_middle middle = page_in page_of_low 6 middle.children.items

abbrev pub page_of_top : Block (Block (Block (List ℕ))) → ℕ → Option (List ℕ)
page_of_top top = page_in page_of_middle 12 top.children.items

-- each of them has the digests of its pages, and so has each block below
abbrev pub IsLow : (List ℕ → List ℕ) → Block (List ℕ) → Type 0
IsLow H low = IsBlock H (λ page n. Some page) IsPage 0 low.digests low.children.items

abbrev pub IsMiddle : (List ℕ → List ℕ) → Block (Block (List ℕ)) → Type 0
IsMiddle H middle = IsBlock H page_of_low (IsLow H) 6 middle.digests middle.children.items

abbrev pub IsTop : (List ℕ → List ℕ) → Block (Block (Block (List ℕ))) → Type 0
IsTop H top = IsBlock H page_of_middle (IsMiddle H) 12 top.digests top.children.items
