-- The canonical form of a part tree: the one form in which a receipt may show these pages.
use Rattle.std.specs.Prelude.{ℕ, ◌+◌, ◌<◌, ◌≤◌}
use Rattle.part_tree.specs.Part.{Part, pruned, branch, leaf, IsPart}
use Rattle.part_tree.specs.declared.sizes.TheConstants.{HEIGHT, MOST_PAGES}

-- how many pages are open
abbrev pub page_count : Part → ℕ
page_count (pruned digest) = 0
page_count (branch left right) = page_count left + page_count right
page_count (leaf page) = 1

-- every branch has a page below it
abbrev pub BranchesOpen : Part → Type 0
BranchesOpen (pruned digest) = Unit {0}
BranchesOpen (branch left right) = (0 < page_count left + page_count right) × BranchesOpen left × BranchesOpen right
BranchesOpen (leaf page) = Unit {0}

abbrev pub IsBranch : Part → Type 0
IsBranch (pruned digest) = ⊥
IsBranch (branch left right) = Unit {0}
IsBranch (leaf page) = ⊥

-- the whole tree has height 18, its root is a branch, every branch has a page below it, and at most 4,096 pages are open
pub record IsCanonical (t : Part) : Type 0 where
  pub shape : IsPart HEIGHT t
  pub root : IsBranch t
  pub branches : BranchesOpen t
  pub few : page_count t ≤ MOST_PAGES
