-- The place of the first split of a part tree from a memory. H is the digest function.
use Rattle.std.specs.Prelude.{◌≡◌, ℕ, zero, suc, ◌+◌, ◌*◌, List, ◌++◌, Option, None, option_map}
use Rattle.std.specs.Option.{option_or}
use Rattle.page_core.specs.Pages.{Pages}
use Rattle.part_tree.specs.Tree.{node_string}
use Rattle.part_tree.specs.Part.{Part, pruned, branch, leaf, root_of}
use Rattle.part_tree.specs.Splits.{differ, split_of}

-- the height and number of the first node at or below node i of height h, in preorder, whose string isn't the memory's
abbrev pub place_of : (List ℕ → List ℕ) → Pages → ℕ → ℕ → Part → Option (ℕ × ℕ)
place_of H m h i (pruned digest) = None
place_of H m zero i (branch left right) = None
place_of H m (suc h) i (branch left right) =
    option_or (option_map (λ pair. (suc h, i)) (differ (root_of H left ++ root_of H right) (node_string H m (suc h) i)))
    (option_or (place_of H m h (2 * i) left) (place_of H m h (2 * i + 1) right))
place_of H m zero i (leaf page) = option_map (λ pair. (0, i)) (differ page (m i))
place_of H m (suc h) i (leaf page) = None

-- there is a split exactly where there is a place, and its right string is that of the memory's node there
abbrev pub SplitsHavePlaces : (List ℕ → List ℕ) → Type 0
SplitsHavePlaces H = (m : Pages) (h i : ℕ) (t : Part) →
    option_map (λ pair. pair.right) (split_of H m h i t) ≡ option_map (λ place. node_string H m place.0 place.1) (place_of H m h i t)
