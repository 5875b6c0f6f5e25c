-- Where a part tree and a memory differ: the first node whose strings are not the same. H is the digest function.
use Rattle.std.specs.Prelude.{◌≢◌, ◌≡◌, ℕ, zero, suc, ◌+◌, ◌*◌, cond, List, ◌++◌, Option, Some, None, Contains}
use Rattle.std.specs.Option.{option_or}
use Rattle.std.specs.Str.{bytes_eq}
use Rattle.page_core.specs.Pages.{Pages}
use Rattle.part_tree.specs.Tree.{node_string}
use Rattle.part_tree.specs.Part.{Part, pruned, branch, leaf, root_of}

-- a string of a receipt and one of an image
pub record Pair : Type 0 where
  pub left : List ℕ
  pub right : List ℕ

-- the two strings where they differ
abbrev pub differ : List ℕ → List ℕ → Option Pair
differ x y = cond (bytes_eq x y) None (Some (record { left = x; right = y }))

-- the first node at or below node i of height h, in preorder, whose string isn't the memory's
abbrev pub split_of : (List ℕ → List ℕ) → Pages → ℕ → ℕ → Part → Option Pair
split_of H m h i (pruned digest) = None
split_of H m zero i (branch left right) = None
split_of H m (suc h) i (branch left right) =
    option_or (differ (root_of H left ++ root_of H right) (node_string H m (suc h) i))
    (option_or (split_of H m h (2 * i) left) (split_of H m h (2 * i + 1) right))
split_of H m zero i (leaf page) = differ page (m i)
split_of H m (suc h) i (leaf page) = None

-- there is a pair, of two strings of the list that differ and have one digest
pub record Exhibits (H : List ℕ → List ℕ) (xs : List (List ℕ)) (o : Option Pair) : Type 0 where
  pub pair : Pair
  pub is : o ≡ Some pair
  pub in_left : Contains xs pair.left
  pub in_right : Contains xs pair.right
  pub differs : pair.left ≢ pair.right
  pub same_digest : H pair.left ≡ H pair.right
