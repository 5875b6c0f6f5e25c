-- The hash tree over a memory's pages. H is the digest function; pages have height 0, and node i of height h + 1 has the nodes 2 * i and 2 * i + 1 of height h below it.
use Rattle.std.specs.Prelude.{◌≡◌, ℕ, zero, suc, ◌+◌, ◌*◌, ◌/◌, ◌^◌, List, [], ◌∷◌, ◌++◌}
use Rattle.std.proofs.Common.{refl}
use Rattle.page_core.specs.Pages.{Pages}
use Rattle.part_tree.specs.declared.sizes.TheConstants.{HEIGHT}

-- what is hashed at a node: the page's bytes, or the two digests below it
unfoldable pub node_string : (List ℕ → List ℕ) → Pages → ℕ → ℕ → List ℕ
node_string H m zero i = m i
node_string H m (suc h) i = H (node_string H m h (2 * i)) ++ H (node_string H m h (2 * i + 1))

-- the digest of node i at height h
abbrev pub node : (List ℕ → List ℕ) → Pages → ℕ → ℕ → List ℕ
node H m h i = H (node_string H m h i)

-- the rules of the tree, one level at a time
pub node-zero : (H : List ℕ → List ℕ) (m : Pages) (i : ℕ) → node H m 0 i ≡ H (m i)
unfolding node_string
node-zero H m i = refl

pub node-suc : (H : List ℕ → List ℕ) (m : Pages) (h i : ℕ) → node H m (suc h) i ≡ H (node H m h (2 * i) ++ node H m h (2 * i + 1))
unfolding node_string
node-suc H m h i = refl

-- the digest of the whole memory
abbrev pub root : (List ℕ → List ℕ) → Pages → List ℕ
root H m = node H m HEIGHT 0

-- what is hashed at a node and below it
unfoldable pub tree_strings : (List ℕ → List ℕ) → Pages → ℕ → ℕ → List (List ℕ)
tree_strings H m zero i = m i ∷ []
tree_strings H m (suc h) i = node_string H m (suc h) i ∷ (tree_strings H m h (2 * i) ++ tree_strings H m h (2 * i + 1))

-- the page is at or below node i of height h
abbrev pub IsBelow : ℕ → ℕ → ℕ → Type 0
IsBelow h i page = page / 2 ^ h ≡ i
