-- The bytes of a receipt, version 1. Numbers are little-endian: words of 4 bytes, and halves of 2.
use Rattle.std.specs.Prelude.{◌≡◌, ℕ, List, ◌∷◌, ◌++◌, length, codes}
use Rattle.std.specs.Int.{w16, w32, to_le_bytes}
use Rattle.std.specs.List.{flat_map}
use Rattle.part_tree.specs.Part.{Part, pruned, branch, leaf}
use Rattle.receipt_types.specs.Seals.{Seal}
use Rattle.receipt_types.specs.Bundles.{Entry, Bundle}
use Rattle.receipt_types.specs.Limits.{KeepsLimits}

-- in preorder: byte 0 and a digest, byte 1 and the two sides, or byte 2 and a page
abbrev pub tree_bytes : Part → List ℕ
tree_bytes (pruned digest) = 0 ∷ digest
tree_bytes (branch left right) = 1 ∷ (tree_bytes left ++ tree_bytes right)
tree_bytes (leaf page) = 2 ∷ page

-- pc, steps, number of words, the words, the tree
abbrev pub seal_bytes : Seal → List ℕ
seal_bytes seal =
    to_le_bytes w32 seal.pc ++ to_le_bytes w32 seal.steps ++ to_le_bytes w32 (length seal.words) ++ flat_map (to_le_bytes w32) seal.words ++ tree_bytes seal.tree

-- number of links, number of seals, the links as halves, the seals
abbrev pub entry_bytes : Entry → List ℕ
entry_bytes entry =
    to_le_bytes w32 (length entry.links) ++ to_le_bytes w32 (length entry.seals) ++ flat_map (to_le_bytes w16) entry.links ++ flat_map seal_bytes entry.seals

-- "SEAL", the version, the number of entries, the entries
abbrev pub bundle_bytes : Bundle → List ℕ
bundle_bytes B = codes "SEAL" ++ to_le_bytes w16 1 ++ to_le_bytes w16 (length B) ++ flat_map entry_bytes B

-- the bytes spell the bundle: it keeps the limits, and these are its bytes, with nothing after them
pub record Spells (B : Bundle) (bytes : List ℕ) : Type 0 where
  pub limits : KeepsLimits B
  pub is : bytes ≡ bundle_bytes B
