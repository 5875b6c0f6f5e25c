-- The canonical form of a tree, node by node.
use Rattle.std.proofs.Common.{ℕ, zero, suc, ◌^◌, ◌≤◌, arith}
use Rattle.std.proofs.Math.Nat.{pow-suc}
use Rattle.std.proofs.Math.Pow.{pow_mono}
use Rattle.part_tree.specs.Part.{Part, pruned, branch, leaf, IsPart}
use Rattle.part_tree.specs.Canonical.{page_count}

-- a tree of height h has at most 2 ^ h pages
pub few_pages : (h : ℕ) (t : Part) → IsPart h t → page_count t ≤ 2 ^ h
few_pages h (pruned digest) shape = omega arith
few_pages zero (branch left right) shape = absurd shape
few_pages (suc h) (branch left right) shape =
    omega (arith, pow-suc 2 h, few_pages h left shape.0, few_pages h right shape.1)
few_pages zero (leaf page) shape = omega arith
few_pages (suc h) (leaf page) shape = absurd shape

-- so a side of a node of the whole tree has at most 2 ^ 17
pub few_below : (h : ℕ) (t : Part) → h ≤ 17 → IsPart h t → page_count t ≤ 2 ^ 17
few_below h t low shape = omega (arith, few_pages h t shape, pow_mono low)
