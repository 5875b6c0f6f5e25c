-- A memory's part tree has its canonical form.
use Rattle.std.proofs.Common.{◌≡◌, inl, inr, ℕ, zero, suc, ◌+◌, ◌*◌, ◌/◌, ◌^◌, ◌<◌, ◌≤◌, true, false, cond, eqb, List, [], ◌∷◌, length, refl, sym, ap, ◌∙◌, arith}
use Rattle.std.specs.Prelude.{All}
use Rattle.std.proofs.lemmas.Bool.Decides.{eqb_tells, leb_tells}
use Rattle.std.proofs.lemmas.List.Elements.{All-head}
use Rattle.digest_core.specs.Digests.{IsDigest}
use Rattle.page_core.specs.Pages.{Pages, ArePages}
use Rattle.part_tree.specs.Tree.{node, IsBelow}
use Rattle.part_tree.specs.Part.{pruned, branch, leaf, any_below, part_of}
use Rattle.part_tree.specs.Canonical.{page_count, BranchesOpen, IsBranch, IsCanonical}
use Rattle.part_tree.proofs.Below.{above}
use Rattle.part_tree.proofs.Made.{chosen, part_agrees, agree_tells}

-- how many of the pages are below a node
abbrev count_below : ℕ → ℕ → List ℕ → ℕ
count_below h i [] = 0
count_below h i (p ∷ ps) = cond (eqb (p / 2 ^ h) i) (suc (count_below h i ps)) (count_below h i ps)

-- a page that is below the node counts, and no other
counted : (h i p : ℕ) (ps : List ℕ) → IsBelow h i p → count_below h i (p ∷ ps) ≡ suc (count_below h i ps)
counted h i p ps b =
    elim (eqb_tells (p / 2 ^ h) i) [
      | inl same ↦ ap (λ t. cond t (suc (count_below h i ps)) (count_below h i ps)) same.0
      | inr other ↦ absurd (other.1 b)
    ]

passed : (h i p : ℕ) (ps : List ℕ) → (IsBelow h i p → ⊥) → count_below h i (p ∷ ps) ≡ count_below h i ps
passed h i p ps away =
    elim (eqb_tells (p / 2 ^ h) i) [
      | inl same ↦ absurd (away same.1)
      | inr other ↦ ap (λ t. cond t (suc (count_below h i ps)) (count_below h i ps)) other.0
    ]

-- the pages below a node are those below its two sides
two_counts : (h i : ℕ) (pages : List ℕ) → count_below h (2 * i) pages + count_below h (2 * i + 1) pages ≡ count_below (suc h) i pages
two_counts h i [] = refl
two_counts h i (p ∷ ps) =
    let up = above h p in
    let rest = two_counts h i ps in
    elim (eqb_tells (p / 2 ^ h) (2 * i)) [
      | inl left ↦
          rw (counted h (2 * i) p ps left.1, passed h (2 * i + 1) p ps (λ b. omega (arith, b, left.1)), counted (suc h) i p ps (omega (arith, up, left.1)))
          (omega (arith, rest))
      | inr away ↦ elim (eqb_tells (p / 2 ^ h) (2 * i + 1)) [
        | inl right ↦
            rw (passed h (2 * i) p ps away.1, counted h (2 * i + 1) p ps right.1, counted (suc h) i p ps (omega (arith, up, right.1)))
            (omega (arith, rest))
        | inr none ↦
            rw (passed h (2 * i) p ps away.1, passed h (2 * i + 1) p ps none.1, passed (suc h) i p ps (λ b. omega (arith, up, b, away.1, none.1)))
            rest
      ]
    ]

-- the test finds one exactly where they count one
any_counts : (h i : ℕ) (pages : List ℕ) → any_below h i pages ≡ true → 1 ≤ count_below h i pages
any_counts h i [] e = cc
any_counts h i (p ∷ ps) e =
    elim (eqb_tells (p / 2 ^ h) i) [
      | inl same ↦ rw (counted h i p ps same.1) (omega arith)
      | inr other ↦ rw (passed h i p ps other.1) (any_counts h i ps (rw other.0 at e))
    ]

count_any : (h i : ℕ) (pages : List ℕ) → 1 ≤ count_below h i pages → any_below h i pages ≡ true
count_any h i [] some = absurd (omega (arith, some))
count_any h i (p ∷ ps) some =
    elim (eqb_tells (p / 2 ^ h) i) [
      | inl same ↦ rw same.0 refl
      | inr other ↦ rw other.0 (count_any h i ps (rw (passed h i p ps other.1) at some))
    ]

-- no more than all of them count, and below the root all do
count_few : (h i : ℕ) (pages : List ℕ) → count_below h i pages ≤ length pages
count_few h i [] = omega arith
count_few h i (p ∷ ps) =
    elim (eqb_tells (p / 2 ^ h) i) [
      | inl same ↦ rw (counted h i p ps same.1) (omega (arith, count_few h i ps))
      | inr other ↦ rw (passed h i p ps other.1) (omega (arith, count_few h i ps))
    ]

root_counts : (pages : List ℕ) → All (λ page. page < 262144) pages → 1 ≤ length pages → 1 ≤ count_below 18 0 pages
root_counts [] below some = absurd (omega (arith, some))
root_counts (p ∷ ps) below some =
    let first : p < 262144 = All-head (λ page. page < 262144) p ps below in
    rw (counted 18 0 p ps (omega (arith, first))) (omega arith)

module _ (H : List ℕ → List ℕ) (m : Pages) (pages : List ℕ) where
  -- a node with one of the pages below it has one below a side
  sides_some : (h i l r : ℕ) → 1 ≤ count_below (suc h) i pages → (1 ≤ count_below h (2 * i) pages → 1 ≤ l) → (1 ≤ count_below h (2 * i + 1) pages → 1 ≤ r) → 1 ≤ l + r
  sides_some h i l r some left right =
      elim (leb_tells 1 (count_below h (2 * i) pages)) [
        | inl here ↦ omega (arith, left here.1)
        | inr there ↦ omega (arith, right (omega (arith, there.1, some, two_counts h i pages)))
      ]

  -- a node with one of the pages below it opens a page
  some_opened : (h i : ℕ) → 1 ≤ count_below h i pages → 1 ≤ page_count (part_of H m pages h i)
  unfolding part_of
  some_opened zero i some = rw (count_any 0 i pages some) (omega arith)
  some_opened (suc h) i some =
      rw (count_any (suc h) i pages some)
      (sides_some h i (page_count (part_of H m pages h (2 * i))) (page_count (part_of H m pages h (2 * i + 1))) some (some_opened h (2 * i)) (some_opened h (2 * i + 1)))

  -- and no more pages than are below it
  few_opened : (h i : ℕ) → page_count (part_of H m pages h i) ≤ count_below h i pages
  unfolding part_of
  few_opened zero i =
      chosen (λ t. page_count t ≤ count_below 0 i pages) (any_below 0 i pages) (leaf (m i)) (pruned (node H m 0 i))
      (λ e. any_counts 0 i pages e) (λ e. omega arith)
  few_opened (suc h) i =
      chosen (λ t. page_count t ≤ count_below (suc h) i pages) (any_below (suc h) i pages)
      (branch (part_of H m pages h (2 * i)) (part_of H m pages h (2 * i + 1))) (pruned (node H m (suc h) i))
      (λ e. omega (arith, two_counts h i pages, few_opened h (2 * i), few_opened h (2 * i + 1))) (λ e. omega arith)

  -- each branch has a page below it
  branches_open : (h i : ℕ) → BranchesOpen (part_of H m pages h i)
  unfolding part_of
  branches_open zero i = chosen BranchesOpen (any_below 0 i pages) (leaf (m i)) (pruned (node H m 0 i)) (λ e. tt) (λ e. tt)
  branches_open (suc h) i =
      let l = part_of H m pages h (2 * i) in
      let r = part_of H m pages h (2 * i + 1) in
      chosen BranchesOpen (any_below (suc h) i pages) (branch l r) (pruned (node H m (suc h) i))
      (λ e. (sides_some h i (page_count l) (page_count r) (any_counts (suc h) i pages e) (some_opened h (2 * i)) (some_opened h (2 * i + 1)), branches_open h (2 * i), branches_open h (2 * i + 1))) (λ e. tt)

  -- above height 0, a node with one of the pages below it is a branch
  branch_there : (h i : ℕ) → any_below (suc h) i pages ≡ true → IsBranch (part_of H m pages (suc h) i)
  unfolding part_of
  branch_there h i some =
      chosen IsBranch (any_below (suc h) i pages) (branch (part_of H m pages h (2 * i)) (part_of H m pages h (2 * i + 1))) (pruned (node H m (suc h) i))
      (λ e. tt) (λ e. let no : true ≡ false = sym some ∙ e in absurd (cc))

  module _ (is_digest : (x : List ℕ) → IsDigest (H x)) where
    pub canonical_form : ArePages m → All (λ page. page < 262144) pages → 1 ≤ length pages → length pages ≤ 4096 → IsCanonical (part_of H m pages 18 0)
    canonical_form memory below some few =
        record {
          shape = (agree_tells H is_digest m 18 0 (part_of H m pages 18 0) memory (part_agrees H m pages 18 0)).0;
          root = branch_there 17 0 (count_any 18 0 pages (root_counts pages below some));
          branches = branches_open 18 0;
          few = omega (arith, few, few_opened 18 0, count_few 18 0 pages);
        }
