-- The part tree of a memory, one level at a time. H is the digest function.
use Rattle.std.proofs.Common.{ℕ, zero, suc, ◌≡◌, ◌-◌, ◌+◌, ◌*◌, ◌/◌, ◌^◌, ◌≤◌, ◌||◌, ◌==◌, Bool, true, false, List, [], ◌∷◌, ◌++◌, length, get_or, inl, inr, refl, sym, ap, ap₂, ◌∙◌, arith}
use Rattle.std.specs.Prelude.{All, if◌then◌else◌}
use Rattle.std.proofs.Math.Bool.{or-false}
use Rattle.std.proofs.lemmas.Bool.{eqb-true, eqb-false}
use Rattle.std.proofs.lemmas.Bool.Decides.{eqb_tells}
use Rattle.std.proofs.lemmas.List.Elements.{All-weaker}
use Rattle.std.proofs.lemmas.List.Folds.{list_any-append, list_any_none, list_any_at}
use Rattle.page_core.specs.Pages.{Pages}
use Rattle.part_tree.specs.Tree.{node, IsBelow}
use Rattle.part_tree.specs.Part.{Part, pruned, branch, leaf, any_below, part_of}
use Rattle.part_tree.proofs.Below.{below_left, below_right, below_one}

-- none of the pages is below the node
abbrev Away : ℕ → ℕ → List ℕ → Type 0
Away h i pages = All (λ page. IsBelow h i page → ⊥) pages

-- then the test for one that is finds none
none_found : (h i : ℕ) (pages : List ℕ) → Away h i pages → any_below h i pages ≡ false
none_found h i pages none =
    list_any_none (λ page. page / 2 ^ h == i) pages
    (All-weaker (λ page. IsBelow h i page → ⊥) (λ page. (page / 2 ^ h == i) ≡ false) (λ page away. elim (eqb_tells (page / 2 ^ h) i) [ inl same ↦ absurd (away same.1) | inr other ↦ other.0 ]) pages none)

-- it finds one where there are pages and all of them are below the node
all_found : (h i : ℕ) (pages : List ℕ) → 1 ≤ length pages → All (IsBelow h i) pages → any_below h i pages ≡ true
all_found h i pages some below =
    list_any_at (λ page. page / 2 ^ h == i) pages 0 0 (omega arith)
    (elim (eqb_tells (get_or pages 0 0 / 2 ^ h) i) [ inl same ↦ same.0 | inr other ↦ absurd (other.1 (below 0 0 (omega arith))) ])

-- pages at the end of a list that aren't below the node don't change what it finds
found_front : (h i : ℕ) (xs ys : List ℕ) → Away h i ys → any_below h i (xs ++ ys) ≡ any_below h i xs
found_front h i xs ys none =
    list_any-append (λ page. page / 2 ^ h == i) xs ys ∙ ap (λ (b : Bool). any_below h i xs || b) (none_found h i ys none) ∙ or-false (any_below h i xs)

-- nor do pages at its front
found_back : (h i : ℕ) (xs ys : List ℕ) → Away h i xs → any_below h i (xs ++ ys) ≡ any_below h i ys
found_back h i xs ys none =
    list_any-append (λ page. page / 2 ^ h == i) xs ys ∙ ap (λ (b : Bool). b || any_below h i ys) (none_found h i xs none)

-- pages that aren't below a node aren't below its left side
none_left : (h i : ℕ) (pages : List ℕ) → Away (suc h) i pages → Away h (2 * i) pages
none_left h i pages none = All-weaker (λ page. IsBelow (suc h) i page → ⊥) (λ page. IsBelow h (2 * i) page → ⊥) (λ page away b. away (below_left h i page b)) pages none

-- nor below its right side
none_right : (h i : ℕ) (pages : List ℕ) → Away (suc h) i pages → Away h (2 * i + 1) pages
none_right h i pages none = All-weaker (λ page. IsBelow (suc h) i page → ⊥) (λ page. IsBelow h (2 * i + 1) page → ⊥) (λ page away b. away (below_right h i page b)) pages none

-- a list that the code found empty has no page
pub no_page : (pages : List ℕ) (test : Bool) → test ≡ (length pages == 0) → test ≡ true → length pages ≡ 0
no_page pages test is passed = eqb-true (length pages) 0 (sym is ∙ passed)

-- and one that it found not to be empty has a page
pub some_page : (pages : List ℕ) (test : Bool) → test ≡ (length pages == 0) → test ≡ false → 1 ≤ length pages
some_page pages test is failed = omega (arith, eqb-false (length pages) 0 (sym is ∙ failed))

module _ (H : List ℕ → List ℕ) (m : Pages) where
  -- where the test and the two sides are the same, so is the tree
  chosen_same : (a b : Bool) (l r p q t : Part) → a ≡ b → l ≡ p → r ≡ q → (if a then branch l r else t) ≡ (if b then branch p q else t)
  chosen_same a b l r p q t test left right =
      ap (λ (c : Bool). if c then branch l r else t) test ∙ ap₂ (λ (x y : Part). if b then branch x y else t) left right

  -- pages at the end of a list that aren't below the node don't change its part tree
  part_front : (h i : ℕ) (xs ys : List ℕ) → Away h i ys → part_of H m (xs ++ ys) h i ≡ part_of H m xs h i
  unfolding part_of
  part_front zero i xs ys none = ap (λ (b : Bool). if b then leaf (m i) else pruned (node H m 0 i)) (found_front 0 i xs ys none)
  part_front (suc h) i xs ys none =
      chosen_same (any_below (suc h) i (xs ++ ys)) (any_below (suc h) i xs) (part_of H m (xs ++ ys) h (2 * i)) (part_of H m (xs ++ ys) h (2 * i + 1))
      (part_of H m xs h (2 * i)) (part_of H m xs h (2 * i + 1)) (pruned (node H m (suc h) i))
      (found_front (suc h) i xs ys none)
      (part_front h (2 * i) xs ys (none_left h i ys none))
      (part_front h (2 * i + 1) xs ys (none_right h i ys none))

  -- nor do pages at its front
  part_back : (h i : ℕ) (xs ys : List ℕ) → Away h i xs → part_of H m (xs ++ ys) h i ≡ part_of H m ys h i
  unfolding part_of
  part_back zero i xs ys none = ap (λ (b : Bool). if b then leaf (m i) else pruned (node H m 0 i)) (found_back 0 i xs ys none)
  part_back (suc h) i xs ys none =
      chosen_same (any_below (suc h) i (xs ++ ys)) (any_below (suc h) i ys) (part_of H m (xs ++ ys) h (2 * i)) (part_of H m (xs ++ ys) h (2 * i + 1))
      (part_of H m ys h (2 * i)) (part_of H m ys h (2 * i + 1)) (pruned (node H m (suc h) i))
      (found_back (suc h) i xs ys none)
      (part_back h (2 * i) xs ys (none_left h i xs none))
      (part_back h (2 * i + 1) xs ys (none_right h i xs none))

  -- the part tree without a page to open is pruned
  pub part_none : (height i : ℕ) (pages : List ℕ) → length pages ≡ 0 → part_of H m pages height i ≡ pruned (node H m height i)
  unfolding part_of
  part_none zero i [] none = refl
  part_none (suc h) i [] none = refl
  part_none height i (x ∷ xs) none = absurd (omega (arith, none))

  -- that of a page to open is its leaf
  pub part_leaf : (height i : ℕ) (pages : List ℕ) → height ≡ 0 → 1 ≤ length pages → All (IsBelow height i) pages → part_of H m pages height i ≡ leaf (m i)
  unfolding part_of
  part_leaf zero i pages low some below = ap (λ (b : Bool). if b then leaf (m i) else pruned (node H m 0 i)) (all_found 0 i pages some below)
  part_leaf (suc h) i pages low some below = absurd (omega (arith, low))

  -- that above pages to open is a branch over the part trees of the pages on each side
  pub part_branch : (height i : ℕ) (pages xs ys : List ℕ) → 1 ≤ height → 1 ≤ length pages → All (IsBelow height i) pages → pages ≡ xs ++ ys
      → All (IsBelow (height - 1) (2 * i)) xs → All (IsBelow (height - 1) (2 * i + 1)) ys
      → part_of H m pages height i ≡ branch (part_of H m xs (height - 1) (2 * i)) (part_of H m ys (height - 1) (2 * i + 1))
  unfolding part_of
  part_branch zero i pages xs ys high some below listed lefts rights = absurd (omega (arith, high))
  part_branch (suc h) i pages xs ys high some below listed lefts rights =
      let one : suc h - 1 ≡ h = omega arith in
      rw one (
      ap (λ (b : Bool). if b then branch (part_of H m pages h (2 * i)) (part_of H m pages h (2 * i + 1)) else pruned (node H m (suc h) i)) (all_found (suc h) i pages some below)
      ∙ ap₂ branch
      (ap (λ (list : List ℕ). part_of H m list h (2 * i)) listed
      ∙ part_front h (2 * i) xs ys (All-weaker (IsBelow h (2 * i + 1)) (λ page. IsBelow h (2 * i) page → ⊥) (λ page right left. below_one h i page left right) ys (rw one at rights)))
      (ap (λ (list : List ℕ). part_of H m list h (2 * i + 1)) listed
      ∙ part_back h (2 * i + 1) xs ys (All-weaker (IsBelow h (2 * i)) (λ page. IsBelow h (2 * i + 1) page → ⊥) (λ page left right. below_one h i page left right) xs (rw one at lefts))))
