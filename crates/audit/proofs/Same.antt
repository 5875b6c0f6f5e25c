-- The split of a part tree from a memory rests on the memory's pages below the node. H is the digest function.
use Rattle.std.proofs.Common.{◌≡◌, ℕ, zero, suc, ◌+◌, ◌*◌, List, ◌++◌, Option, refl, ap, ap₂, ◌∙◌, arith}
use Rattle.std.specs.Prelude.{option_map}
use Rattle.std.specs.Option.{option_or}
use Rattle.page_core.specs.Memories.{page_of}
use Rattle.page_core.specs.Pages.{Pages}
use Rattle.page_core.specs.Stored.{Stored, stored_pages}
use Rattle.part_tree.specs.Tree.{IsBelow, root, node, node_string}
use Rattle.part_tree.specs.Part.{Part, pruned, branch, leaf, root_of, Agree}
use Rattle.part_tree.specs.Splits.{Pair, differ, split_of}
use Rattle.part_tree.proofs.Below.{below_left, below_right, below_itself}
use Rattle.part_tree.proofs.Change.{same_pages}
use Rattle.collide.specs.Places.{place_of}
use Rattle.rv_step.specs.Machine.{State, full}
use Rattle.flat_machine.specs.Following.{HoldsMemory}

module _ (H : List ℕ → List ℕ) (m m' : Pages) where
  abbrev place_here : ℕ → ℕ → Option Pair → Option (ℕ × ℕ)
  place_here h i found = option_map (λ pair. (h, i)) found

  string_same : (h i : ℕ) → ((page : ℕ) → IsBelow h i page → m' page ≡ m page) → node_string H m' h i ≡ node_string H m h i
  string_same h i same = (same_pages H m m' h i same).0

  pub same_split : (h i : ℕ) (t : Part) → ((page : ℕ) → IsBelow h i page → m' page ≡ m page) → split_of H m' h i t ≡ split_of H m h i t
  same_split h i (pruned digest) same = refl
  same_split zero i (branch left right) same = refl
  same_split (suc h) i (branch left right) same =
      ap₂ option_or (ap (differ (root_of H left ++ root_of H right)) (string_same (suc h) i same))
      (ap₂ option_or (same_split h (2 * i) left (λ page b. same page (below_left h i page b))) (same_split h (2 * i + 1) right (λ page b. same page (below_right h i page b))))
  same_split zero i (leaf page) same = ap (differ page) (same i (below_itself i))
  same_split (suc h) i (leaf page) same = refl

  pub same_place : (h i : ℕ) (t : Part) → ((page : ℕ) → IsBelow h i page → m' page ≡ m page) → place_of H m' h i t ≡ place_of H m h i t
  same_place h i (pruned digest) same = refl
  same_place zero i (branch left right) same = refl
  same_place (suc h) i (branch left right) same =
      ap₂ option_or (ap (λ (s : List ℕ). place_here (suc h) i (differ (root_of H left ++ root_of H right) s)) (string_same (suc h) i same))
      (ap₂ option_or (same_place h (2 * i) left (λ page b. same page (below_left h i page b))) (same_place h (2 * i + 1) right (λ page b. same page (below_right h i page b))))
  same_place zero i (leaf page) same = ap (λ (s : List ℕ). place_here 0 i (differ page s)) (same i (below_itself i))
  same_place (suc h) i (leaf page) same = refl

  node_same : (h i : ℕ) → ((page : ℕ) → IsBelow h i page → m' page ≡ m page) → node H m' h i ≡ node H m h i
  node_same h i same = ap H (string_same h i same)

  pub same_agree : (h i : ℕ) (t : Part) → ((page : ℕ) → IsBelow h i page → m' page ≡ m page) → Agree H m' h i t → Agree H m h i t
  same_agree h i (pruned digest) same agree = agree ∙ node_same h i same
  same_agree zero i (branch left right) same agree = agree
  same_agree (suc h) i (branch left right) same agree = (
    same_agree h (2 * i) left (λ page b. same page (below_left h i page b)) agree.0,
    same_agree h (2 * i + 1) right (λ page b. same page (below_right h i page b)) agree.1,
  )
  same_agree zero i (leaf page) same agree = agree ∙ same i (below_itself i)
  same_agree (suc h) i (leaf page) same agree = agree

-- a tree that holds the memory of a state
module _ (H : List ℕ → List ℕ) (tree : Stored) (s : State) (holds : HoldsMemory tree s) where
  below : (page : ℕ) → IsBelow 18 0 page → stored_pages tree page ≡ page_of (full s) page
  below page b = holds page (omega (arith, b))

  pub holds_root : root H (stored_pages tree) ≡ root H (page_of (full s))
  holds_root = ap H (string_same H (page_of (full s)) (stored_pages tree) 18 0 below)

  pub holds_agree : (t : Part) → Agree H (stored_pages tree) 18 0 t → Agree H (page_of (full s)) 18 0 t
  holds_agree t = same_agree H (page_of (full s)) (stored_pages tree) 18 0 t below

  pub holds_split : (t : Part) → split_of H (stored_pages tree) 18 0 t ≡ split_of H (page_of (full s)) 18 0 t
  holds_split t = same_split H (page_of (full s)) (stored_pages tree) 18 0 t below

  pub holds_place : (t : Part) → place_of H (stored_pages tree) 18 0 t ≡ place_of H (page_of (full s)) 18 0 t
  holds_place t = same_place H (page_of (full s)) (stored_pages tree) 18 0 t below
