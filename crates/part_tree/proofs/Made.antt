-- The part trees of a memory.
use Rattle.std.proofs.Common.{◌≡◌, inl, inr, ℕ, zero, suc, ◌+◌, ◌*◌, ◌<◌, Bool, true, false, List, [], ◌∷◌, ◌++◌, refl, sym, subst, arith}
use Rattle.std.specs.Prelude.{Contains, if◌then◌else◌}
use Rattle.std.proofs.lemmas.List.Elements.{All-append, Contains-append_cases}
use Rattle.digest_core.specs.Digests.{IsBytes, IsDigest}
use Rattle.page_core.specs.Pages.{Pages, IsPage, ArePages}
use Rattle.part_tree.specs.Tree.{node, node_string, tree_strings}
use Rattle.part_tree.specs.Part.{Part, pruned, branch, leaf, IsPart, root_of, part_strings, Agree, any_below, part_of}
use Rattle.part_tree.specs.Laws.{PartAgrees, AgreeTells, StringsAreBytes}
use Rattle.part_tree.proofs.Change.{root_of-agree}
use Rattle.part_tree.proofs.Strings.{Contains-one}

-- what holds of the choices of a test that passes, or doesn't
pub chosen : (P : Part → Type 0) (b : Bool) (x y : Part) → (b ≡ true → P x) → (b ≡ false → P y) → P (if b then x else y)
chosen P true x y p q = p refl
chosen P false x y p q = q refl

module _ (H : List ℕ → List ℕ) where
  pub part_agrees : PartAgrees H
  unfolding part_of
  part_agrees m pages zero i = chosen (Agree H m 0 i) (any_below 0 i pages) (leaf (m i)) (pruned (node H m 0 i)) (λ e. refl) (λ e. refl)
  part_agrees m pages (suc h) i =
      chosen (Agree H m (suc h) i) (any_below (suc h) i pages) (branch (part_of H m pages h (2 * i)) (part_of H m pages h (2 * i + 1))) (pruned (node H m (suc h) i))
      (λ e. (part_agrees m pages h (2 * i), part_agrees m pages h (2 * i + 1))) (λ e. refl)

  module _ (is_digest : (x : List ℕ) → IsDigest (H x)) where
    shape_of-agree : (m : Pages) (h i : ℕ) (t : Part) → ArePages m → Agree H m h i t → IsPart h t
    shape_of-agree m h i (pruned digest) memory agree = subst IsDigest (sym agree) (is_digest (node_string H m h i))
    shape_of-agree m zero i (branch left right) memory agree = agree
    shape_of-agree m (suc h) i (branch left right) memory agree = (shape_of-agree m h (2 * i) left memory agree.0, shape_of-agree m h (2 * i + 1) right memory agree.1)
    shape_of-agree m zero i (leaf page) memory agree = subst IsPage (sym agree) (memory i)
    shape_of-agree m (suc h) i (leaf page) memory agree = agree

    pub agree_tells : AgreeTells H
    agree_tells m h i t memory agree = (shape_of-agree m h i t memory agree, root_of-agree H m h i t agree)

    bytes_of_two : (a b : List ℕ) → IsBytes a → IsBytes b → IsBytes (a ++ b)
    bytes_of_two a b = All-append (λ (byte : ℕ). byte < 256) a b

    pub bytes_of_root : (h : ℕ) (t : Part) → IsPart h t → IsBytes (root_of H t)
    bytes_of_root h (pruned digest) shape = shape.1
    bytes_of_root h (branch left right) shape = (is_digest (root_of H left ++ root_of H right)).1
    bytes_of_root h (leaf page) shape = (is_digest page).1

    -- where the own string of a node and those of its sides are bytes, all are
    each_bytes : (top : List ℕ) (l r : List (List ℕ)) (x : List ℕ) → IsBytes top → ((x : List ℕ) → Contains l x → IsBytes x) → ((x : List ℕ) → Contains r x → IsBytes x)
        → Contains (top ∷ (l ++ r)) x → IsBytes x
    each_bytes top l r x own of_l of_r c =
        elim (Contains-append_cases (top ∷ l) r x c) [
          | inl a ↦ elim (Contains-append_cases (top ∷ []) l x a) [ inl one ↦ subst IsBytes (Contains-one top x one) own | inr b ↦ of_l x b ]
          | inr b ↦ of_r x b
        ]

    pub tree_bytes : (m : Pages) (h i : ℕ) (x : List ℕ) → ArePages m → Contains (tree_strings H m h i) x → IsBytes x
    unfolding tree_strings node_string
    tree_bytes m zero i x memory c = subst IsBytes (Contains-one (m i) x c) (memory i).1
    tree_bytes m (suc h) i x memory c =
        each_bytes (node_string H m (suc h) i) (tree_strings H m h (2 * i)) (tree_strings H m h (2 * i + 1)) x
        (bytes_of_two (node H m h (2 * i)) (node H m h (2 * i + 1)) (is_digest (node_string H m h (2 * i))).1 (is_digest (node_string H m h (2 * i + 1))).1)
        (λ y d. tree_bytes m h (2 * i) y memory d) (λ y d. tree_bytes m h (2 * i + 1) y memory d) c

    pub part_bytes : (h : ℕ) (t : Part) (x : List ℕ) → IsPart h t → Contains (part_strings H t) x → IsBytes x
    part_bytes h (pruned digest) x shape c = absurd (omega (arith, c.1))
    part_bytes zero (branch left right) x shape c = absurd shape
    part_bytes (suc h) (branch left right) x shape c =
        each_bytes (root_of H left ++ root_of H right) (part_strings H left) (part_strings H right) x
        (bytes_of_two (root_of H left) (root_of H right) (bytes_of_root h left shape.0) (bytes_of_root h right shape.1))
        (λ y d. part_bytes h left y shape.0 d) (λ y d. part_bytes h right y shape.1 d) c
    part_bytes zero (leaf page) x shape c = subst IsBytes (Contains-one page x c) shape.1
    part_bytes (suc h) (leaf page) x shape c = absurd shape

    pub strings_are_bytes : StringsAreBytes H
    strings_are_bytes m h i t x memory shape (inl c) = tree_bytes m h i x memory c
    strings_are_bytes m h i t x memory shape (inr c) = part_bytes h t x shape c
