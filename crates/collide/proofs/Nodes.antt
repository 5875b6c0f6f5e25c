-- The strings of nodes, and the first split and its place.
use Rattle.std.proofs.Common.{◌≡◌, ℕ, zero, suc, ◌+◌, ◌*◌, ◌-◌, ◌≤◌, Bool, true, false, cond, List, ◌++◌, Option, Some, None, refl, sym, ap, ap₂, ◌∙◌, arith}
use Rattle.std.specs.Prelude.{option_map}
use Rattle.std.specs.Option.{option_or}
use Rattle.std.specs.Str.{bytes_eq}
use Rattle.page_core.specs.Pages.{Pages}
use Rattle.part_tree.specs.Tree.{node, node_string}
use Rattle.part_tree.specs.Part.{Part, pruned, branch, leaf, root_of}
use Rattle.part_tree.specs.Splits.{Pair, differ, split_of}
use Rattle.collide.specs.Places.{place_of}

-- a map of the first of two, if there is one, and else of the second
option_map-or : {X Y : Type 0} (f : X → Y) (o p : Option X) → option_map f (option_or o p) ≡ option_or (option_map f o) (option_map f p)
option_map-or f (Some x) p = refl
option_map-or f None p = refl

module _ (H : List ℕ → List ℕ) (m : Pages) where
  -- a node above the pages hashes the digests of the two below it
  pub node_string-above : (h i : ℕ) → 1 ≤ h → node_string H m h i ≡ node H m (h - 1) (2 * i) ++ node H m (h - 1) (2 * i + 1)
  unfolding node_string
  node_string-above zero i some = absurd (omega arith)
  node_string-above (suc h) i some = let e : suc h - 1 ≡ h = omega arith in rw e refl

  -- the right string of a split, and that of the memory's node at a place
  abbrev right_of : Option Pair → Option (List ℕ)
  right_of = option_map (λ pair. pair.right)

  abbrev string_at : Option (ℕ × ℕ) → Option (List ℕ)
  string_at = option_map (λ place. node_string H m place.0 place.1)

  -- the right of two strings that differ is the memory's, at their node
  right_of-differ : (x y : List ℕ) (h i : ℕ) → y ≡ node_string H m h i → right_of (differ x y) ≡ string_at (option_map (λ _. (h, i)) (differ x y))
  right_of-differ x y h i e = go (bytes_eq x y)
    where
      go : (b : Bool) → right_of (cond b None (Some (record { left = x; right = y }))) ≡ string_at (option_map (λ _. (h, i)) (cond {A = Option Pair} b None (Some (record { left = x; right = y }))))
      go true = refl
      go false = ap Some e

  -- where this holds of each of two splits, it holds of the first
  right_of-or : (o p : Option Pair) (q r : Option (ℕ × ℕ)) → right_of o ≡ string_at q → right_of p ≡ string_at r → right_of (option_or o p) ≡ string_at (option_or q r)
  right_of-or o p q r e f =
      option_map-or (λ (pair : Pair). pair.right) o p ∙ ap₂ option_or e f
      ∙ sym (option_map-or (λ (place : ℕ × ℕ). node_string H m place.0 place.1) q r)

  -- there is a split exactly where there is a place, and its right string is that of the memory's node there
  pub split_place : (h i : ℕ) (t : Part) → right_of (split_of H m h i t) ≡ string_at (place_of H m h i t)
  unfolding node_string
  split_place h i (pruned digest) = refl
  split_place zero i (branch left right) = refl
  split_place (suc h) i (branch left right) =
      let here = differ (root_of H left ++ root_of H right) (node_string H m (suc h) i) in
      let l = split_of H m h (2 * i) left in
      let r = split_of H m h (2 * i + 1) right in
      let p = place_of H m h (2 * i) left in
      let q = place_of H m h (2 * i + 1) right in
      right_of-or here (option_or l r) (option_map (λ _. (suc h, i)) here) (option_or p q)
      (right_of-differ (root_of H left ++ root_of H right) (node_string H m (suc h) i) (suc h) i refl)
      (right_of-or l r p q (split_place h (2 * i) left) (split_place h (2 * i + 1) right))
  split_place zero i (leaf page) = right_of-differ page (m i) 0 i refl
  split_place (suc h) i (leaf page) = refl
