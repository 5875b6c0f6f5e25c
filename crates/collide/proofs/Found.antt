-- What the first split shows.
use Rattle.std.proofs.Common.{◌≡◌, ◌≢◌, ◌⊎◌, inl, inr, ℕ, zero, suc, ◌+◌, ◌*◌, Bool, true, false, cond, List, [], ◌++◌, Option, Some, None, refl, sym, ap, subst, ◌∙◌}
use Rattle.std.specs.Prelude.{◌↔◌, Contains, IsNone, IfSome, option_map}
use Rattle.std.specs.Option.{option_or}
use Rattle.std.specs.Str.{bytes_eq}
use Rattle.std.proofs.lemmas.Option.{same_Some}
use Rattle.std.proofs.lemmas.List.Elements.{Contains-append_left, Contains-append_right}
use Rattle.digest_core.specs.Digests.{IsBytes, IsDigest}
use Rattle.page_core.specs.Pages.{Pages}
use Rattle.part_tree.specs.Tree.{node, node_string, tree_strings, root}
use Rattle.part_tree.specs.Part.{Part, pruned, branch, leaf, IsPart, root_of, part_strings, Agree}
use Rattle.part_tree.specs.Splits.{Pair, differ, split_of}
use Rattle.part_tree.proofs.Strings.{of_top, of_left, of_right}
use Rattle.part_tree.proofs.Splits.{agree_unsplit, split_exhibits}
use Rattle.collide.specs.Splits.{IsCollidingPair}
use Rattle.collide.specs.Places.{place_of}
use Rattle.collide.proofs.Nodes.{split_place}

-- a pair found by one or the other
of_either : (o p : Option Pair) (pair : Pair) → option_or o p ≡ Some pair → (o ≡ Some pair) ⊎ (p ≡ Some pair)
of_either (Some x) p pair e = inl e
of_either None p pair e = inr e

-- two strings that differ are the pair
pub differ_some : (x y : List ℕ) (pair : Pair) → differ x y ≡ Some pair → (x ≡ pair.left) × (y ≡ pair.right)
differ_some x y pair e = go (bytes_eq x y) e
  where
    go : (b : Bool) → cond b None (Some (record { left = x; right = y })) ≡ Some pair → (x ≡ pair.left) × (y ≡ pair.right)
    go true e = absurd (cc)
    go false e = let same = same_Some (record { left = x; right = y }) pair e in (ap (λ (p : Pair). p.left) same, ap (λ (p : Pair). p.right) same)

-- only no value maps to none
none_of : {X Y : Type 0} (f : X → Y) (o : Option X) → option_map f o ≡ None → o ≡ None
none_of f (Some x) e = absurd (cc)
none_of f None e = refl

-- what is tested to be none is none
none_from_IsNone : {X : Type 0} (o : Option X) → IsNone o → o ≡ None
none_from_IsNone (Some x) e = absurd (cc)
none_from_IsNone None e = refl

module _ (H : List ℕ → List ℕ) where
  -- the left string is hashed in the tree, the right one in the memory's
  pub split_strings : (m : Pages) (h i : ℕ) (t : Part) (pair : Pair) → split_of H m h i t ≡ Some pair → Contains (part_strings H t) pair.left × Contains (tree_strings H m h i) pair.right
  unfolding tree_strings
  split_strings m h i (pruned digest) pair e = absurd (cc)
  split_strings m zero i (branch left right) pair e = absurd (cc)
  split_strings m (suc h) i (branch left right) pair e =
      let x : List ℕ = root_of H left ++ root_of H right in
      let y : List ℕ = node_string H m (suc h) i in
      let l = split_of H m h (2 * i) left in
      let r = split_of H m h (2 * i + 1) right in
      let pl = part_strings H left in
      let pr = part_strings H right in
      let tl = tree_strings H m h (2 * i) in
      let tr = tree_strings H m h (2 * i + 1) in
      elim (of_either (differ x y) (option_or l r) pair e) [
        | inl here ↦
            let same = differ_some x y pair here in (
              subst (λ (s : List ℕ). Contains (part_strings H (branch left right)) s) same.0 (of_top x pl pr),
              subst (λ (s : List ℕ). Contains (tree_strings H m (suc h) i) s) same.1 (of_top y tl tr),
            )
        | inr below ↦ elim (of_either l r pair below) [
          | inl s ↦ let c = split_strings m h (2 * i) left pair s in (of_left x pl pr pair.left c.0, of_left y tl tr pair.right c.1)
          | inr s ↦ let c = split_strings m h (2 * i + 1) right pair s in (of_right x pl pr pair.left c.0, of_right y tl tr pair.right c.1)
        ]
      ]
  split_strings m zero i (leaf page) pair e =
      let same = differ_some page (m i) pair e in (
        subst (λ (s : List ℕ). Contains (part_strings H (leaf page)) s) same.0 (of_top page [] []),
        subst (λ (s : List ℕ). Contains (tree_strings H m 0 i) s) same.1 (of_top (m i) [] []),
      )
  split_strings m (suc h) i (leaf page) pair e = absurd (cc)

  module _ (is_digest : (x : List ℕ) → IsDigest (H x)) where
    -- a tree with the memory's digest and no split agrees
    unsplit_agrees : (m : Pages) (h i : ℕ) (t : Part) → IsPart h t → root_of H t ≡ node H m h i → split_of H m h i t ≡ None → Agree H m h i t
    unsplit_agrees m h i t shape same none =
        elim (split_exhibits H is_digest m h i t shape same) [
          | inl agree ↦ agree
          | inr x ↦ let is = x.is in absurd (cc)
        ]

    -- it agrees exactly where no split is found, and where no place is
    pub split_tells : (m : Pages) (h i : ℕ) (t : Part) → IsPart h t → root_of H t ≡ node H m h i → (o : Option Pair) → o ≡ split_of H m h i t → IsNone o ↔ Agree H m h i t
    split_tells m h i t shape same o e = (
      λ none. unsplit_agrees m h i t shape same (sym e ∙ none_from_IsNone o none),
      λ agree. let none : o ≡ None = e ∙ agree_unsplit H m h i t agree in rw none refl,
    )

    pub place_tells : (m : Pages) (h i : ℕ) (t : Part) → IsPart h t → root_of H t ≡ node H m h i → (o : Option (ℕ × ℕ)) → o ≡ place_of H m h i t → IsNone o ↔ Agree H m h i t
    place_tells m h i t shape same o e = (
      λ none. unsplit_agrees m h i t shape same (none_of (λ (pair : Pair). pair.right) (split_of H m h i t)
          (split_place H m h i t ∙ ap (option_map (λ (p : ℕ × ℕ). node_string H m p.0 p.1)) (sym e ∙ none_from_IsNone o none))),
      λ agree.
          let none : o ≡ None = e ∙ none_of (λ (p : ℕ × ℕ). node_string H m p.0 p.1) (place_of H m h i t)
          (sym (split_place H m h i t) ∙ ap (option_map (λ (pair : Pair). pair.right)) (agree_unsplit H m h i t agree)) in
          rw none refl,
    )

    -- the two strings of the first split are a collision
    split_collides : (m : Pages) (t : Part) (pair : Pair) → IsPart 18 t → root_of H t ≡ root H m → split_of H m 18 0 t ≡ Some pair → IsBytes pair.left → IsBytes pair.right → IsCollidingPair H t m pair
    split_collides m t pair shape same e left right =
        elim (split_exhibits H is_digest m 18 0 t shape same) [
          | inl agree ↦ let none = agree_unsplit H m 18 0 t agree in absurd (cc)
          | inr x ↦
              let strings = split_strings m 18 0 t pair e in
              let one : x.pair ≡ pair = same_Some x.pair pair (sym x.is ∙ e) in
              record {
                of_tree = strings.0;
                of_memory = strings.1;
                collision = record {
                  in_left = Contains-append_left (part_strings H t) (tree_strings H m 18 0) pair.left strings.0;
                  in_right = Contains-append_right (part_strings H t) (tree_strings H m 18 0) pair.right strings.1;
                  bytes_left = left;
                  bytes_right = right;
                  differ = subst (λ (p : Pair). p.left ≢ p.right) one x.differs;
                  same_digest = subst (λ (p : Pair). H p.left ≡ H p.right) one x.same_digest;
                };
              }
        ]

    -- and so are those of a pair that is found
    pub option_collides : (m : Pages) (t : Part) → IsPart 18 t → root_of H t ≡ root H m → (o : Option Pair) → o ≡ split_of H m 18 0 t
        → IfSome o (λ pair. IsBytes pair.left) → IfSome o (λ pair. IsBytes pair.right) → IfSome o (IsCollidingPair H t m)
    option_collides m t shape same None split left right = tt
    option_collides m t shape same (Some pair) split left right = split_collides m t pair shape same (sym split) left right
