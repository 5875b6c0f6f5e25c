-- The first node at which a part tree and a memory split.
use Rattle.std.proofs.Common.{◌≡◌, ◌⊎◌, inl, inr, ℕ, zero, suc, ◌+◌, ◌*◌, Bool, true, false, cond, List, [], ◌++◌, length, Option, Some, None, refl, sym, ap, ap₂, ◌∙◌}
use Rattle.page_core.proofs.Options.{both_none}
use Rattle.std.specs.Prelude.{Contains}
use Rattle.std.specs.Str.{bytes_eq}
use Rattle.std.proofs.lemmas.Bool.Decides.{not_from_Decides}
use Rattle.std.proofs.lemmas.Slice.Eq.{bytes_eq-Decides}
use Rattle.digest_core.specs.Digests.{IsDigest}
use Rattle.part_tree.specs.Tree.{node, node_string, tree_strings}
use Rattle.part_tree.specs.Part.{Part, pruned, branch, leaf, IsPart, root_of, part_strings, Agree}
use Rattle.part_tree.proofs.Change.{root_of-agree}
use Rattle.part_tree.proofs.Strings.{halves, of_top, of_left, of_right}
use Rattle.std.specs.Option.{option_or}
use Rattle.part_tree.specs.Splits.{Pair, differ, split_of, Exhibits}
use Rattle.part_tree.specs.Laws.{SplitExhibits}
use Rattle.std.proofs.lemmas.List.Elements.{Contains-append_left, Contains-append_right}

-- the digests below a node have 32 bytes
pub length-root_of : (H : List ℕ → List ℕ) → ((x : List ℕ) → IsDigest (H x)) → (h : ℕ) (t : Part) → IsPart h t → length (root_of H t) ≡ 32
length-root_of H is_digest h (pruned digest) shape = shape.0
length-root_of H is_digest h (branch left right) shape = (is_digest (root_of H left ++ root_of H right)).0
length-root_of H is_digest h (leaf page) shape = (is_digest page).0

pub differ_same : (x y : List ℕ) → x ≡ y → differ x y ≡ None
differ_same x y e = ap (λ (b : Bool). cond b None (Some (record { left = x; right = y }))) ((bytes_eq-Decides x y).1 e)

pub differ_none : (x y : List ℕ) → differ x y ≡ None → x ≡ y
differ_none x y h = go (bytes_eq x y) refl h
  where
    go : (b : Bool) → bytes_eq x y ≡ b → cond {A = Option Pair} b None (Some (record { left = x; right = y })) ≡ None → x ≡ y
    go true e g = (bytes_eq-Decides x y).0 e
    go false e g = absurd (cc)

-- what follows a pair or none
pub first_shown : (H : List ℕ → List ℕ) (all : List (List ℕ)) (o p : Option Pair) → Exhibits H all o → Exhibits H all (option_or o p)
first_shown H all o p x = record {
  pair = x.pair;
  is = ap (λ (q : Option Pair). option_or q p) x.is;
  in_left = x.in_left;
  in_right = x.in_right;
  differs = x.differs;
  same_digest = x.same_digest;
}

pub then_shown : (H : List ℕ → List ℕ) (all : List (List ℕ)) (o p : Option Pair) → o ≡ None → Exhibits H all p → Exhibits H all (option_or o p)
then_shown H all o p none x = record {
  pair = x.pair;
  is = ap (λ (q : Option Pair). option_or q p) none ∙ x.is;
  in_left = x.in_left;
  in_right = x.in_right;
  differs = x.differs;
  same_digest = x.same_digest;
}

-- a tree that agrees has no split
pub agree_unsplit : (H : List ℕ → List ℕ) (m : ℕ → List ℕ) (h i : ℕ) (t : Part) → Agree H m h i t → split_of H m h i t ≡ None
unfolding node_string
agree_unsplit H m h i (pruned digest) agree = refl
agree_unsplit H m zero i (branch left right) agree = absurd agree
agree_unsplit H m (suc h) i (branch left right) agree =
    let a : List ℕ = root_of H left in
    let b : List ℕ = root_of H right in
    let c : List ℕ = node H m h (2 * i) in
    let d : List ℕ = node H m h (2 * i + 1) in
    both_none (differ (a ++ b) (c ++ d)) (option_or (split_of H m h (2 * i) left) (split_of H m h (2 * i + 1) right))
    (differ_same (a ++ b) (c ++ d) (ap₂ ◌++◌ (root_of-agree H m h (2 * i) left agree.0) (root_of-agree H m h (2 * i + 1) right agree.1)))
    (both_none (split_of H m h (2 * i) left) (split_of H m h (2 * i + 1) right) (agree_unsplit H m h (2 * i) left agree.0) (agree_unsplit H m h (2 * i + 1) right agree.1))
agree_unsplit H m zero i (leaf page) agree = differ_same page (m i) agree
agree_unsplit H m (suc h) i (leaf page) agree = absurd agree

module _ (H : List ℕ → List ℕ) (all : List (List ℕ)) where
  abbrev pub Held : List (List ℕ) → Type 0
  Held xs = (x : List ℕ) → Contains xs x → Contains all x

  -- two strings with one digest are the same, or the pair that is shown
  pub same_or_shown : (x y : List ℕ) → Contains all x → Contains all y → H x ≡ H y → (x ≡ y) ⊎ Exhibits H all (differ x y)
  same_or_shown x y cx cy e = go (bytes_eq x y) refl
    where
      go : (b : Bool) → bytes_eq x y ≡ b → (x ≡ y) ⊎ Exhibits H all (cond b None (Some (record { left = x; right = y })))
      go true t = inl ((bytes_eq-Decides x y).0 t)
      go false t = inr (record { pair = record { left = x; right = y }; is = refl; in_left = cx; in_right = cy; differs = not_from_Decides (bytes_eq x y) (bytes_eq-Decides x y) t; same_digest = e })

  -- a tree with a memory's digest agrees with it, or its first split is shown
  pub agree_or_shown : ((x : List ℕ) → IsDigest (H x)) → (m : ℕ → List ℕ) (h i : ℕ) (t : Part) → IsPart h t → root_of H t ≡ node H m h i
      → Held (part_strings H t) → Held (tree_strings H m h i) → Agree H m h i t ⊎ Exhibits H all (split_of H m h i t)
  unfolding node_string tree_strings
  agree_or_shown is_digest m h i (pruned digest) shape same mine theirs = inl same
  agree_or_shown is_digest m zero i (branch left right) shape same mine theirs = absurd shape
  agree_or_shown is_digest m (suc h) i (branch left right) shape same mine theirs =
      let a : List ℕ = root_of H left in
      let b : List ℕ = root_of H right in
      let c : List ℕ = node H m h (2 * i) in
      let d : List ℕ = node H m h (2 * i + 1) in
      let pl = part_strings H left in
      let pr = part_strings H right in
      let tl = tree_strings H m h (2 * i) in
      let tr = tree_strings H m h (2 * i + 1) in
      let l = split_of H m h (2 * i) left in
      let r = split_of H m h (2 * i + 1) right in
      elim (same_or_shown (a ++ b) (c ++ d) (mine (a ++ b) (of_top (a ++ b) pl pr)) (theirs (c ++ d) (of_top (c ++ d) tl tr)) same) [
        | inl e ↦
            let parts = halves a b c d (length-root_of H is_digest h left shape.0 ∙ sym (is_digest (node_string H m h (2 * i))).0) e in
            let here : differ (a ++ b) (c ++ d) ≡ None = differ_same (a ++ b) (c ++ d) e in
            elim (agree_or_shown is_digest m h (2 * i) left shape.0 parts.0 (λ x k. mine x (of_left (a ++ b) pl pr x k)) (λ x k. theirs x (of_left (c ++ d) tl tr x k))) [
              | inl al ↦ elim (agree_or_shown is_digest m h (2 * i + 1) right shape.1 parts.1 (λ x k. mine x (of_right (a ++ b) pl pr x k)) (λ x k. theirs x (of_right (c ++ d) tl tr x k))) [
                | inl ar ↦ inl (al, ar)
                | inr s ↦ inr (then_shown H all (differ (a ++ b) (c ++ d)) (option_or l r) here (then_shown H all l r (agree_unsplit H m h (2 * i) left al) s))
              ]
              | inr s ↦ inr (then_shown H all (differ (a ++ b) (c ++ d)) (option_or l r) here (first_shown H all l r s))
            ]
        | inr s ↦ inr (first_shown H all (differ (a ++ b) (c ++ d)) (option_or l r) s)
      ]
  agree_or_shown is_digest m zero i (leaf page) shape same mine theirs =
      same_or_shown page (m i) (mine page (of_top page [] [])) (theirs (m i) (of_top (m i) [] [])) same
  agree_or_shown is_digest m (suc h) i (leaf page) shape same mine theirs = absurd shape

-- a tree with a memory's digest agrees with it, or its first split is two of their strings with one digest
pub split_exhibits : (H : List ℕ → List ℕ) → ((x : List ℕ) → IsDigest (H x)) → SplitExhibits H
split_exhibits H is_digest m h i t shape same =
    agree_or_shown H (part_strings H t ++ tree_strings H m h i) is_digest m h i t shape same
    (Contains-append_left (part_strings H t) (tree_strings H m h i))
    (Contains-append_right (part_strings H t) (tree_strings H m h i))
