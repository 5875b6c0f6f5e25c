-- A part tree in which the changed pages are open.
use Rattle.std.proofs.Common.{◌≡◌, ◌⊎◌, inl, inr, ℕ, zero, suc, ◌+◌, ◌*◌, List, [], ◌∷◌, ◌++◌, refl, sym, ap, subst, ◌∙◌, arith}
use Rattle.std.specs.Prelude.{Contains}
use Rattle.std.proofs.lemmas.List.Elements.{Contains-append_cases}
use Rattle.page_core.specs.Pages.{Pages}
use Rattle.part_tree.specs.Tree.{node, node_string, tree_strings, IsBelow}
use Rattle.part_tree.specs.Part.{Part, pruned, branch, leaf, root_of, part_strings, open_numbers, put_part, Agree}
use Rattle.part_tree.specs.Laws.{SameUnopened, PutKeepsAgreement, PutHasNewStrings}
use Rattle.part_tree.proofs.Below.{below_left, below_right, below_one, below_itself}
use Rattle.part_tree.proofs.Strings.{Contains-one, of_top, of_left, of_right}

module _ (H : List ℕ → List ℕ) where
  -- each open page of a tree that agrees is below its node
  pub opened_below : (m : Pages) (h i page : ℕ) (t : Part) → Agree H m h i t → Contains (open_numbers i t) page → IsBelow h i page
  opened_below m h i page (pruned digest) agree is_open = absurd (omega (arith, is_open.1))
  opened_below m zero i page (branch left right) agree is_open = absurd agree
  opened_below m (suc h) i page (branch left right) agree is_open =
      elim (Contains-append_cases (open_numbers (2 * i) left) (open_numbers (2 * i + 1) right) page is_open) [
        | inl l ↦ below_left h i page (opened_below m h (2 * i) page left agree.0 l)
        | inr r ↦ below_right h i page (opened_below m h (2 * i + 1) page right agree.1 r)
      ]
  opened_below m zero i page (leaf bytes) agree is_open = subst (λ (p : ℕ). IsBelow 0 i p) (Contains-one i page is_open) (below_itself i)
  opened_below m (suc h) i page (leaf bytes) agree is_open = absurd agree

  -- the same pages below a node have the same strings
  pub same_pages : (m m' : Pages) (h i : ℕ) → ((page : ℕ) → IsBelow h i page → m' page ≡ m page)
      → (node_string H m' h i ≡ node_string H m h i) × (tree_strings H m' h i ≡ tree_strings H m h i)
  unfolding node_string tree_strings
  same_pages m m' zero i same =
      let e = same i (below_itself i) in
      (e, ap (λ (s : List ℕ). s ∷ []) e)
  same_pages m m' (suc h) i same =
      let l = same_pages m m' h (2 * i) (λ page b. same page (below_left h i page b)) in
      let r = same_pages m m' h (2 * i + 1) (λ page b. same page (below_right h i page b)) in
      (rw (l.0, r.0) refl, rw (l.0, r.0, l.1, r.1) refl)

  -- what is the same but for open pages is the same but for those of each side
  same_left : (m m' : Pages) (h i : ℕ) (left right : Part) → Agree H m h (2 * i + 1) right → SameUnopened m m' (suc h) i (branch left right) → SameUnopened m m' h (2 * i) left
  same_left m m' h i left right agree same page b closed =
      same page (below_left h i page b) (λ is_open. elim (Contains-append_cases (open_numbers (2 * i) left) (open_numbers (2 * i + 1) right) page is_open) [
        | inl l ↦ closed l
        | inr r ↦ below_one h i page b (opened_below m h (2 * i + 1) page right agree r)
      ])

  same_right : (m m' : Pages) (h i : ℕ) (left right : Part) → Agree H m h (2 * i) left → SameUnopened m m' (suc h) i (branch left right) → SameUnopened m m' h (2 * i + 1) right
  same_right m m' h i left right agree same page b closed =
      same page (below_right h i page b) (λ is_open. elim (Contains-append_cases (open_numbers (2 * i) left) (open_numbers (2 * i + 1) right) page is_open) [
        | inl l ↦ below_one h i page (opened_below m h (2 * i) page left agree l) b
        | inr r ↦ closed r
      ])

  -- no page is open below a pruned node
  none_open : (m m' : Pages) (h i : ℕ) (digest : List ℕ) → SameUnopened m m' h i (pruned digest) → (page : ℕ) → IsBelow h i page → m' page ≡ m page
  none_open m m' h i digest same page b = same page b (λ is_open. omega (arith, is_open.1))

  -- a tree that agrees has the digest of the memory's node
  pub root_of-agree : (m : Pages) (h i : ℕ) (t : Part) → Agree H m h i t → root_of H t ≡ node H m h i
  unfolding node_string
  root_of-agree m h i (pruned digest) agree = agree
  root_of-agree m zero i (branch left right) agree = absurd agree
  root_of-agree m (suc h) i (branch left right) agree =
      rw (root_of-agree m h (2 * i) left agree.0, root_of-agree m h (2 * i + 1) right agree.1) refl
  root_of-agree m zero i (leaf page) agree = ap H agree
  root_of-agree m (suc h) i (leaf page) agree = absurd agree

  pub put_keeps_agreement : PutKeepsAgreement H
  put_keeps_agreement m m' h i (pruned digest) agree same =
      agree ∙ ap H (sym (same_pages m m' h i (none_open m m' h i digest same)).0)
  put_keeps_agreement m m' zero i (branch left right) agree same = absurd agree
  put_keeps_agreement m m' (suc h) i (branch left right) agree same = (
    put_keeps_agreement m m' h (2 * i) left agree.0 (same_left m m' h i left right agree.1 same),
    put_keeps_agreement m m' h (2 * i + 1) right agree.1 (same_right m m' h i left right agree.0 same),
  )
  put_keeps_agreement m m' zero i (leaf page) agree same = refl
  put_keeps_agreement m m' (suc h) i (leaf page) agree same = absurd agree

  -- the strings of a node are those before or those of its tree, where its own is of its tree and each side's are so
  sides : (x y z : List ℕ) (l r kl kr pl pr : List (List ℕ)) (s : List ℕ) → x ≡ z
      → ((s : List ℕ) → Contains l s → Contains kl s ⊎ Contains pl s) → ((s : List ℕ) → Contains r s → Contains kr s ⊎ Contains pr s)
      → Contains (x ∷ (l ++ r)) s → Contains (y ∷ (kl ++ kr)) s ⊎ Contains (z ∷ (pl ++ pr)) s
  sides x y z l r kl kr pl pr s e of_l of_r c =
      elim (Contains-append_cases (x ∷ l) r s c) [
        | inl a ↦ elim (Contains-append_cases (x ∷ []) l s a) [
          | inl top ↦ inr (subst (λ (v : List ℕ). Contains (z ∷ (pl ++ pr)) v) (sym e ∙ Contains-one x s top) (of_top z pl pr))
          | inr b ↦ elim (of_l s b) [ inl k ↦ inl (of_left y kl kr s k) | inr p ↦ inr (of_left z pl pr s p) ]
        ]
        | inr b ↦ elim (of_r s b) [ inl k ↦ inl (of_right y kl kr s k) | inr p ↦ inr (of_right z pl pr s p) ]
      ]

  pub put_has_new_strings : PutHasNewStrings H
  unfolding tree_strings node_string
  put_has_new_strings m m' h i (pruned digest) agree same x c =
      inl (subst (λ (l : List (List ℕ)). Contains l x) (same_pages m m' h i (none_open m m' h i digest same)).1 c)
  put_has_new_strings m m' zero i (branch left right) agree same x c = absurd agree
  put_has_new_strings m m' (suc h) i (branch left right) agree same x c =
      let of_l = same_left m m' h i left right agree.1 same in
      let of_r = same_right m m' h i left right agree.0 same in
      let l = root_of-agree m' h (2 * i) (put_part (2 * i) left m') (put_keeps_agreement m m' h (2 * i) left agree.0 of_l) in
      let r = root_of-agree m' h (2 * i + 1) (put_part (2 * i + 1) right m') (put_keeps_agreement m m' h (2 * i + 1) right agree.1 of_r) in
      sides (node_string H m' (suc h) i) (node_string H m (suc h) i) (root_of H (put_part (2 * i) left m') ++ root_of H (put_part (2 * i + 1) right m'))
      (tree_strings H m' h (2 * i)) (tree_strings H m' h (2 * i + 1)) (tree_strings H m h (2 * i)) (tree_strings H m h (2 * i + 1))
      (part_strings H (put_part (2 * i) left m')) (part_strings H (put_part (2 * i + 1) right m')) x (rw (l, r) refl)
      (put_has_new_strings m m' h (2 * i) left agree.0 of_l) (put_has_new_strings m m' h (2 * i + 1) right agree.1 of_r) c
  put_has_new_strings m m' zero i (leaf page) agree same x c = inr c
  put_has_new_strings m m' (suc h) i (leaf page) agree same x c = absurd agree
