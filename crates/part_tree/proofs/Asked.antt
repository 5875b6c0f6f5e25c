-- Which pages a memory's part tree opens.
use Rattle.std.proofs.Common.{◌≡◌, inl, inr, ℕ, zero, suc, ◌+◌, ◌*◌, ◌/◌, ◌^◌, ◌==◌, ◌||◌, Bool, true, false, List, [], ◌∷◌, refl, sym, ap, subst, ◌∙◌, arith, eq-eqb}
use Rattle.std.specs.Prelude.{Contains}
use Rattle.std.proofs.lemmas.Bool.Decides.{eqb_tells}
use Rattle.std.proofs.lemmas.List.Elements.{Contains-append_left, Contains-append_right, Contains-append_cases}
use Rattle.std.proofs.lemmas.List.Folds.{list_any_at}
use Rattle.page_core.specs.Pages.{Pages}
use Rattle.part_tree.specs.Tree.{node, IsBelow}
use Rattle.part_tree.specs.Part.{Part, pruned, branch, leaf, open_numbers, any_below, part_of}
use Rattle.part_tree.proofs.Strings.{Contains-one}
use Rattle.part_tree.proofs.Made.{chosen}
use Rattle.part_tree.proofs.Below.{below_left, below_right, below_itself, one_side}

or_rest : (a b : Bool) → a ≡ false → (a || b) ≡ true → b ≡ true
or_rest true b off e = cc
or_rest false b off e = e

-- one of the pages is below the node exactly where the test says so
found : (h i : ℕ) (pages : List ℕ) → any_below h i pages ≡ true → (page : ℕ) × Contains pages page × IsBelow h i page
found h i [] e = cc
found h i (x ∷ xs) e =
    elim (eqb_tells (x / 2 ^ h) i) [
      | inl t ↦ (x, (0, omega arith, refl), t.1)
      | inr n ↦ let (page, c, b) = found h i xs (or_rest (x / 2 ^ h == i) (any_below h i xs) n.0 e) in (page, Contains-append_right (x ∷ []) xs page c, b)
    ]

tested : (h i page : ℕ) (pages : List ℕ) → Contains pages page → IsBelow h i page → any_below h i pages ≡ true
tested h i page pages c b =
    list_any_at (λ n. n / 2 ^ h == i) pages c.0 page c.1 (ap (λ (n : ℕ). n / 2 ^ h == i) c.2 ∙ eq-eqb (page / 2 ^ h) i b)

module _ (H : List ℕ → List ℕ) (m : Pages) (pages : List ℕ) where
  none_opened : (i number : ℕ) (digest : List ℕ) → Contains (open_numbers i (pruned digest)) number → ⊥
  none_opened i number digest c = omega (arith, c.1)

  pub opened_asked : (h i number : ℕ) → Contains (open_numbers i (part_of H m pages h i)) number → Contains pages number × IsBelow h i number
  unfolding part_of
  opened_asked zero i number =
      let P : Part → Type 0 = λ t. Contains (open_numbers i t) number → Contains pages number × IsBelow 0 i number in
      chosen P (any_below 0 i pages) (leaf (m i)) (pruned (node H m 0 i))
      (λ e c. let (page, listed, b) = found 0 i pages e in
      let same : page ≡ number = sym (below_itself page) ∙ b ∙ Contains-one i number c in
      (subst (λ (n : ℕ). Contains pages n) same listed, subst (λ (n : ℕ). IsBelow 0 i n) same b))
      (λ e c. absurd (none_opened i number (node H m 0 i) c))
  opened_asked (suc h) i number =
      let P : Part → Type 0 = λ t. Contains (open_numbers i t) number → Contains pages number × IsBelow (suc h) i number in
      chosen P (any_below (suc h) i pages) (branch (part_of H m pages h (2 * i)) (part_of H m pages h (2 * i + 1))) (pruned (node H m (suc h) i))
      (λ e c. elim (Contains-append_cases (open_numbers (2 * i) (part_of H m pages h (2 * i))) (open_numbers (2 * i + 1) (part_of H m pages h (2 * i + 1))) number c) [
        | inl l ↦ let r = opened_asked h (2 * i) number l in (r.0, below_left h i number r.1)
        | inr l ↦ let r = opened_asked h (2 * i + 1) number l in (r.0, below_right h i number r.1)
      ])
      (λ e c. absurd (none_opened i number (node H m (suc h) i) c))

  pub asked_opened : (h i number : ℕ) → Contains pages number × IsBelow h i number → Contains (open_numbers i (part_of H m pages h i)) number
  unfolding part_of
  asked_opened zero i number a =
      let P : Part → Type 0 = λ t. Contains (open_numbers i t) number in
      let yes = tested 0 i number pages a.0 a.1 in
      chosen P (any_below 0 i pages) (leaf (m i)) (pruned (node H m 0 i))
      (λ e. (0, omega arith, sym a.1 ∙ below_itself number))
      (λ e. let no : true ≡ false = sym yes ∙ e in cc)
  asked_opened (suc h) i number a =
      let P : Part → Type 0 = λ t. Contains (open_numbers i t) number in
      let yes = tested (suc h) i number pages a.0 a.1 in
      let l = open_numbers (2 * i) (part_of H m pages h (2 * i)) in
      let r = open_numbers (2 * i + 1) (part_of H m pages h (2 * i + 1)) in
      chosen P (any_below (suc h) i pages) (branch (part_of H m pages h (2 * i)) (part_of H m pages h (2 * i + 1))) (pruned (node H m (suc h) i))
      (λ e. elim (one_side h i number a.1) [
        | inl b ↦ Contains-append_left l r number (asked_opened h (2 * i) number (a.0, b))
        | inr b ↦ Contains-append_right l r number (asked_opened h (2 * i + 1) number (a.0, b))
      ])
      (λ e. let no : true ≡ false = sym yes ∙ e in cc)
