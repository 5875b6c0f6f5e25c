-- The stored pages of a memory, by a rule that finds each under its number.
use Rattle.std.proofs.Common.{◌≡◌, inl, inr, ℕ, zero, suc, ◌+◌, ◌-◌, ◌*◌, ◌%◌, ◌^◌, ◌<◌, ◌≤◌, List, [], ◌∷◌, Option, Some, None, refl, sym, ap, ap₂, subst, ◌∙◌, arith}
use Rattle.std.specs.Prelude.{IfSome, if◌then◌else◌, map, unwrap_or}
use Rattle.std.specs.Option.{option_or}
use Rattle.std.proofs.Math.Nat.{div-lt_iff_lt-mul}
use Rattle.std.proofs.lemmas.Bool.Decides.{eqb_tells, leb_tells}
use Rattle.std.proofs.lemmas.Nat.{pow_pos, pow-add}
use Rattle.page_core.proofs.Options.{option_or-none}
use Rattle.page_core.specs.Pages.{IsPage, ArePages, zero_page}
use Rattle.page_core.specs.Stored.{Stored, stored_at, stored_pages}
use Rattle.part_tree.specs.Tree.{node, IsBelow}
use Rattle.part_tree.proofs.Change.{same_pages}
use Rattle.page_core.proofs.Zeros.{zeros_are}
use Rattle.page_tree.specs.Blocks.{memory_by, page_of_low, page_of_middle, page_of_top, IsLow, IsMiddle, IsTop}
use Rattle.page_tree.specs.declared.block.Block.{Block}
use Rattle.page_tree.proofs.Children.{are_pages}
use Rattle.page_tree.specs.Changes.{last_of}
use Rattle.page_tree.specs.Grown.{AscendFrom, stored_with_all, gathered}
use Rattle.page_tree.proofs.Merged.{none_before, numbers_ascend, same_stored, stored_at-with_all, ascends-with_all, gathered_ascends, gathered_at, gathered_after}

-- a page below a node of a memory's tree is one of the memory
below_fits : (h i n : ℕ) → h ≤ 18 → i < 2 ^ (18 - h) → IsBelow h i n → n < 262144
below_fits h i n low fits below =
    let lt : n < 2 ^ (18 - h) * 2 ^ h = (div-lt_iff_lt-mul {k = 2 ^ h} {x = n} {y = 2 ^ (18 - h)} (pow_pos h)).0 (omega (arith, below, fits)) in
    let sum : 18 ≡ 18 - h + h = omega (arith, low) in
    let whole : 2 ^ 18 ≡ 2 ^ (18 - h) * 2 ^ h = ap (λ (k : ℕ). 2 ^ k) sum ∙ pow-add 2 (18 - h) h in
    omega (arith, lt, whole)

module _ (found : ℕ → Option (List ℕ)) (stored : Stored) (is : gathered found 0 262144 ≡ stored) where
  -- the page under a number is the one that is found, where it is one of the memory
  pub whole_page : (n : ℕ) → n < 262144 → found n ≡ stored_at stored n
  whole_page n lt = sym (gathered_at found 0 262144 n (omega arith) (omega (arith, lt))) ∙ ap (λ (s : Stored). stored_at s n) is

  pub no_page : (n : ℕ) → 262144 ≤ n → None ≡ stored_at stored n
  no_page n after = sym (gathered_after found 0 262144 n (omega (arith, after))) ∙ ap (λ (s : Stored). stored_at s n) is

  -- so is the digest of a node
  pub whole_node : (H : List ℕ → List ℕ) (h i : ℕ) → h ≤ 18 → i < 2 ^ (18 - h) → node H (memory_by found) h i ≡ node H (stored_pages stored) h i
  whole_node H h i low fits =
      ap H (same_pages H (stored_pages stored) (memory_by found) h i (λ n below. ap (λ (o : Option (List ℕ)). unwrap_or o zero_page) (whole_page n (below_fits h i n low fits below)))).0

-- of pages whose numbers ascend, the last with a number is the only one
last_stored : (least n : ℕ) (ps : Stored) → AscendFrom least (map (λ p. p.0) ps) → n < 262144 → last_of 262144 n ps ≡ stored_at ps n
last_stored least n [] up lt = refl
last_stored least n (p ∷ ps) up lt =
    let rest = last_stored (p.0 + 1) n ps up.2 lt in
    elim (eqb_tells n p.0) [
      | inl same ↦
          ap₂ option_or (rest ∙ none_before (p.0 + 1) n ps (numbers_ascend (p.0 + 1) ps up.2) (omega (arith, same.1)))
          (elim (eqb_tells (p.0 % 262144) (n % 262144)) [ inl e ↦ ap (λ t. if t then Some p.1 else None) e.0 | inr ne ↦ absurd (ne.1 (ap (λ (k : ℕ). k % 262144) (sym same.1))) ])
          ∙ sym (ap (λ t. if t then Some p.1 else stored_at ps n) same.0)
      | inr other ↦
          ap₂ option_or rest
          (elim (eqb_tells (p.0 % 262144) (n % 262144)) [ inl e ↦ absurd (other.1 (omega (arith, e.1, lt, up.1))) | inr ne ↦ ap (λ t. if t then Some p.1 else None) ne.0 ])
          ∙ option_or-none (stored_at ps n)
          ∙ sym (ap (λ t. if t then Some p.1 else stored_at ps n) other.0)
    ]

-- none of them is stored after the last page of a memory
none_after : (least n : ℕ) (ps : Stored) → AscendFrom least (map (λ p. p.0) ps) → 262144 ≤ n → stored_at ps n ≡ None
none_after least n [] up after = refl
none_after least n (p ∷ ps) up after =
    elim (eqb_tells n p.0) [
      | inl same ↦ absurd (omega (arith, same.1, up.1, after))
      | inr other ↦ ap (λ t. if t then Some p.1 else stored_at ps n) other.0 ∙ none_after (p.0 + 1) n ps up.2 after
    ]

-- the stored pages after others were put
pub whole_with_all : (old new : ℕ → Option (List ℕ)) (stored ps : Stored) → gathered old 0 262144 ≡ stored → AscendFrom 0 (map (λ p. p.0) ps)
    → ((n : ℕ) → new n ≡ option_or (last_of 262144 n ps) (old n)) → gathered new 0 262144 ≡ stored_with_all stored ps
whole_with_all old new stored ps is up put =
    same_stored 0 (gathered new 0 262144) (stored_with_all stored ps) (gathered_ascends new 0 262144)
    (ascends-with_all stored ps (rw (sym is) (gathered_ascends old 0 262144)))
    (λ n. elim (leb_tells 262144 n) [
      | inl after ↦
          gathered_after new 0 262144 n (omega (arith, after.1))
          ∙ sym (stored_at-with_all 0 stored ps n (numbers_ascend 0 ps up)
          ∙ ap₂ option_or (none_after 0 n ps up after.1) (sym (no_page old stored is n after.1)))
      | inr lt ↦
          gathered_at new 0 262144 n (omega arith) (omega (arith, lt.1))
          ∙ put n
          ∙ ap₂ option_or (last_stored 0 n ps up lt.1) (whole_page old stored is n lt.1)
          ∙ sym (stored_at-with_all 0 stored ps n (numbers_ascend 0 ps up))
    ])

-- where nothing is found no page is stored
pub none_whole : (found : ℕ → Option (List ℕ)) (least n : ℕ) → ((k : ℕ) → found k ≡ None) → gathered found least n ≡ []
unfolding gathered
none_whole found least zero none = refl
none_whole found least (suc n) none = rw (none least) (none_whole found (least + 1) n none)

-- the pages of the top block, and so of the memory, are pages
pub top_pages : (H : List ℕ → List ℕ) (top : Block (Block (Block (List ℕ)))) (n : ℕ) → IsTop H top → IfSome (page_of_top top n) IsPage
top_pages H top n is =
    are_pages page_of_middle (IsMiddle H) 12 n top.children.items is.children_are
    (λ middle whole. are_pages page_of_low (IsLow H) 6 n middle.children.items whole.children_are
    (λ low full. are_pages (λ (page : List ℕ) (k : ℕ). Some page) IsPage 0 n low.children.items full.children_are (λ page real. real)))

page_or_zeros : (o : Option (List ℕ)) → IfSome o IsPage → IsPage (unwrap_or o zero_page)
page_or_zeros None is = zeros_are
page_or_zeros (Some page) is = is

pub memory_pages : (found : ℕ → Option (List ℕ)) (stored : Stored) → gathered found 0 262144 ≡ stored → ((n : ℕ) → IfSome (found n) IsPage) → ArePages (stored_pages stored)
memory_pages found stored is each n =
    elim (leb_tells 262144 n) [
      | inl after ↦ subst (λ (o : Option (List ℕ)). IsPage (unwrap_or o zero_page)) (no_page found stored is n after.1) zeros_are
      | inr lt ↦ subst (λ (o : Option (List ℕ)). IsPage (unwrap_or o zero_page)) (whole_page found stored is n lt.1) (page_or_zeros (found n) (each n))
    ]
