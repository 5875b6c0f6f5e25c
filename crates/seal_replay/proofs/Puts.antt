-- The tree of a seal with the memory at the end of its stretch put in. H is the digest function.
use Rattle.std.proofs.Common.{◌≡◌, ℕ, ◌/◌, ◌^◌, ◌<◌, List, ap, sym, subst, ◌∙◌, arith}
use Rattle.std.specs.Prelude.{Contains}
use Rattle.page_core.specs.Memory.{top, AgreeOn}
use Rattle.page_core.specs.Memories.{page_of}
use Rattle.page_core.proofs.Bytes.{page_same}
use Rattle.part_tree.specs.Tree.{root}
use Rattle.part_tree.specs.Part.{open_numbers, put_part, root_of, Agree}
use Rattle.part_tree.specs.Laws.{SameUnopened}
use Rattle.part_tree.proofs.Change.{root_of-agree, put_keeps_agreement}
use Rattle.part_tree.proofs.Shown.{put_same}
use Rattle.rv_step.specs.Machine.{State, full}
use Rattle.rv_step.proofs.Full.{full-below}
use Rattle.receipt_types.specs.Seals.{Seal}
use Rattle.seal_replay.specs.Claiming.{put_tree}

-- the run goes from s to v and changes no byte of a page that isn't open, and the replay ends in t
module _ (H : List ℕ → List ℕ) (seal : Seal) (s v t : State) (agree : Agree H (page_of (full s)) 18 0 seal.tree) (registers : Contains (open_numbers 0 seal.tree) 262143)
    (leaves : (a : ℕ) → ¬ Contains (open_numbers 0 seal.tree) (a / 1024) → v.memory a ≡ s.memory a) (like : AgreeOn (open_numbers 0 seal.tree) (full t) (full v)) where
  -- the run changes no page that isn't open
  pub unopened : SameUnopened (page_of (full s)) (page_of (full v)) 18 0 seal.tree
  unopened page below closed =
      page_same (full v) (full s) page
      (λ a at.
      let other : page ≡ 262143 → ⊥ = λ e. closed (subst (Contains (open_numbers 0 seal.tree)) (sym e) registers) in
      let low : a < top = below_top a page at below other in
      full-below v.memory v.x a low
      ∙ leaves a (λ c. closed (subst (Contains (open_numbers 0 seal.tree)) at c))
      ∙ sym (full-below s.memory s.x a low))
    where
      below_top : (a page : ℕ) → a / 1024 ≡ page → page / 2 ^ 18 ≡ 0 → (page ≡ 262143 → ⊥) → a < top
      below_top a page at below other = omega arith

  -- the open pages at its end are the replay's
  pub same_put : put_tree seal t ≡ put_part 0 seal.tree (page_of (full v))
  same_put =
      put_same 0 seal.tree (page_of (full t)) (page_of (full v))
      (λ p c. page_same (full t) (full v) p (λ a at. like.at a (subst (Contains (open_numbers 0 seal.tree)) (sym at) c)))

  pub new_root : root_of H (put_tree seal t) ≡ root H (page_of (full v))
  new_root =
      ap (root_of H) same_put
      ∙ root_of-agree H (page_of (full v)) 18 0 (put_part 0 seal.tree (page_of (full v)))
      (put_keeps_agreement H (page_of (full s)) (page_of (full v)) 18 0 seal.tree agree unopened)
