-- A run that is asked for the steps of a seal, through which it goes, does them all.
use Rattle.std.proofs.Common.{◌≡◌, ℕ, ◌+◌, ◌-◌, ◌<◌, ◌≤◌, List, Some, None, sym, ap, ◌∙◌, arith, ⊎_elim}
use Rattle.std.specs.Prelude.{Contains}
use Rattle.std.proofs.lemmas.Bool.Decides.{leb_tells}
use Rattle.std.proofs.lemmas.Option.{same_Some, none-some}
use Rattle.page_core.specs.Images.{Image}
use Rattle.page_core.specs.Memories.{page_of}
use Rattle.page_core.specs.Stored.{Stored, stored_pages}
use Rattle.part_tree.specs.Part.{open_numbers}
use Rattle.rv_step.specs.Machine.{State, full}
use Rattle.rv_step.specs.Runs.{start, after}
use Rattle.rv_step.proofs.Runs.{after-add}
use Rattle.receipt_types.specs.Seals.{Seal}
use Rattle.flat_machine.specs.Going.{Going, flat_state, went_steps, went_steps_in, IsRunOf}
use Rattle.audit.specs.Walking.{GoesThrough}
use Rattle.audit.proofs.Steps.{after_fewer}

module _ (going going' : Going) (tree : Stored) (seal : Seal) (n done : ℕ) (through : GoesThrough going tree seal) (asked : n ≡ seal.steps)
    (run : (image : Image) (words : List ℕ) → IsRunOf going image words → IsRunOf going' image words) (steps : going'.steps ≡ going.steps + done) (bound : going'.steps ≤ going.steps + n)
    (most : done < n → (image : Image) (words : List ℕ) → IsRunOf going image words → after (start image words) (went_steps going' + 1) ≡ None) (halted : going'.halted ≡ going.halted) where
  abbrev r : State
  r = start through.image through.words

  pub on : going'.halted ≡ None
  on = halted ∙ through.at.on

  here : after r going.steps ≡ Some (flat_state going)
  here = ap (λ o. after r (went_steps_in going.steps o)) (sym through.at.on) ∙ through.at.run.reached

  there : after r (going.steps + seal.steps) ≡ Some through.next
  there = after-add r going.steps seal.steps (flat_state going) here ∙ through.reached

  pub all_done : done ≡ n
  all_done =
      ⊎_elim (λ all. omega (arith, all.1, bound, steps))
      (λ fewer.
      let left : ℕ = going.steps + seal.steps - (going'.steps + 1) in
      let (u, some) = after_fewer r (going'.steps + 1) left (going.steps + seal.steps) through.next (omega (arith, steps, asked, fewer.1)) there in
      let none : after r (going'.steps + 1) ≡ None =
      ap (λ o. after r (went_steps_in going'.steps o + 1)) (sym on) ∙ most (omega (arith, fewer.1)) through.image through.words through.at.run in
      absurd (none-some u (sym none ∙ some)))
      (leb_tells n done)

  pub arrived : flat_state going' ≡ through.next
  arrived =
      same_Some (flat_state going') through.next
      (sym (run through.image through.words through.at.run).reached
      ∙ ap (λ o. after r (went_steps_in going'.steps o)) on
      ∙ ap (after r) (omega (arith, steps, all_done, asked))
      ∙ there)

  pub others : (page : ℕ) → page < 262144 → ¬ Contains (open_numbers 0 seal.tree) page → stored_pages tree page ≡ page_of (full (flat_state going')) page
  others page low closed =
      through.at.memory page low ∙ sym (through.left page low closed) ∙ ap (λ (s : State). page_of (full s) page) (sym arrived)
