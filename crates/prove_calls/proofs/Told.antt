-- The answer that tells the outcome of a run.
use Rattle.std.proofs.Common.{◌≡◌, ℕ, ◌+◌, List, length, None, Ok, refl, sym, ap, ap₂, subst, ◌∙◌}
use Rattle.page_core.specs.Images.{Image}
use Rattle.rv_step.specs.Machine.{State}
use Rattle.rv_step.specs.Runs.{start, after, run_cost}
use Rattle.std.proofs.lemmas.Option.{same_Some}
use Rattle.rv_step.specs.declared.outcome.Outcome.TheVariants.{Halted, Faulted, OverLimit}
use Rattle.rv_isa.specs.declared.fault.Fault.{Fault}
use Rattle.flat_machine.specs.Going.{Going, flat_state, IsRunEnd}
use Rattle.cli_text.specs.declared.status.Status.{Status}
use Rattle.cli_text.specs.declared.status.Status.TheVariants.{Done, Refused}
use Rattle.cli_text.specs.Runs.{halted_lines, faulted_lines, over_limit_lines}
use Rattle.byte_cursor.specs.Growing.{Growing}
use Rattle.command_frame.specs.declared.end.Answer.{Answer}
use Rattle.command_frame.specs.Ends.{Table, IsPrinted, IsEnded}
use Rattle.prove_calls.specs.Exec.{IsExecuted}

module _ (g : Going) (image : Image) (words : List ℕ) (limit : ℕ) (lines : List ℕ) where
  pub halted_told : (code : ℕ) → IsRunEnd g image words limit (Halted code) → lines ≡ halted_lines code g.steps g.cycles g.journal (length g.calls) → IsExecuted image words limit Done lines None
  halted_told code e text =
      let s = start image words in
      let state : flat_state g ≡ e.ends.state = same_Some (flat_state g) e.ends.state (sym e.stands.reached ∙ ap (after s) e.reached ∙ e.ends.reached) in
      let cycles : g.cycles ≡ run_cost s (e.ends.step + 1) = e.stands.cost ∙ ap (run_cost s) e.steps in
      record {
        outcome = Halted code;
        ends = e.ends;
        tells = record {
          status_is = refl;
          lines_are = text ∙ ap₂ (λ (steps cycles : ℕ). halted_lines code steps cycles g.journal (length g.calls)) e.steps cycles
              ∙ ap (λ (t : State). halted_lines code (e.ends.step + 1) (run_cost s (e.ends.step + 1)) t.journal (length t.calls)) state;
          nothing_kept = refl;
        };
      }

  pub faulted_told : (fault : Fault) (pc step : ℕ) → IsRunEnd g image words limit (Faulted fault pc step) → lines ≡ faulted_lines step pc fault → IsExecuted image words limit Refused lines None
  faulted_told fault pc step e text =
      record { outcome = Faulted fault pc step; ends = e.ends; tells = record { status_is = refl; lines_are = text; nothing_kept = refl } }

  pub over_told : (step : ℕ) → IsRunEnd g image words limit (OverLimit step) → lines ≡ over_limit_lines step → IsExecuted image words limit Refused lines None
  over_told step e text = record { outcome = OverLimit step; ends = e.ends; tells = record { status_is = refl; lines_are = text; nothing_kept = refl } }

-- an answer that writes no file
pub ended_told : (A : Table) (answer : Answer) (status : Status) (lines : Growing ℕ) → answer ≡ record { status = status; lines = lines; file = None } → A status lines.items None → IsPrinted status
    → IsEnded A (Ok answer)
ended_told A answer status lines is tells printed = subst (λ (a : Answer). IsEnded A (Ok a)) (sym is) (tells, printed)

-- its lines, as they were asked of the run
pub halted_lines_are : (g : Going) (code steps cycles : ℕ) (journal : List ℕ) (calls : ℕ) → steps ≡ g.steps → cycles ≡ g.cycles → journal ≡ g.journal → calls ≡ length g.calls
    → halted_lines code steps cycles journal calls ≡ halted_lines code g.steps g.cycles g.journal (length g.calls)
halted_lines_are g code steps cycles journal calls same_steps same_cycles same_journal same_calls =
    λ i. halted_lines code (same_steps i) (same_cycles i) (same_journal i) (same_calls i)
