-- How a body ends, from the ends of its parts.
use Rattle.std.proofs.Common.{◌≡◌, ℕ, List, Option, Result, Ok, Err, sym, ap, subst, ◌∙◌}
use Rattle.std.specs.Prelude.{IfErr, IsErrAnd}
use Rattle.std.proofs.lemmas.Result.{err_from_is_err_and}
use Rattle.cli_text.specs.declared.status.Status.{Status}
use Rattle.command_frame.specs.declared.end.Answer.{Answer}
use Rattle.command_frame.specs.declared.end.End.{End}
use Rattle.command_frame.specs.declared.end.End.TheVariants.{Told, ReadFault, Memory}
use Rattle.command_frame.specs.Ends.{Kept, Table, HasCause, IsPrintedEnd, IsEnded, new_file, end_of}

-- what a table tells holds of a wider one
module _ (A B : Table) (wider : (status : Status) (lines : List ℕ) (kept : Option Kept) → A status lines kept → B status lines kept) where
  pub cause_wider : (end : End) → HasCause A end → HasCause B end
  cause_wider (Told answer) cause = (wider answer.status answer.lines.items (new_file answer.file) cause.0, cause.1)
  cause_wider ReadFault cause = tt
  cause_wider Memory cause = tt

  pub ended_wider : (outcome : Result Answer End) → IsEnded A outcome → IsEnded B outcome
  ended_wider outcome = cause_wider (end_of outcome)

-- a part ended the command
pub ended_by : (A : Table) (outcome : Result Answer End) (end : End) → outcome ≡ Err end → HasCause A end → IsEnded A outcome
ended_by A outcome end is cause = subst (IsEnded A) (sym is) cause

-- memory was wanting
pub ended_silent : (A : Table) (outcome : Result Answer End) → IsErrAnd outcome (λ end. end ≡ Memory) → IsEnded A outcome
ended_silent A outcome silent =
    let (end, is, memory) = err_from_is_err_and outcome silent in
    subst (IsEnded A) (sym (is ∙ ap Err memory)) tt

-- a command that has a cause prints a status of its own
pub cause_printed : (A : Table) (end : End) → HasCause A end → IsPrintedEnd end
cause_printed A (Told answer) cause = cause.1
cause_printed A ReadFault cause = tt
cause_printed A Memory cause = tt

-- ---- of a part that makes something else
pub part_wider : {T : Type 0} (A B : Table) → ((status : Status) (lines : List ℕ) (kept : Option Kept) → A status lines kept → B status lines kept) → (part : Result T End)
    → IfErr part (HasCause A) → IfErr part (HasCause B)
part_wider A B wider (Ok made) cause = tt
part_wider A B wider (Err end) cause = cause_wider A B wider end cause

pub part_silent : {T : Type 0} (A : Table) (part : Result T End) → IsErrAnd part (λ end. end ≡ Memory) → IfErr part (HasCause A)
part_silent A (Ok made) silent = tt
part_silent A (Err end) silent = subst (HasCause A) (sym silent) tt

-- a body that ended by a read fault came to no answer
pub silent_fault : (outcome : Result Answer End) (end : End) → end ≡ end_of outcome → end ≡ ReadFault → outcome ≡ Err ReadFault
silent_fault (Ok answer) end is fault = let none : Told answer ≡ ReadFault = sym is ∙ fault in absurd (cc)
silent_fault (Err other) end is fault = ap Err (sym is ∙ fault)
