-- The answer that was put, from the status after it.
use Rattle.std.proofs.Common.{◌≡◌, ℕ, List, Option, subst}
use Rattle.outside.specs.Files.{Files}
use Rattle.cli_text.specs.declared.status.Status.{Status}
use Rattle.cli_text.specs.declared.status.Status.TheVariants as S
use Rattle.command_frame.specs.Ends.{Kept, Table, IsPrinted, IsPut, Ends}

-- an answer of this status was put
pub record IsPutBy (A : Table) (wanted : Status) (told told' : Option Files) (taken taken' : Option (List ℕ)) : Type 0 where
  pub lines : List ℕ
  pub kept : Option Kept
  pub answers : A wanted lines kept
  pub put : IsPut kept lines told told' taken taken'

module _ (A : Table) (told told' : Option Files) (taken taken' : Option (List ℕ)) where
  ends_by : (wanted : Status) → IsPrinted wanted → Ends A wanted told told' taken taken' → IsPutBy A wanted told told' taken taken'
  ends_by S.Done printed (answer, put) = record { lines = answer.lines; kept = answer.kept; answers = answer.answers; put = put }
  ends_by S.Refused printed (answer, put) = record { lines = answer.lines; kept = answer.kept; answers = answer.answers; put = put }
  ends_by S.Words printed (answer, put) = record { lines = answer.lines; kept = answer.kept; answers = answer.answers; put = put }
  ends_by S.NoFile printed (answer, put) = record { lines = answer.lines; kept = answer.kept; answers = answer.answers; put = put }
  ends_by S.TooLong printed (answer, put) = record { lines = answer.lines; kept = answer.kept; answers = answer.answers; put = put }
  ends_by S.BadFile printed (answer, put) = record { lines = answer.lines; kept = answer.kept; answers = answer.answers; put = put }
  ends_by S.Collision printed (answer, put) = record { lines = answer.lines; kept = answer.kept; answers = answer.answers; put = put }
  ends_by S.ReadFault printed ends = absurd printed
  ends_by S.WriteFault printed ends = absurd printed
  ends_by S.Memory printed ends = absurd printed

  -- with a status that is printed an answer of that status was put
  pub put_by : (wanted : Status) → IsPrinted wanted → (status : Status) → status ≡ wanted → Ends A status told told' taken taken' → IsPutBy A wanted told told' taken taken'
  put_by wanted printed status is ends = ends_by wanted printed (subst (λ (s : Status). Ends A s told told' taken taken') is ends)
