-- What stands after a command, from how it ended.
use Rattle.std.proofs.Common.{◌≡◌, ℕ, List, Option, Some, None, inl, inr, sym, subst, ◌∙◌}
use Rattle.std.specs.Prelude.{IsSome}
use Rattle.outside.specs.Files.{Files}
use Rattle.cli_text.specs.declared.status.Status.{Status}
use Rattle.cli_text.specs.declared.status.Status.TheVariants as S
use Rattle.command_frame.specs.declared.end.NewFile.{NewFile}
use Rattle.command_frame.specs.declared.end.End.{End}
use Rattle.command_frame.specs.declared.end.End.TheVariants.{Told, ReadFault, Memory}
use Rattle.command_frame.specs.Ends.{Kept, Table, IsPrinted, IsPut, PutsEnd, HasCause, HasFile, MayWrite, Ends, IsDoneOrFails, new_file}
use Rattle.command_frame.specs.Reading.{IsTold}

module _ (A : Table) (lines : List ℕ) (kept : Option Kept) (told told' : Option Files) (taken taken' : Option (List ℕ)) where
  -- the whole lines of an answer were put
  ends_put : (status : Status) → A status lines kept → IsPrinted status → IsPut kept lines told told' taken taken' → Ends A status told told' taken taken'
  ends_put S.Done answers printed put = (record { lines = lines; kept = kept; answers = answers }, put)
  ends_put S.Refused answers printed put = (record { lines = lines; kept = kept; answers = answers }, put)
  ends_put S.Words answers printed put = (record { lines = lines; kept = kept; answers = answers }, put)
  ends_put S.NoFile answers printed put = (record { lines = lines; kept = kept; answers = answers }, put)
  ends_put S.TooLong answers printed put = (record { lines = lines; kept = kept; answers = answers }, put)
  ends_put S.BadFile answers printed put = (record { lines = lines; kept = kept; answers = answers }, put)
  ends_put S.Collision answers printed put = (record { lines = lines; kept = kept; answers = answers }, put)
  ends_put S.ReadFault answers printed put = absurd printed
  ends_put S.WriteFault answers printed put = absurd printed
  ends_put S.Memory answers printed put = absurd printed

pub ends_of : (A : Table) (end : End) (status : Status) (told told' : Option Files) (taken taken' : Option (List ℕ)) → HasCause A end
    → PutsEnd end status told told' taken taken' → Ends A status told told' taken taken'
ends_of A ReadFault status told told' taken taken' cause (is, silent) = subst (λ (s : Status). Ends A s told told' taken taken') (sym is) silent
ends_of A Memory status told told' taken taken' cause (is, silent) = subst (λ (s : Status). Ends A s told told' taken taken') (sym is) silent
ends_of A (Told answer) status told told' taken taken' cause (inl (is, put)) =
    subst (λ (s : Status). Ends A s told told' taken taken') (sym is)
    (ends_put A answer.lines.items (new_file answer.file) told told' taken taken' answer.status cause.0 cause.1 put)
ends_of A (Told answer) status told told' taken taken' cause (inr (is, fails)) =
    subst (λ (s : Status). Ends A s told told' taken taken') (sym is)
    (answer.status, record { lines = answer.lines.items; kept = new_file answer.file; answers = cause.0 }, fails)

-- with a status of 0 an answer of that status was put
pub record IsDoneBy (A : Table) (told told' : Option Files) (taken taken' : Option (List ℕ)) : Type 0 where
  pub lines : List ℕ
  pub kept : Option Kept
  pub answers : A S.Done lines kept
  pub put : IsPut kept lines told told' taken taken'

pub done_by : (A : Table) (status : Status) (told told' : Option Files) (taken taken' : Option (List ℕ)) → status ≡ S.Done
    → Ends A status told told' taken taken' → IsDoneBy A told told' taken taken'
done_by A status told told' taken taken' done ends =
    let (answer, put) = subst (λ (s : Status). Ends A s told told' taken taken') done ends in
    record { lines = answer.lines; kept = answer.kept; answers = answer.answers; put = put }

-- where each answer has a status of 0, so has the command, but for a fault and want of memory
pub done_or_fails : (A : Table) (end : End) (status : Status) (told told' : Option Files) (taken taken' : Option (List ℕ)) → HasCause A end
    → ((answered : Status) (lines : List ℕ) (kept : Option Kept) → A answered lines kept → answered ≡ S.Done)
    → PutsEnd end status told told' taken taken' → IsDoneOrFails status
done_or_fails A ReadFault status told told' taken taken' cause done (is, silent) = subst IsDoneOrFails (sym is) tt
done_or_fails A Memory status told told' taken taken' cause done (is, silent) = subst IsDoneOrFails (sym is) tt
done_or_fails A (Told answer) status told told' taken taken' cause done (inl (is, put)) =
    subst IsDoneOrFails (sym (is ∙ done answer.status answer.lines.items (new_file answer.file) cause.0)) tt
done_or_fails A (Told answer) status told told' taken taken' cause done (inr (is, fails)) = subst IsDoneOrFails (sym is) tt

-- the lines of an answer that writes no file
pub told_put : (wanted : Status) (text : List ℕ) (status : Status) (lines : List ℕ) (kept : Option Kept) (told told' : Option Files) (taken taken' : Option (List ℕ))
    → IsTold wanted text status lines kept → IsPut kept lines told told' taken taken' → IsPut None text told told' taken taken'
told_put wanted text status lines kept told told' taken taken' is put =
    subst (λ (k : Option Kept). IsPut k text told told' taken taken') is.nothing_kept
    (subst (λ (t : List ℕ). IsPut kept t told told' taken taken') is.lines_are put)

-- what is written is the file of an answer
file_written : (A : Table) (status : Status) (lines : List ℕ) (file : Option NewFile) → A status lines (new_file file) → IsSome file → MayWrite A
file_written A status lines None answers some = absurd (cc)
file_written A status lines (Some file) answers some =
    record { status = status; lines = lines; kept = record { name = file.name; bytes = file.bytes.items }; answers = answers }

pub end_written : (A : Table) (end : End) → HasCause A end → HasFile end → MayWrite A
end_written A (Told answer) cause some = file_written A answer.status answer.lines.items answer.file cause.0 some
end_written A ReadFault cause some = absurd some
end_written A Memory cause some = absurd some

-- what stands after an end is put, where the body left the files as they were
module _ (A : Table) (end : End) (status : Status) (before middle after : Option Files) (taken taken' : Option (List ℕ)) (same : middle ≡ before)
    (cause : HasCause A end) (puts : PutsEnd end status middle after taken taken') where
  pub ends_after : Ends A status before after taken taken'
  ends_after = subst (λ (t : Option Files). Ends A status t after taken taken') same (ends_of A end status middle after taken taken' cause puts)
