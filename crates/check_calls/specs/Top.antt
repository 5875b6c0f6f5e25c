-- All commands of `zk_check`, a row a command. H is the digest function.
use Rattle.std.specs.Prelude.{◌≡◌, ◌⊎◌, ℕ, List, Option, Some, None}
use Rattle.outside.specs.Files.{Files}
use Rattle.cli_text.specs.declared.check_words.CheckJob.{CheckJob}
use Rattle.cli_text.specs.declared.check_words.CheckJob.TheVariants.{Check, CheckInto, Audit, Id, Inspect}
use Rattle.cli_text.specs.CheckWords.{NamesCheck, NamesNoCheck}
use Rattle.cli_text.specs.declared.status.Status.{Status}
use Rattle.cli_text.specs.declared.status.Status.TheVariants.{Words}
use Rattle.cli_text.specs.Usages.{check_usage_lines}
use Rattle.command_frame.specs.Ends.{Kept}
use Rattle.command_frame.specs.Reading.{IsTold}
use Rattle.check_calls.specs.Audit.{AuditAsked, AnswersAudit, IsSoundPut, IsCollisionPut, PassesAudit}
use Rattle.check_calls.specs.Check.{CheckAsked, AnswersCheck, IsCheckedPut, Passes}
use Rattle.check_calls.specs.Id.{AnswersId, IsIdentifiedPut, PassesTests}
use Rattle.check_calls.specs.Inspect.{AnswersInspect, IsInspectedPut, PassesItself}

-- a check without and with a journal file
abbrev pub check_of : List ℕ → List ℕ → Option (List ℕ) → CheckAsked
check_of receipt id journal = record { receipt = receipt; id = id; journal = journal }

-- an audit
abbrev pub audit_of : List ℕ → ℕ → List ℕ → AuditAsked
audit_of receipt entry elf = record { receipt = receipt; entry = entry; elf = elf }

-- words of no command
abbrev pub IsCheckUsage : Status → List ℕ → Option Kept → Type 0
IsCheckUsage status lines kept = IsTold Words check_usage_lines status lines kept

-- ---- the answers
abbrev pub CheckJobTable : (List ℕ → List ℕ) → CheckJob → Option Files → Status → List ℕ → Option Kept → Type 0
CheckJobTable H (Check receipt id) told status lines kept = AnswersCheck H (check_of receipt id None) told status lines kept
CheckJobTable H (CheckInto receipt id journal) told status lines kept = AnswersCheck H (check_of receipt id (Some journal)) told status lines kept
CheckJobTable H (Audit receipt entry elf) told status lines kept = AnswersAudit H (audit_of receipt entry elf) told status lines kept
CheckJobTable H (Id elf) told status lines kept = AnswersId H elf told status lines kept
CheckJobTable H (Inspect receipt) told status lines kept = AnswersInspect H receipt told status lines kept

-- the words name a command, and this is answered of it
pub record IsCheckNamed (H : List ℕ → List ℕ) (words : List (List ℕ)) (told : Option Files) (status : Status) (lines : List ℕ) (kept : Option Kept) : Type 0 where
  pub job : CheckJob
  pub names : NamesCheck words job
  pub answers : CheckJobTable H job told status lines kept

abbrev pub CheckTable : (List ℕ → List ℕ) → List (List ℕ) → Option Files → Status → List ℕ → Option Kept → Type 0
CheckTable H words told status lines kept =
    (NamesNoCheck words × IsCheckUsage status lines kept)
    ⊎ IsCheckNamed H words told status lines kept

-- ---- status 0
abbrev pub IsDoneCheckJob : (List ℕ → List ℕ) → CheckJob → Option Files → Option Files → Option (List ℕ) → Option (List ℕ) → Type 0
IsDoneCheckJob H (Check receipt id) told told' taken taken' = IsCheckedPut H (check_of receipt id None) told told' taken taken'
IsDoneCheckJob H (CheckInto receipt id journal) told told' taken taken' = IsCheckedPut H (check_of receipt id (Some journal)) told told' taken taken'
IsDoneCheckJob H (Audit receipt entry elf) told told' taken taken' = IsSoundPut H (audit_of receipt entry elf) told told' taken taken'
IsDoneCheckJob H (Id elf) told told' taken taken' = IsIdentifiedPut H elf told told' taken taken'
IsDoneCheckJob H (Inspect receipt) told told' taken taken' = IsInspectedPut H receipt told told' taken taken'

pub record IsDoneCheck (H : List ℕ → List ℕ) (words : List (List ℕ)) (told told' : Option Files) (taken taken' : Option (List ℕ)) : Type 0 where
  pub job : CheckJob
  pub names : NamesCheck words job
  pub done : IsDoneCheckJob H job told told' taken taken'

-- ---- a collision
-- the words name an audit, which finds two strings with one digest
pub record IsCollision (H : List ℕ → List ℕ) (words : List (List ℕ)) (told told' : Option Files) (taken taken' : Option (List ℕ)) : Type 0 where
  pub receipt : List ℕ
  pub entry : ℕ
  pub elf : List ℕ
  pub names : NamesCheck words (Audit receipt entry elf)
  pub put : IsCollisionPut H (audit_of receipt entry elf) told told' taken taken'

-- ---- when it has to come
abbrev pub CompletesCheckJob : (List ℕ → List ℕ) → CheckJob → Files → Type 0
CompletesCheckJob H (Check receipt id) files = Passes H (check_of receipt id None) files
CompletesCheckJob H (CheckInto receipt id journal) files = Passes H (check_of receipt id (Some journal)) files
CompletesCheckJob H (Audit receipt entry elf) files = PassesAudit H (audit_of receipt entry elf) files
CompletesCheckJob H (Id elf) files = PassesTests elf files
CompletesCheckJob H (Inspect receipt) files = PassesItself H receipt files

pub record CompletesCheck (H : List ℕ → List ℕ) (words : List (List ℕ)) (told : Option Files) : Type 0 where
  pub job : CheckJob
  pub names : NamesCheck words job
  pub files : Files
  pub is_told : told ≡ Some files
  pub passes : CompletesCheckJob H job files

-- ---- when a read may fail
-- the words name a command
pub record NamesSomeCheck (words : List (List ℕ)) : Type 0 where
  pub job : CheckJob
  pub names : NamesCheck words job
