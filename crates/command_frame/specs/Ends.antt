-- How a command ends, and what then stands of the files and the output. A tells which lines and which file come with a status.
use Rattle.std.specs.Prelude.{◌≡◌, ◌⊎◌, ⊤, ℕ, List, take, Option, Some, None, IsSome, Result, Ok, Err, option_map}
use Rattle.std.specs.Io.KnownBytes.{append_known}
use Rattle.outside.specs.Files.{Files, files_with}
use Rattle.cli_text.specs.declared.status.Status.{Status}
use Rattle.cli_text.specs.declared.status.Status.TheVariants as S
use Rattle.command_frame.specs.declared.end.Answer.{Answer}
use Rattle.command_frame.specs.declared.end.NewFile.{NewFile}
use Rattle.command_frame.specs.declared.end.End.{End}
use Rattle.command_frame.specs.declared.end.End.TheVariants.{Told, ReadFault, Memory}

-- a file that is written: its name, and what it then holds
pub record Kept : Type 0 where
  pub name : List ℕ
  pub bytes : List ℕ

-- the file of an answer, if there is one
abbrev pub new_file : Option NewFile → Option Kept
new_file file = option_map (λ f. record { name = f.name; bytes = f.bytes.items }) file

-- which status, lines and file are an answer of a command
abbrev pub Table : Type 1
Table = Status → List ℕ → Option Kept → Type 0

-- ---- before anything is written
-- the status of an answer, which is printed
abbrev pub IsPrinted : Status → Type 0
IsPrinted S.ReadFault = ⊥
IsPrinted S.WriteFault = ⊥
IsPrinted S.Memory = ⊥
IsPrinted status = ⊤

-- what is told is an answer; a silent end needs none
abbrev pub HasCause : Table → End → Type 0
HasCause A (Told answer) = A answer.status answer.lines.items (new_file answer.file) × IsPrinted answer.status
HasCause A ReadFault = ⊤
HasCause A Memory = ⊤

abbrev pub IsPrintedEnd : End → Type 0
IsPrintedEnd (Told answer) = IsPrinted answer.status
IsPrintedEnd ReadFault = ⊤
IsPrintedEnd Memory = ⊤

-- it writes a file
abbrev pub HasFile : End → Type 0
HasFile (Told answer) = IsSome answer.file
HasFile ReadFault = ⊥
HasFile Memory = ⊥

-- one of the answers writes a file
pub record MayWrite (A : Table) : Type 0 where
  pub status : Status
  pub lines : List ℕ
  pub kept : Kept
  pub answers : A status lines (Some kept)

-- ---- what stands after it
-- what is told of the files after a write
abbrev pub files_after : Option Kept → Option Files → Option Files
files_after None told = told
files_after (Some kept) told = option_map (files_with kept.name kept.bytes) told

-- the write failed: the name holds what it held or a prefix, and nothing is printed
pub record WriteFails (kept : Kept) (told told' : Option Files) (taken taken' : Option (List ℕ)) : Type 0 where
  pub held : (told' ≡ told) ⊎ ((k : ℕ) × (told' ≡ option_map (files_with kept.name (take k kept.bytes)) told))
  pub silent : taken' ≡ taken

abbrev pub MayFailWrite : Option Kept → Option Files → Option Files → Option (List ℕ) → Option (List ℕ) → Type 0
MayFailWrite None told told' taken taken' = ⊥
MayFailWrite (Some kept) told told' taken taken' = WriteFails kept told told' taken taken'

-- the write was done, and the put failed
pub record PutFails (kept : Option Kept) (lines : List ℕ) (told told' : Option Files) (taken taken' : Option (List ℕ)) : Type 0 where
  pub done : told' ≡ files_after kept told
  pub k : ℕ
  pub torn : taken' ≡ append_known taken (take k lines)

-- the file is written, and then the lines are put
pub record IsPut (kept : Option Kept) (lines : List ℕ) (told told' : Option Files) (taken taken' : Option (List ℕ)) : Type 0 where
  pub done : told' ≡ files_after kept told
  pub put : taken' ≡ append_known taken lines

-- nothing changes
pub record IsSilent (told told' : Option Files) (taken taken' : Option (List ℕ)) : Type 0 where
  pub files : told' ≡ told
  pub output : taken' ≡ taken

-- a write or a put of this answer failed
abbrev pub Fails : Option Kept → List ℕ → Option Files → Option Files → Option (List ℕ) → Option (List ℕ) → Type 0
Fails kept lines told told' taken taken' = MayFailWrite kept told told' taken taken' ⊎ PutFails kept lines told told' taken taken'

-- an end, and the status with which it is put
abbrev pub PutsEnd : End → Status → Option Files → Option Files → Option (List ℕ) → Option (List ℕ) → Type 0
PutsEnd ReadFault status told told' taken taken' = (status ≡ S.ReadFault) × IsSilent told told' taken taken'
PutsEnd Memory status told told' taken taken' = (status ≡ S.Memory) × IsSilent told told' taken taken'
PutsEnd (Told answer) status told told' taken taken' =
    ((status ≡ answer.status) × IsPut (new_file answer.file) answer.lines.items told told' taken taken')
    ⊎ ((status ≡ S.WriteFault) × Fails (new_file answer.file) answer.lines.items told told' taken taken')

-- an answer with this status
pub record IsAnswered (A : Table) (status : Status) : Type 0 where
  pub lines : List ℕ
  pub kept : Option Kept
  pub answers : A status lines kept

-- after a read fault and want of memory nothing changed; after a write fault the write or the put of an answer failed; and else the
-- file of an answer with the status is written, and the output has the whole of its lines
abbrev pub Ends : Table → Status → Option Files → Option Files → Option (List ℕ) → Option (List ℕ) → Type 0
Ends A S.ReadFault told told' taken taken' = IsSilent told told' taken taken'
Ends A S.Memory told told' taken taken' = IsSilent told told' taken taken'
Ends A S.WriteFault told told' taken taken' =
    (status : Status) × (answer : IsAnswered A status) × Fails answer.kept answer.lines told told' taken taken'
Ends A status told told' taken taken' =
    (answer : IsAnswered A status) × IsPut answer.kept answer.lines told told' taken taken'

-- the status of what is done, or of an end that is no answer
abbrev pub IsDoneOrFails : Status → Type 0
IsDoneOrFails S.Done = ⊤
IsDoneOrFails S.ReadFault = ⊤
IsDoneOrFails S.WriteFault = ⊤
IsDoneOrFails S.Memory = ⊤
IsDoneOrFails status = ⊥

-- ---- how the body of a command ends
abbrev pub end_of : Result Answer End → End
end_of (Ok answer) = Told answer
end_of (Err end) = end

abbrev pub IsEnded : Table → Result Answer End → Type 0
IsEnded A result = HasCause A (end_of result)
