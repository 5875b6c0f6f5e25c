-- All commands of `zk_prove`, a row a command. H is the digest function.
use Rattle.std.specs.Prelude.{◌≡◌, ◌⊎◌, ⊤, ℕ, ◌==◌, List, [], MatchBool, Option, Some}
use Rattle.outside.specs.Files.{Files}
use Rattle.rv_step.specs.declared.limits.TheConstants.{LIMIT_MAX}
use Rattle.executor.specs.Segments.{Limits}
use Rattle.executor.specs.declared.limits.TheConstants.{DEFAULT_CYCLES, DEFAULT_PAGES, DEFAULT_LIMIT}
use Rattle.cli_text.specs.declared.prove_words.ProveJob.{ProveJob}
use Rattle.cli_text.specs.declared.prove_words.ProveJob.TheVariants as J
use Rattle.cli_text.specs.ProveWords.{NamesProve, NamesNoProve}
use Rattle.cli_text.specs.declared.status.Status.{Status}
use Rattle.cli_text.specs.declared.status.Status.TheVariants.{Words}
use Rattle.cli_text.specs.Usages.{prove_usage_lines}
use Rattle.command_frame.specs.Ends.{Kept}
use Rattle.command_frame.specs.Reading.{IsTold}
use Rattle.prove_calls.specs.Exec as Exec
use Rattle.prove_calls.specs.Prove as Prove
use Rattle.prove_calls.specs.Generate as Generate

abbrev pub IsProveUsage : Status → List ℕ → Option Kept → Type 0
IsProveUsage status lines kept = IsTold Words prove_usage_lines status lines kept

-- ---- what is asked
abbrev pub exec_of : List ℕ → List ℕ → ℕ → Exec.ExecAsked
exec_of elf input limit = record { elf = elf; input = input; limit = limit }

abbrev pub limits : ℕ → ℕ → ℕ → Limits
limits cycles pages limit = record { cycles = cycles; pages = pages; limit = limit }

abbrev pub default_limits : Limits
default_limits = limits DEFAULT_CYCLES DEFAULT_PAGES DEFAULT_LIMIT

abbrev pub proof_of : List ℕ → List ℕ → List ℕ → Limits → List (List ℕ) → Prove.ProofAsked
proof_of elf input receipt limits others = record { elf = elf; input = input; receipt = receipt; limits = limits; others = others }

abbrev pub generator_of : ℕ → ℕ → ℕ → ℕ → Generate.GeneratorAsked
generator_of number size cycles pages = record { number = number; size = size; limits = limits cycles pages LIMIT_MAX }

-- ---- the answers
-- there are no worker threads: with another number of them than 0 the words are those of no command
abbrev pub Alone : ℕ → Type 0 → Type 0 → Type 0
Alone workers answers usage = MatchBool (workers == 0) answers usage

abbrev pub ProveJobTable : (List ℕ → List ℕ) → ProveJob → Option Files → Status → List ℕ → Option Kept → Type 0
ProveJobTable H (J.ProveDefault elf input receipt) told status lines kept =
    Prove.AnswersProve H (proof_of elf input receipt default_limits []) told status lines kept
ProveJobTable H (J.Prove elf input receipt cycles pages limit workers others) told status lines kept =
    Alone workers (Prove.AnswersProve H (proof_of elf input receipt (limits cycles pages limit) others.items) told status lines kept)
    (IsProveUsage status lines kept)
ProveJobTable H (J.Exec elf input limit) told status lines kept = Exec.AnswersExec (exec_of elf input limit) told status lines kept
ProveJobTable H (J.Generate number size cycles pages workers) told status lines kept =
    Alone workers (Generate.AnswersGenerate H (generator_of number size cycles pages) status lines kept) (IsProveUsage status lines kept)

-- the words name a command, and this is answered of it
pub record IsProveNamed (H : List ℕ → List ℕ) (words : List (List ℕ)) (told : Option Files) (status : Status) (lines : List ℕ) (kept : Option Kept) : Type 0 where
  pub job : ProveJob
  pub names : NamesProve words job
  pub answers : ProveJobTable H job told status lines kept

abbrev pub ProveTable : (List ℕ → List ℕ) → List (List ℕ) → Option Files → Status → List ℕ → Option Kept → Type 0
ProveTable H words told status lines kept =
    (NamesNoProve words × IsProveUsage status lines kept)
    ⊎ IsProveNamed H words told status lines kept

-- ---- status 0
abbrev pub IsDoneProveJob : (List ℕ → List ℕ) → ProveJob → Option Files → Option Files → Option (List ℕ) → Option (List ℕ) → Type 0
IsDoneProveJob H (J.ProveDefault elf input receipt) told told' taken taken' =
    Prove.IsProofDone H (proof_of elf input receipt default_limits []) told told' taken taken'
IsDoneProveJob H (J.Prove elf input receipt cycles pages limit workers others) told told' taken taken' =
    Prove.IsProofDone H (proof_of elf input receipt (limits cycles pages limit) others.items) told told' taken taken'
IsDoneProveJob H (J.Exec elf input limit) told told' taken taken' = Exec.IsHalted (exec_of elf input limit) told told' taken taken'
IsDoneProveJob H (J.Generate number size cycles pages workers) told told' taken taken' =
    Generate.IsSummed H (generator_of number size cycles pages) told told' taken taken'

pub record IsDoneProve (H : List ℕ → List ℕ) (words : List (List ℕ)) (told told' : Option Files) (taken taken' : Option (List ℕ)) : Type 0 where
  pub job : ProveJob
  pub names : NamesProve words job
  pub done : IsDoneProveJob H job told told' taken taken'

-- ---- when it has to come
abbrev pub CompletesProveJob : (List ℕ → List ℕ) → ProveJob → Files → Type 0
CompletesProveJob H (J.ProveDefault elf input receipt) files = Prove.CompletesProof H (proof_of elf input receipt default_limits []) files
CompletesProveJob H (J.Prove elf input receipt cycles pages limit workers others) files =
    (workers ≡ 0) × Prove.CompletesProof H (proof_of elf input receipt (limits cycles pages limit) others.items) files
CompletesProveJob H (J.Exec elf input limit) files = Exec.CompletesExec (exec_of elf input limit) files
CompletesProveJob H (J.Generate number size cycles pages workers) files = (workers ≡ 0) × Generate.CompletesGenerate H (generator_of number size cycles pages)

pub record CompletesProve (H : List ℕ → List ℕ) (words : List (List ℕ)) (told : Option Files) : Type 0 where
  pub job : ProveJob
  pub names : NamesProve words job
  pub files : Files
  pub is_told : told ≡ Some files
  pub passes : CompletesProveJob H job files

-- ---- when a read may fail: where the job reads files
abbrev pub ProveReads : ProveJob → Type 0
ProveReads (J.ProveDefault elf input receipt) = ⊤
ProveReads (J.Prove elf input receipt cycles pages limit workers others) = workers ≡ 0
ProveReads (J.Exec elf input limit) = ⊤
ProveReads (J.Generate number size cycles pages workers) = ⊥

-- the words name a command
pub record NamesSomeProve (words : List (List ℕ)) : Type 0 where
  pub job : ProveJob
  pub names : NamesProve words job
  pub reads : ProveReads job

-- ---- `exec` alone, which needs no threads: words of another command are those of none
abbrev pub NamesExec : List (List ℕ) → List ℕ → List ℕ → ℕ → Type 0
NamesExec words elf input limit = NamesProve words (J.Exec elf input limit)

abbrev pub IsExec : ProveJob → Type 0
IsExec (J.Exec elf input limit) = ⊤
IsExec job = ⊥

-- the words name it
pub record NamesRun (words : List (List ℕ)) : Type 0 where
  pub elf : List ℕ
  pub input : List ℕ
  pub limit : ℕ
  pub names : NamesExec words elf input limit

abbrev pub AnswersExecAlone : ProveJob → Option Files → Status → List ℕ → Option Kept → Type 0
AnswersExecAlone (J.Exec elf input limit) told status lines kept = Exec.AnswersExec (exec_of elf input limit) told status lines kept
AnswersExecAlone job told status lines kept = IsProveUsage status lines kept

pub record IsExecNamed (words : List (List ℕ)) (told : Option Files) (status : Status) (lines : List ℕ) (kept : Option Kept) : Type 0 where
  pub named : NamesRun words
  pub answers : Exec.AnswersExec (exec_of named.elf named.input named.limit) told status lines kept

abbrev pub ExecTable : List (List ℕ) → Option Files → Status → List ℕ → Option Kept → Type 0
ExecTable words told status lines kept =
    ((NamesRun words → ⊥) × IsProveUsage status lines kept)
    ⊎ IsExecNamed words told status lines kept

pub record IsDoneExec (words : List (List ℕ)) (told told' : Option Files) (taken taken' : Option (List ℕ)) : Type 0 where
  pub named : NamesRun words
  pub done : Exec.IsHalted (exec_of named.elf named.input named.limit) told told' taken taken'

pub record CompletesExecWords (words : List (List ℕ)) (told : Option Files) : Type 0 where
  pub named : NamesRun words
  pub files : Files
  pub is_told : told ≡ Some files
  pub passes : Exec.CompletesExec (exec_of named.elf named.input named.limit) files
