-- `exec`: what it answers, a cause a row, in their order; what a status of 0 tells; and when that has to come.
use Rattle.std.specs.Prelude.{◌⊎◌, ℕ, ◌+◌, List, length, Option, Some, None}
use Rattle.outside.specs.Files.{Files}
use Rattle.page_core.specs.Images.{Image}
use Rattle.rv_step.specs.Machine.{State}
use Rattle.rv_step.specs.Runs.{start, run_cost, IsOutcome}
use Rattle.rv_step.specs.declared.outcome.Outcome.{Outcome}
use Rattle.rv_step.specs.declared.outcome.Outcome.TheVariants.{Halted, Faulted, OverLimit}
use Rattle.cli_text.specs.declared.status.Status.{Status}
use Rattle.cli_text.specs.declared.status.Status.TheVariants.{Done, Refused}
use Rattle.cli_text.specs.Runs.{halted_lines, faulted_lines, over_limit_lines}
use Rattle.command_frame.specs.Ends.{Kept, IsPut}
use Rattle.command_frame.specs.Reading.{IsTold}
use Rattle.prove_calls.specs.Guest.{HasGuest, HasNoGuest}

-- the names of an ELF file and of an input file, and the limit on the run's cost
pub record ExecAsked : Type 0 where
  pub elf : List ℕ
  pub input : List ℕ
  pub limit : ℕ

-- ---- the answers, in the order of their causes
-- the lines of a run that halts: its exit code, steps, cost, journal and number of assumptions
abbrev pub exec_lines : (s : State) (limit code : ℕ) → IsOutcome s limit (Halted code) → List ℕ
exec_lines s limit code ends =
    halted_lines code (ends.step + 1) (run_cost s (ends.step + 1)) ends.state.journal (length ends.state.calls)

-- the outcome of the run from s
abbrev pub Tells : (s : State) (limit : ℕ) (outcome : Outcome) → IsOutcome s limit outcome → Status → List ℕ → Option Kept → Type 0
Tells s limit (Halted code) ends status lines kept = IsTold Done (exec_lines s limit code ends) status lines kept
Tells s limit (Faulted fault pc step) ends status lines kept = IsTold Refused (faulted_lines step pc fault) status lines kept
Tells s limit (OverLimit step) ends status lines kept = IsTold Refused (over_limit_lines step) status lines kept

-- the outcome of the uncut run of an image and words is told
pub record IsExecuted (image : Image) (words : List ℕ) (limit : ℕ) (status : Status) (lines : List ℕ) (kept : Option Kept) : Type 0 where
  pub outcome : Outcome
  pub ends : IsOutcome (start image words) limit outcome
  pub tells : Tells (start image words) limit outcome ends status lines kept

-- the files hold a guest, and its outcome is told
pub record IsExecRun (asked : ExecAsked) (told : Option Files) (status : Status) (lines : List ℕ) (kept : Option Kept) : Type 0 where
  pub image : Image
  pub words : List ℕ
  pub guest : HasGuest asked.elf asked.input told image words
  pub executed : IsExecuted image words asked.limit status lines kept

abbrev pub AnswersExec : ExecAsked → Option Files → Status → List ℕ → Option Kept → Type 0
AnswersExec asked told status lines kept =
    HasNoGuest asked.elf asked.input told status lines kept
    ⊎ IsExecRun asked told status lines kept

-- ---- status 0
-- the files hold a guest whose uncut run halts within the limit
pub record Halts (asked : ExecAsked) (told : Option Files) : Type 0 where
  pub image : Image
  pub words : List ℕ
  pub guest : HasGuest asked.elf asked.input told image words
  pub code : ℕ
  pub ends : IsOutcome (start image words) asked.limit (Halted code)

-- and exactly its lines are put
pub record IsHalted (asked : ExecAsked) (told told' : Option Files) (taken taken' : Option (List ℕ)) : Type 0 where
  pub halts : Halts asked told
  pub put : IsPut None (exec_lines (start halts.image halts.words) asked.limit halts.code halts.ends) told told' taken taken'

-- it has to come where the files, as told, hold such a guest
abbrev pub CompletesExec : ExecAsked → Files → Type 0
CompletesExec asked files = Halts asked (Some files)
