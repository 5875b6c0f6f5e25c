-- The answers of `exec` with a status of 0: which runs they tell, and when they have to come.
use Rattle.std.proofs.Common.{◌≡◌, ℕ, List, Option, Some, None, inl, inr, subst}
use Rattle.outside.specs.Files.{Files}
use Rattle.page_core.specs.Images.{Image}
use Rattle.rv_step.specs.Machine.{State}
use Rattle.rv_step.specs.Runs.{start, IsOutcome}
use Rattle.rv_step.specs.declared.outcome.Outcome.{Outcome}
use Rattle.rv_step.specs.declared.outcome.Outcome.TheVariants.{Halted, Faulted, OverLimit}
use Rattle.executor.proofs.Outcomes.{one_outcome}
use Rattle.cli_text.specs.declared.status.Status.{Status}
use Rattle.cli_text.specs.declared.status.Status.TheVariants.{Done}
use Rattle.command_frame.specs.Ends.{Kept, IsPut}
use Rattle.prove_calls.specs.Exec.{ExecAsked, Tells, IsExecuted, IsExecRun, AnswersExec, IsHalted, CompletesExec}
use Rattle.prove_calls.proofs.Held.{same_guest, not_no_guest}
use Rattle.prove_calls.proofs.Done.{put_same, not_refused, no_guest_done}

-- ---- what a status of 0 tells
module _ (asked : ExecAsked) (told told' : Option Files) (taken taken' : Option (List ℕ)) (lines : List ℕ) (kept : Option Kept) (put : IsPut kept lines told told' taken taken') where
  of_run : IsExecRun asked told Done lines kept → IsHalted asked told told' taken taken'
  of_run run = of_outcome run.executed.outcome run.executed.ends run.executed.tells
    where
      of_outcome : (o : Outcome) (ends : IsOutcome (start run.image run.words) asked.limit o) → Tells (start run.image run.words) asked.limit o ends Done lines kept → IsHalted asked told told' taken taken'
      of_outcome (Halted code) ends tells = record {
        halts = record { image = run.image; words = run.words; guest = run.guest; code = code; ends = ends };
        put = put_same lines _ kept None told told' taken taken' tells.lines_are tells.nothing_kept put;
      }
      of_outcome (Faulted fault pc step) ends tells = not_refused _ lines kept tells
      of_outcome (OverLimit step) ends tells = not_refused _ lines kept tells

  pub exec_done : AnswersExec asked told Done lines kept → IsHalted asked told told' taken taken'
  exec_done (inl none) = no_guest_done asked.elf asked.input told lines kept none
  exec_done (inr run) = of_run run

-- ---- when it has to come
told_halt : (s : State) (limit code : ℕ) (o : Outcome) (ends : IsOutcome s limit o) → o ≡ Halted code → (status : Status) (lines : List ℕ) (kept : Option Kept) → Tells s limit o ends status lines kept → status ≡ Done
told_halt s limit code (Halted other) ends is status lines kept tells = tells.status_is
told_halt s limit code (Faulted fault pc step) ends is status lines kept tells = absurd (cc)
told_halt s limit code (OverLimit step) ends is status lines kept tells = absurd (cc)

executed_halt : (image : Image) (words : List ℕ) (limit code : ℕ) → IsOutcome (start image words) limit (Halted code) → (status : Status) (lines : List ℕ) (kept : Option Kept)
    → IsExecuted image words limit status lines kept → status ≡ Done
executed_halt image words limit code ends status lines kept x =
    told_halt (start image words) limit code x.outcome x.ends (one_outcome (start image words) limit x.outcome (Halted code) x.ends ends) status lines kept x.tells

pub exec_complete : (asked : ExecAsked) (files : Files) → CompletesExec asked files → (status : Status) (lines : List ℕ) (kept : Option Kept) → AnswersExec asked (Some files) status lines kept → status ≡ Done
exec_complete asked files halts status lines kept (inl none) =
    absurd (not_no_guest asked.elf asked.input files halts.image halts.words halts.guest status lines kept none)
exec_complete asked files halts status lines kept (inr run) =
    let same = same_guest asked.elf asked.input files halts.image run.image halts.words run.words halts.guest run.guest in
    executed_halt halts.image halts.words asked.limit halts.code halts.ends status lines kept
    (subst (λ (words : List ℕ). IsExecuted halts.image words asked.limit status lines kept) same.words_are
    (subst (λ (image : Image). IsExecuted image run.words asked.limit status lines kept) same.image_is run.executed))
