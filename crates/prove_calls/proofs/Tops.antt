-- What stands after the words of a program, by the command that they name. H is the digest function.
use Rattle.std.proofs.Common.{◌≡◌, ℕ, ◌==◌, Bool, true, false, List, [], Option, Some, inl, inr, sym, subst, arith}
use Rattle.std.specs.Prelude.{MatchBool}
use Rattle.outside.specs.Files.{Files}
use Rattle.executor.specs.Laws.{AreLimits}
use Rattle.cli_text.specs.declared.prove_words.ProveJob.{ProveJob}
use Rattle.cli_text.specs.declared.prove_words.ProveJob.TheVariants as J
use Rattle.cli_text.specs.ProveWords.{NamesProve, NamesNoProve, without_room}
use Rattle.cli_text.proofs.OneProve.{one_job}
use Rattle.rv_step.specs.declared.limits.TheConstants.{LIMIT_MAX}
use Rattle.rv_step.specs.Limits.{IsCycleLimit, IsPageLimit, IsLimit}
use Rattle.cli_text.specs.declared.status.Status.{Status}
use Rattle.cli_text.specs.declared.status.Status.TheVariants as S
use Rattle.command_frame.specs.Ends.{Kept, IsPut, Ends}
use Rattle.command_frame.proofs.After.{done_by}
use Rattle.prove_calls.specs.Exec.{AnswersExec}
use Rattle.prove_calls.specs.Prove.{AnswersProve}
use Rattle.prove_calls.specs.Generate.{AnswersGenerate}
use Rattle.prove_calls.specs.Top.{IsProveUsage, exec_of, limits, default_limits, proof_of, generator_of, Alone, ProveJobTable, ProveTable, IsDoneProveJob, IsDoneProve, CompletesProveJob, CompletesProve, NamesRun, IsExec, AnswersExecAlone, ExecTable, IsDoneExec, CompletesExecWords}
use Rattle.prove_calls.proofs.Done.{not_usage}
use Rattle.prove_calls.proofs.Executed.{exec_done, exec_complete}
use Rattle.prove_calls.proofs.Completed.{prove_done, prove_complete}
use Rattle.prove_calls.proofs.Generated.{generate_done, generate_complete}

-- ---- limits in their ranges
pub are_limits : (cycles pages limit : ℕ) → IsCycleLimit cycles → IsPageLimit pages → IsLimit limit → AreLimits (limits cycles pages limit)
are_limits cycles pages limit c p l = record { least_cycles = c.0; most_cycles = c.1; least_pages = p.0; most_pages = p.1; least_limit = l.0; most_limit = l.1 }

pub default_cycles : IsCycleLimit default_limits.cycles
default_cycles = (omega arith, omega arith)

pub default_pages : IsPageLimit default_limits.pages
default_pages = (omega arith, omega arith)

pub default_limit : IsLimit default_limits.limit
default_limit = (omega arith, omega arith)

-- ---- what a status of 0 tells
module _ (H : List ℕ → List ℕ) (told told' : Option Files) (taken taken' : Option (List ℕ)) (lines : List ℕ) (kept : Option Kept) (put : IsPut kept lines told told' taken taken') where
  alone_done : (D : Type 0) (workers : ℕ) (answers : Type 0) → (answers → D) → Alone workers answers (IsProveUsage S.Done lines kept) → D
  alone_done D workers answers done of = of_bool (workers == 0) of
    where
      of_bool : (b : Bool) → MatchBool b answers (IsProveUsage S.Done lines kept) → D
      of_bool true given = done given
      of_bool false usage = not_usage _ lines kept usage

  job_done : (job : ProveJob) → ProveJobTable H job told S.Done lines kept → IsDoneProveJob H job told told' taken taken'
  job_done (J.ProveDefault elf input receipt) answers = prove_done H (proof_of elf input receipt default_limits []) told told' taken taken' lines kept put answers
  job_done (J.Prove elf input receipt cycles pages limit workers others) answers =
      alone_done _ workers (AnswersProve H (proof_of elf input receipt (limits cycles pages limit) others.items) told S.Done lines kept)
      (prove_done H (proof_of elf input receipt (limits cycles pages limit) others.items) told told' taken taken' lines kept put) answers
  job_done (J.Exec elf input limit) answers = exec_done (exec_of elf input limit) told told' taken taken' lines kept put answers
  job_done (J.Generate number size cycles pages workers) answers =
      alone_done _ workers (AnswersGenerate H (generator_of number size cycles pages) S.Done lines kept)
      (generate_done H (generator_of number size cycles pages) told told' taken taken' lines kept put) answers

  all_done : (words : List (List ℕ)) → ProveTable H words told S.Done lines kept → IsDoneProve H words told told' taken taken'
  all_done words (inl usage) = not_usage _ lines kept usage.1
  all_done words (inr some) = record { job = some.job; names = some.names; done = job_done some.job some.answers }

  alone_run_done : (words : List (List ℕ)) → ExecTable words told S.Done lines kept → IsDoneExec words told told' taken taken'
  alone_run_done words (inl usage) = not_usage _ lines kept usage.1
  alone_run_done words (inr run) = record {
    named = run.named;
    done = exec_done (exec_of run.named.elf run.named.input run.named.limit) told told' taken taken' lines kept put run.answers;
  }

pub is_done : (H : List ℕ → List ℕ) (words : List (List ℕ)) (status : Status) (told told' : Option Files) (taken taken' : Option (List ℕ)) → status ≡ S.Done
    → Ends (ProveTable H words told) status told told' taken taken' → IsDoneProve H words told told' taken taken'
is_done H words status told told' taken taken' done ends =
    let held = done_by (ProveTable H words told) status told told' taken taken' done ends in
    all_done H told told' taken taken' held.lines held.kept held.put words held.answers

pub is_run_done : (words : List (List ℕ)) (status : Status) (told told' : Option Files) (taken taken' : Option (List ℕ)) → status ≡ S.Done
    → Ends (ExecTable words told) status told told' taken taken' → IsDoneExec words told told' taken taken'
is_run_done words status told told' taken taken' done ends =
    let held = done_by (ExecTable words told) status told told' taken taken' done ends in
    alone_run_done (λ bytes. bytes) told told' taken taken' held.lines held.kept held.put words held.answers

-- ---- when it has to come
alone_only : (workers : ℕ) → workers ≡ 0 → (answers usage : Type 0) → Alone workers answers usage → answers
alone_only workers none answers usage of = subst (λ (n : ℕ). Alone n answers usage) none of

module _ (H : List ℕ → List ℕ) (files : Files) where
  job_complete : (job : ProveJob) (words : List (List ℕ)) → NamesProve words job → CompletesProveJob H job files → (status : Status) (lines : List ℕ) (kept : Option Kept)
      → ProveJobTable H job (Some files) status lines kept → status ≡ S.Done
  job_complete (J.ProveDefault elf input receipt) words names passes status lines kept answers =
      prove_complete H (proof_of elf input receipt default_limits []) (are_limits default_limits.cycles default_limits.pages default_limits.limit default_cycles default_pages default_limit) files passes status lines kept
      answers
  job_complete (J.Prove elf input receipt cycles pages limit workers others) words names passes status lines kept answers =
      let asked = proof_of elf input receipt (limits cycles pages limit) others.items in
      let (is, name_elf, name_input, name_receipt, are_cycles, are_pages, is_limit, are_workers, name_others) = names in
      prove_complete H asked (are_limits cycles pages limit are_cycles are_pages is_limit) files passes.1 status lines kept
      (alone_only workers passes.0 (AnswersProve H asked (Some files) status lines kept) (IsProveUsage status lines kept) answers)
  job_complete (J.Exec elf input limit) words names passes status lines kept answers = exec_complete (exec_of elf input limit) files passes status lines kept answers
  job_complete (J.Generate number size cycles pages workers) words names passes status lines kept answers =
      let (is, small, sized, are_cycles, are_pages, rest) = names in
      generate_complete H (generator_of number size cycles pages) (are_limits cycles pages LIMIT_MAX are_cycles are_pages (omega arith, omega arith)) passes.1 status lines kept
      (alone_only workers passes.0 (AnswersGenerate H (generator_of number size cycles pages) status lines kept) (IsProveUsage status lines kept) answers)

  -- how much room a list of names has makes no difference
  leave_room : (job : ProveJob) → CompletesProveJob H job files → CompletesProveJob H (without_room job) files
  leave_room (J.ProveDefault elf input receipt) passes = passes
  leave_room (J.Prove elf input receipt cycles pages limit workers others) passes = passes
  leave_room (J.Exec elf input limit) passes = passes
  leave_room (J.Generate number size cycles pages workers) passes = passes

  with_room : (job : ProveJob) → CompletesProveJob H (without_room job) files → CompletesProveJob H job files
  with_room (J.ProveDefault elf input receipt) passes = passes
  with_room (J.Prove elf input receipt cycles pages limit workers others) passes = passes
  with_room (J.Exec elf input limit) passes = passes
  with_room (J.Generate number size cycles pages workers) passes = passes

pub is_complete : (H : List ℕ → List ℕ) (words : List (List ℕ)) (told : Option Files) → CompletesProve H words told → (status : Status) (lines : List ℕ) (kept : Option Kept)
    → ProveTable H words told status lines kept → status ≡ S.Done
is_complete H words told all status lines kept (inl usage) = absurd (usage.0 all.job all.names)
is_complete H words told all status lines kept (inr some) =
    let same : without_room all.job ≡ without_room some.job = one_job words all.job some.job all.names some.names in
    job_complete H all.files some.job words some.names
    (with_room H all.files some.job (subst (λ (job : ProveJob). CompletesProveJob H job all.files) same (leave_room H all.files all.job all.passes))) status lines kept
    (subst (λ (t : Option Files). ProveJobTable H some.job t status lines kept) all.is_told some.answers)

-- ---- `exec` alone
-- words of another job don't name it
not_exec : (words : List (List ℕ)) (job : ProveJob) → NamesProve words job → (IsExec (without_room job) → ⊥) → NamesRun words → ⊥
not_exec words job names other run =
    other (subst IsExec (sym (one_job words job (J.Exec run.elf run.input run.limit) names run.names)) tt)

pub exec_alone : (words : List (List ℕ)) (told : Option Files) (job : ProveJob) → NamesProve words job → (status : Status) (lines : List ℕ) (kept : Option Kept)
    → AnswersExecAlone job told status lines kept → ExecTable words told status lines kept
exec_alone words told (J.Exec elf input limit) names status lines kept answers =
    inr (record { named = record { elf = elf; input = input; limit = limit; names = names }; answers = answers })
exec_alone words told (J.ProveDefault elf input receipt) names status lines kept answers = inl (not_exec words (J.ProveDefault elf input receipt) names (λ is. is), answers)
exec_alone words told (J.Prove elf input receipt cycles pages limit workers others) names status lines kept answers =
    inl (not_exec words (J.Prove elf input receipt cycles pages limit workers others) names (λ is. is), answers)
exec_alone words told (J.Generate number size cycles pages workers) names status lines kept answers = inl (not_exec words (J.Generate number size cycles pages workers) names (λ is. is), answers)

pub no_job_alone : (words : List (List ℕ)) (told : Option Files) → NamesNoProve words → (status : Status) (lines : List ℕ) (kept : Option Kept) → IsProveUsage status lines kept → ExecTable words told status lines kept
no_job_alone words told none status lines kept usage = inl (λ run. none (J.Exec run.elf run.input run.limit) run.names, usage)

pub names_run : (words : List (List ℕ)) (job : ProveJob) → NamesProve words job → IsExec job → NamesRun words
names_run words (J.Exec elf input limit) names is = record { elf = elf; input = input; limit = limit; names = names }
names_run words (J.ProveDefault elf input receipt) names is = absurd is
names_run words (J.Prove elf input receipt cycles pages limit workers others) names is = absurd is
names_run words (J.Generate number size cycles pages workers) names is = absurd is

-- the run that the words name is the one that is asked for
same_asked : (words : List (List ℕ)) (x y : NamesRun words) → exec_of x.elf x.input x.limit ≡ exec_of y.elf y.input y.limit
same_asked words x y = asked (one_job words (J.Exec x.elf x.input x.limit) (J.Exec y.elf y.input y.limit) x.names y.names)
  where
    asked : J.Exec x.elf x.input x.limit ≡ J.Exec y.elf y.input y.limit → exec_of x.elf x.input x.limit ≡ exec_of y.elf y.input y.limit
    asked same =
        let elf : x.elf ≡ y.elf = cc in
        let input : x.input ≡ y.input = cc in
        let limit : x.limit ≡ y.limit = cc in
        λ i. exec_of (elf i) (input i) (limit i)

pub is_run_complete : (words : List (List ℕ)) (told : Option Files) → CompletesExecWords words told → (status : Status) (lines : List ℕ) (kept : Option Kept)
    → ExecTable words told status lines kept → status ≡ S.Done
is_run_complete words told all status lines kept (inl usage) = absurd (usage.0 all.named)
is_run_complete words told all status lines kept (inr run) =
    exec_complete (exec_of all.named.elf all.named.input all.named.limit) all.files all.passes status lines kept
    (subst (λ asked. AnswersExec asked (Some all.files) status lines kept) (same_asked words run.named all.named)
    (subst (λ (t : Option Files). AnswersExec (exec_of run.named.elf run.named.input run.named.limit) t status lines kept) all.is_told run.answers))

-- ---- words and their jobs
pub answers_some : (H : List ℕ → List ℕ) (words : List (List ℕ)) (told : Option Files) (job : ProveJob) → NamesProve words job → (status : Status) (lines : List ℕ) (kept : Option Kept)
    → ProveJobTable H job told status lines kept → ProveTable H words told status lines kept
answers_some H words told job names status lines kept answers = inr (record { job = job; names = names; answers = answers })

-- ---- how a body ends
