-- The answer to a job, from that of its command. H is the digest function.
use Rattle.std.proofs.Common.{◌≡◌, ℕ, List, [], Option, Result, sym, subst}
use Rattle.std.specs.Prelude.{MatchBool}
use Rattle.std.proofs.lemmas.Bool.{ne_eqb}
use Rattle.outside.specs.Files.{Files}
use Rattle.executor.specs.Segments.{Limits}
use Rattle.cli_text.specs.declared.prove_words.ProveJob.{ProveJob}
use Rattle.cli_text.specs.declared.prove_words.ProveJob.TheVariants as J
use Rattle.byte_cursor.specs.Growing.{Growing}
use Rattle.command_frame.specs.declared.end.Answer.{Answer}
use Rattle.command_frame.specs.declared.end.End.{End}
use Rattle.command_frame.specs.Ends.{Kept, IsEnded}
use Rattle.command_frame.proofs.Causes.{ended_wider}
use Rattle.cli_text.specs.declared.status.Status.{Status}
use Rattle.rv_step.specs.declared.limits.TheConstants.{LIMIT_MAX}
use Rattle.prove_calls.specs.Exec.{AnswersExec}
use Rattle.prove_calls.specs.Prove.{AnswersProve}
use Rattle.prove_calls.specs.Generate.{AnswersGenerate}
use Rattle.prove_calls.specs.Top.{IsProveUsage, limits, default_limits, exec_of, proof_of, generator_of, Alone, ProveJobTable, AnswersExecAlone}

-- ---- with no workers the words are those of a command, and with others of none
alone_is : (workers : ℕ) → workers ≡ 0 → (answers usage : Type 0) → answers → Alone workers answers usage
alone_is workers none answers usage given = subst (λ (n : ℕ). Alone n answers usage) (sym none) given

alone_other : (workers : ℕ) → (workers ≡ 0 → ⊥) → (answers usage : Type 0) → usage → Alone workers answers usage
alone_other workers some answers usage given = subst (λ b. MatchBool b answers usage) (sym (ne_eqb workers 0 some)) given

module _ (H : List ℕ → List ℕ) (told : Option Files) (outcome : Result Answer End) (job : ProveJob) where
  -- ---- `prove`
  module _ (elf input receipt : List ℕ) where
    pub default_job : job ≡ J.ProveDefault elf input receipt → (l : Limits) → l ≡ default_limits → IsEnded (AnswersProve H (proof_of elf input receipt l []) told) outcome
        → IsEnded (ProveJobTable H job told) outcome
    default_job is l same answers =
        subst (λ (j : ProveJob). IsEnded (ProveJobTable H j told) outcome) (sym is)
        (subst (λ (m : Limits). IsEnded (AnswersProve H (proof_of elf input receipt m []) told) outcome) same answers)

    module _ (cycles pages limit workers : ℕ) (others : Growing (List ℕ)) (is : job ≡ J.Prove elf input receipt cycles pages limit workers others) where
      abbrev table : Status → List ℕ → Option Kept → Type 0
      table = AnswersProve H (proof_of elf input receipt (limits cycles pages limit) others.items) told

      pub prove_job : workers ≡ 0 → (l : Limits) → l ≡ limits cycles pages limit → (names : List (List ℕ)) → names ≡ others.items
          → IsEnded (AnswersProve H (proof_of elf input receipt l names) told) outcome → IsEnded (ProveJobTable H job told) outcome
      prove_job none l same names are answers =
          subst (λ (j : ProveJob). IsEnded (ProveJobTable H j told) outcome) (sym is)
          (ended_wider table (ProveJobTable H (J.Prove elf input receipt cycles pages limit workers others) told)
          (λ status lines kept given. alone_is workers none (table status lines kept) (IsProveUsage status lines kept) given) outcome
          (subst (λ (ns : List (List ℕ)). IsEnded (AnswersProve H (proof_of elf input receipt (limits cycles pages limit) ns) told) outcome) are
          (subst (λ (m : Limits). IsEnded (AnswersProve H (proof_of elf input receipt m names) told) outcome) same answers)))

      pub prove_usage : (workers ≡ 0 → ⊥) → IsEnded IsProveUsage outcome → IsEnded (ProveJobTable H job told) outcome
      prove_usage some usage =
          subst (λ (j : ProveJob). IsEnded (ProveJobTable H j told) outcome) (sym is)
          (ended_wider IsProveUsage (ProveJobTable H (J.Prove elf input receipt cycles pages limit workers others) told)
          (λ status lines kept given. alone_other workers some (table status lines kept) (IsProveUsage status lines kept) given) outcome usage)

  -- ---- `exec`
  pub exec_job : (elf input : List ℕ) (limit : ℕ) → job ≡ J.Exec elf input limit → IsEnded (AnswersExec (exec_of elf input limit) told) outcome → IsEnded (ProveJobTable H job told) outcome
  exec_job elf input limit is answers = subst (λ (j : ProveJob). IsEnded (ProveJobTable H j told) outcome) (sym is) answers

  -- ---- `generate`
  module _ (number size cycles pages workers : ℕ) (is : job ≡ J.Generate number size cycles pages workers) where
    abbrev generated : Status → List ℕ → Option Kept → Type 0
    generated = AnswersGenerate H (generator_of number size cycles pages)

    pub generate_job : workers ≡ 0 → (l : Limits) → l ≡ limits cycles pages LIMIT_MAX → IsEnded (AnswersGenerate H (record { number = number; size = size; limits = l })) outcome
        → IsEnded (ProveJobTable H job told) outcome
    generate_job none l same answers =
        subst (λ (j : ProveJob). IsEnded (ProveJobTable H j told) outcome) (sym is)
        (ended_wider generated (ProveJobTable H (J.Generate number size cycles pages workers) told)
        (λ status lines kept given. alone_is workers none (generated status lines kept) (IsProveUsage status lines kept) given) outcome
        (subst (λ (m : Limits). IsEnded (AnswersGenerate H (record { number = number; size = size; limits = m })) outcome) same answers))

    pub generate_usage : (workers ≡ 0 → ⊥) → IsEnded IsProveUsage outcome → IsEnded (ProveJobTable H job told) outcome
    generate_usage some usage =
        subst (λ (j : ProveJob). IsEnded (ProveJobTable H j told) outcome) (sym is)
        (ended_wider IsProveUsage (ProveJobTable H (J.Generate number size cycles pages workers) told)
        (λ status lines kept given. alone_other workers some (generated status lines kept) (IsProveUsage status lines kept) given) outcome usage)

-- ---- where only `exec` is a command
pub exec_alone_job : (told : Option Files) (outcome : Result Answer End) (job : ProveJob) (elf input : List ℕ) (limit : ℕ) → job ≡ J.Exec elf input limit
    → IsEnded (AnswersExec (exec_of elf input limit) told) outcome → IsEnded (AnswersExecAlone job told) outcome
exec_alone_job told outcome job elf input limit is answers = subst (λ (j : ProveJob). IsEnded (AnswersExecAlone j told) outcome) (sym is) answers
