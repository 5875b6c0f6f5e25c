-- The answers of a command, from those of its parts. H is the digest function.
use Rattle.std.proofs.Common.{◌≡◌, ℕ, ◌+◌, ◌<◌, ◌≤◌, List, [], length, Option, Some, None, inl, inr, refl, ap, ap₂, subst, ◌∙◌, Result}
use Rattle.outside.specs.Files.{Files}
use Rattle.page_core.specs.Images.{Image}
use Rattle.rv_step.specs.Runs.{run_cost, steps_done}
use Rattle.rv_step.specs.declared.outcome.Outcome.{Outcome}
use Rattle.rv_step.specs.declared.outcome.Outcome.TheVariants.{Halted}
use Rattle.executor.proofs.Outcomes.{one_outcome, same_step}
use Rattle.cli_text.specs.declared.status.Status.{Status}
use Rattle.cli_text.specs.Reports.{proved_lines}
use Rattle.command_frame.specs.declared.end.Answer.{Answer}
use Rattle.command_frame.specs.declared.end.End.{End}
use Rattle.command_frame.specs.Ends.{Kept, HasCause, IsEnded}
use Rattle.command_frame.specs.Reading.{IsRead, IsUnread, HasImage, HasNoImage}
use Rattle.command_frame.specs.declared.reading.TheConstants.{MOST_INPUT_BYTES, MOST_RECEIPT_BYTES}
use Rattle.command_frame.proofs.Causes.{cause_wider, ended_wider}
use Rattle.check_core.specs.Reports.{Report}
use Rattle.prove_calls.specs.declared.proof.Proof.{Proof}
use Rattle.prove_calls.specs.Guest.{IsInput, IsBadInput, HasGuest, HasNoGuest}
use Rattle.prove_calls.specs.Others.{HasBadOther}
use Rattle.prove_calls.specs.Exec as Exec
use Rattle.prove_calls.specs.Prove.{ProofAsked, Run, beginning, Proves, StopsRun, AnswersRun, HasRun, AnswersProve}
use Rattle.prove_calls.specs.Proofs.{run_of, IsProofOf, TellsProof}
use Rattle.receipt_types.specs.Bundles.{Bundle}
use Rattle.guest_gen.specs.Assembly.{IsAssembled}
use Rattle.guest_gen.specs.Generator.{generated_guest, input_words}
use Rattle.prove_calls.specs.Generating.{HasCost}
use Rattle.prove_calls.specs.Generate as Generate
use Rattle.elf_image.specs.Loaded.{Loads}
use Rattle.elf_image.proofs.Unique.{one_image}
use Rattle.cli_text.specs.declared.status.Status.TheVariants.{Done}
use Rattle.cli_text.specs.Reports.{generated_lines}

-- ---- a guest
module _ (elf input : List ℕ) (told : Option Files) where
  pub no_image : (end : End) → HasCause (HasNoImage elf told) end → HasCause (HasNoGuest elf input told) end
  no_image end = cause_wider (HasNoImage elf told) (HasNoGuest elf input told) (λ status lines kept none. inl none) end

  module _ (image : Image) (loads : HasImage elf told image) where
    pub no_input : (end : End) → HasCause (IsUnread MOST_INPUT_BYTES input told) end → HasCause (HasNoGuest elf input told) end
    no_input end =
        cause_wider (IsUnread MOST_INPUT_BYTES input told) (HasNoGuest elf input told) (λ status lines kept none. inr (record { image = image; loads = loads; none = inl none })) end

    module _ (bytes : List ℕ) (read : IsRead MOST_INPUT_BYTES input told bytes) where
      pub bad_input : (end : End) → HasCause (IsBadInput bytes) end → HasCause (HasNoGuest elf input told) end
      bad_input end =
          cause_wider (IsBadInput bytes) (HasNoGuest elf input told)
          (λ status lines kept bad. inr (record { image = image; loads = loads; none = inr (record { bytes = bytes; is_read = read; bad = bad }) })) end

      pub one_guest : (words : List ℕ) → IsInput bytes words → HasGuest elf input told image words
      one_guest words is = record { loads = loads; reads = record { bytes = bytes; is_read = read; is_input = is } }

-- the same names
module _ (elf elf' input input' : List ℕ) (same_elf : elf ≡ elf') (same_input : input ≡ input') (told : Option Files) where
  pub guest_named : (image : Image) (words : List ℕ) → HasGuest elf input told image words → HasGuest elf' input' told image words
  guest_named image words guest =
      subst (λ (name : List ℕ). HasGuest elf' name told image words) same_input (subst (λ (name : List ℕ). HasGuest name input told image words) same_elf guest)

  pub none_named : (end : End) → HasCause (HasNoGuest elf input told) end → HasCause (HasNoGuest elf' input' told) end
  none_named end none =
      subst (λ (name : List ℕ). HasCause (HasNoGuest elf' name told) end) same_input (subst (λ (name : List ℕ). HasCause (HasNoGuest name input told) end) same_elf none)

-- ---- `exec`
module _ (asked : Exec.ExecAsked) (told : Option Files) where
  pub exec_none : (end : End) → HasCause (HasNoGuest asked.elf asked.input told) end → HasCause (Exec.AnswersExec asked told) end
  exec_none end = cause_wider (HasNoGuest asked.elf asked.input told) (Exec.AnswersExec asked told) (λ status lines kept none. inl none) end

  pub exec_run : (image : Image) (words : List ℕ) → HasGuest asked.elf asked.input told image words → (outcome : Result Answer End) → IsEnded (Exec.IsExecuted image words asked.limit) outcome
      → IsEnded (Exec.AnswersExec asked told) outcome
  exec_run image words guest outcome =
      ended_wider (Exec.IsExecuted image words asked.limit) (Exec.AnswersExec asked told)
      (λ status lines kept executed. inr (record { image = image; words = words; guest = guest; executed = executed })) outcome

-- ---- `prove`
module _ (H : List ℕ → List ℕ) (asked : ProofAsked) (told : Option Files) where
  pub prove_none : (end : End) → HasCause (HasNoGuest asked.elf asked.input told) end → HasCause (AnswersProve H asked told) end
  prove_none end = cause_wider (HasNoGuest asked.elf asked.input told) (AnswersProve H asked told) (λ status lines kept none. inl none) end

  pub prove_without : (image : Image) (words : List ℕ) → HasGuest asked.elf asked.input told image words → (end : End) → HasCause (HasBadOther H told asked.others) end
      → HasCause (AnswersProve H asked told) end
  prove_without image words guest end =
      cause_wider (HasBadOther H told asked.others) (AnswersProve H asked told)
      (λ status lines kept bad. inr (inl (record { image = image; words = words; guest = guest; bad = bad }))) end

  module _ (run : Run) (has : HasRun H asked told run) where
    of_run : (status : Status) (lines : List ℕ) (kept : Option Kept) → AnswersRun H asked.receipt run status lines kept → AnswersProve H asked told status lines kept
    of_run status lines kept answers = inr (inr (record { run = run; has = has; answers = answers }))

    pub prove_stops : (end : End) → HasCause (StopsRun H run) end → HasCause (AnswersProve H asked told) end
    prove_stops end = cause_wider (StopsRun H run) (AnswersProve H asked told) (λ status lines kept stops. of_run status lines kept (inl stops)) end

    module _ (proof : Proof) (is : IsProofOf H run proof) where
      tells_run : (status : Status) (lines : List ℕ) (kept : Option Kept) → TellsProof asked.receipt proof status lines kept → AnswersRun H asked.receipt run status lines kept
      tells_run status lines kept (inl long) =
          inr (inl (record { proves = is.proves; beyond = subst (λ (bytes : List ℕ). MOST_RECEIPT_BYTES < length bytes) is.bytes_are long.beyond; told = long.told }))
      tells_run status lines kept (inr written) =
          inr (inr (record {
            proves = is.proves;
            within = subst (λ (bytes : List ℕ). length bytes ≤ MOST_RECEIPT_BYTES) is.bytes_are written.within;
            status_is = written.status_is;
            lines_are = written.lines_are ∙ ap₂ (λ (report : Report) (bytes : List ℕ). proved_lines report (length bytes)) is.report_is is.bytes_are;
            kept_is = written.kept_is ∙ ap (λ (bytes : List ℕ). Some (record { name = asked.receipt; bytes = bytes })) is.bytes_are;
          }))

      pub prove_told : (outcome : Result Answer End) → IsEnded (TellsProof asked.receipt proof) outcome → IsEnded (AnswersProve H asked told) outcome
      prove_told outcome =
          ended_wider (TellsProof asked.receipt proof) (AnswersProve H asked told) (λ status lines kept tells. of_run status lines kept (tells_run status lines kept tells)) outcome

-- ---- the cost of a run that is proved
pub proved_cost : (H : List ℕ → List ℕ) (run : Run) (proves : Proves H run) (cycles : ℕ) → HasCost run.image run.words run.limits.limit cycles → cycles ≡ run_cost (beginning run) (proves.ends.step + 1)
proved_cost H run proves cycles cost =
    let same : cost.outcome ≡ Halted proves.code = one_outcome (beginning run) run.limits.limit cost.outcome (Halted proves.code) cost.ends proves.ends in
    let step : cost.ends.step ≡ proves.ends.step = same_step (beginning run) run.limits.limit cost.outcome (Halted proves.code) cost.ends proves.ends in
    cost.cost ∙ ap₂ (λ (k : ℕ) (o : Outcome). run_cost (beginning run) (steps_done k o)) step same

-- ---- `generate`
-- what was generated and loaded, with no other receipts
pub is_generated : (asked : Generate.GeneratorAsked) (elf : List ℕ) → IsAssembled (generated_guest asked.size) elf → (image : Image) (file : List ℕ) → file ≡ elf → Loads file image
    → (words : List ℕ) → words ≡ input_words asked.number asked.size → (others : List Bundle) → others ≡ [] → Generate.IsGenerated asked elf (run_of image words asked.limits others)
is_generated asked elf assembled image file same loads words words_are others none =
    record { assembled = assembled; loads = subst (λ (f : List ℕ). Loads f image) same loads; words = words_are; limits = refl; alone = none }

module _ (H : List ℕ → List ℕ) (asked : Generate.GeneratorAsked) (elf : List ℕ) (run : Run) (generated : Generate.IsGenerated asked elf run) where
  pub generate_stops : (end : End) → HasCause (StopsRun H run) end → HasCause (Generate.AnswersGenerate H asked) end
  generate_stops end =
      cause_wider (StopsRun H run) (Generate.AnswersGenerate H asked)
      (λ status lines kept stops. record { elf = elf; run = run; generated = generated; answers = inl stops }) end

  -- the file was loaded once more, for what the run costs
  module _ (proof : Proof) (is : IsProofOf H run proof) (image : Image) (loads : Loads elf image) (words : List ℕ) (words_are : words ≡ run.words) where
    same_cost : (cycles : ℕ) → HasCost image words run.limits.limit cycles → cycles ≡ run_cost (beginning run) (is.proves.ends.step + 1)
    same_cost cycles cost =
        proved_cost H run is.proves cycles
        (subst (λ (w : List ℕ). HasCost run.image w run.limits.limit cycles) words_are
        (subst (λ (i : Image). HasCost i words run.limits.limit cycles) (one_image elf image run.image loads generated.loads) cost))

    pub generate_told : (cycles : ℕ) → HasCost image words run.limits.limit cycles → (lines : List ℕ)
        → lines ≡ generated_lines asked.number asked.size (length elf) (length words) cycles proof.report (length proof.receipt.items) → Generate.AnswersGenerate H asked Done lines None
    generate_told cycles cost lines text =
        let input : length words ≡ length run.words = ap length words_are in
        let costs = same_cost cycles cost in
        record {
          elf = elf;
          run = run;
          generated = generated;
          answers = inr (record {
            proves = is.proves;
            told = record {
              status_is = refl;
              lines_are =
                  text
                  ∙ ap₂ (λ (n c : ℕ). generated_lines asked.number asked.size (length elf) n c proof.report (length proof.receipt.items)) input costs
                  ∙ ap₂ (λ (report : Report) (bytes : List ℕ). generated_lines asked.number asked.size (length elf) (length run.words) (run_cost (beginning run) (is.proves.ends.step + 1)) report (length bytes))
                  is.report_is is.bytes_are;
              nothing_kept = refl;
            };
          });
        }
