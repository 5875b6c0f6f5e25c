-- The answers to a proof with a status of 0: what they tell, and when they have to come. H is the digest function.
use Rattle.std.proofs.Common.{◌≡◌, ℕ, ◌<◌, ◌≤◌, List, length, Option, Some, inl, inr, refl, sym, ap, subst, ◌∙◌, arith}
use Rattle.std.specs.Prelude.{option_and_then}
use Rattle.std.proofs.lemmas.Option.{same_Some}
use Rattle.outside.specs.Files.{Files}
use Rattle.page_core.specs.Memory.{top}
use Rattle.page_core.proofs.Zeros.{get_or-same}
use Rattle.page_core.specs.Images.{Image}
use Rattle.rv_step.specs.Runs.{start, IsOutcome}
use Rattle.rv_step.specs.Laws.{IsReady}
use Rattle.rv_step.specs.declared.outcome.Outcome.{Outcome}
use Rattle.rv_step.specs.declared.outcome.Outcome.TheVariants.{Halted, Faulted, OverLimit}
use Rattle.host_calls.specs.declared.call.AssumeCall.{AssumeCall}
use Rattle.claim_types.specs.Claims.{SpanClaim}
use Rattle.elf_image.specs.Loaded.{Loads}
use Rattle.elf_image.proofs.Entries.{loaded_aligned, loaded_below}
use Rattle.receipt_types.specs.Bundles.{Bundle}
use Rattle.receipt_types.specs.Spelling.{bundle_bytes}
use Rattle.resolve.specs.Resolving.{StopsResolve}
use Rattle.executor.specs.Segments.{lengths}
use Rattle.executor.specs.Laws.{AreLimits}
use Rattle.executor.specs.Proving.{cut_seals}
use Rattle.executor.proofs.Outcomes.{one_outcome}
use Rattle.session.proofs.Chains.{segments_chain}
use Rattle.cli_text.specs.declared.status.Status.{Status}
use Rattle.cli_text.specs.declared.status.Status.TheVariants.{Done}
use Rattle.command_frame.specs.Ends.{Kept, IsPut}
use Rattle.command_frame.specs.declared.reading.TheConstants.{MOST_RECEIPT_BYTES}
use Rattle.prove_calls.specs.Prove.{ProofAsked, Run, beginning, bundle_with, bundle_of, Proves, TellsStop, IsUnresolved, StopsRun, AnswersRun, HasRun, AnswersProve, IsProofDone, CanProve, CompletesProof}
use Rattle.prove_calls.proofs.Held.{same_guest, not_no_guest}
use Rattle.prove_calls.proofs.Done.{put_same, not_refused, not_too_long, no_guest_done}
use Rattle.prove_calls.proofs.Received.{same_others, not_bad_other, bad_other_done}
use Rattle.prove_calls.proofs.Linked.{not_stopped}

-- ---- a run that is refused has no status of 0
pub stops_done : {A : Type 0} (H : List ℕ → List ℕ) (run : Run) (lines : List ℕ) (kept : Option Kept) → StopsRun H run Done lines kept → A
stops_done H run lines kept (inl many) = not_refused _ lines kept many.told
stops_done {A} H run lines kept (inr stopped) = of_outcome stopped.outcome stopped.ends stopped.tells
  where
    of_outcome : (o : Outcome) (ends : IsOutcome (beginning run) run.limits.limit o) → TellsStop H run o ends Done lines kept → A
    of_outcome (Halted code) ends unresolved = not_refused _ lines kept unresolved.told
    of_outcome (Faulted fault pc step) ends tells = not_refused _ lines kept tells
    of_outcome (OverLimit step) ends tells = not_refused _ lines kept tells

-- ---- what a status of 0 tells
module _ (H : List ℕ → List ℕ) (asked : ProofAsked) (told told' : Option Files) (taken taken' : Option (List ℕ)) (lines : List ℕ) (kept : Option Kept) (put : IsPut kept lines told told' taken taken') where
  of_run : (run : Run) → HasRun H asked told run → AnswersRun H asked.receipt run Done lines kept → IsProofDone H asked told told' taken taken'
  of_run run has (inl stops) = stops_done H run lines kept stops
  of_run run has (inr (inl long)) = not_too_long _ lines kept long.told
  of_run run has (inr (inr written)) = record {
    run = run;
    has = has;
    proves = written.proves;
    within = written.within;
    put = put_same lines _ kept _ told told' taken taken' written.lines_are written.kept_is put;
  }

  pub prove_done : AnswersProve H asked told Done lines kept → IsProofDone H asked told told' taken taken'
  prove_done (inl none) = no_guest_done asked.elf asked.input told lines kept none
  prove_done (inr (inl none)) = bad_other_done H told asked.others lines kept none.bad
  prove_done (inr (inr run)) = of_run run.run run.has run.answers

-- ---- a run that can be proved isn't refused
pub loaded_ready : (file : List ℕ) (image : Image) (words : List ℕ) → Loads file image → IsReady (start image words)
loaded_ready file image words loads = record {
  aligned = loaded_aligned file image loads;
  registers = record { size = refl; zero_first = refl; are_words = λ n. omega (arith, get_or-same {A = ℕ} 32 n 0) };
  is_word = let low : image.entry < top = loaded_below file image loads in omega (arith, low);
}

module _ (H : List ℕ → List ℕ) (run : Run) (are : AreLimits run.limits) (ready : IsReady (beginning run)) (can : CanProve H run) where
  -- its calls are answered
  resolves : (code : ℕ) (ends : IsOutcome (beginning run) run.limits.limit (Halted code)) (status : Status) (lines : List ℕ) (kept : Option Kept)
      → IsUnresolved H ends.state.calls run.others status lines kept → ⊥
  resolves code ends status lines kept unresolved =
      let has = segments_chain H run.limits (beginning run) code are ready ends in
      let made : bundle_with H (cut_seals H run.limits (beginning run)) run.others has.claim ≡ Some can.bundle =
      subst (λ (o : Option SpanClaim). option_and_then (bundle_with H (cut_seals H run.limits (beginning run)) run.others) o ≡ Some can.bundle) has.is_claim can.is_bundle in
      let calls : ends.state.calls ≡ has.claim.calls = sym has.claims.calls in
      not_stopped H (record { seals = cut_seals H run.limits (beginning run); claim = has.claim }) run.others can.bundle made can.few_entries unresolved.stop
      (subst (λ (cs : List AssumeCall). StopsResolve H cs run.others unresolved.stop) calls unresolved.stops) unresolved.not_memory

  pub not_refused_run : (status : Status) (lines : List ℕ) (kept : Option Kept) → StopsRun H run status lines kept → ⊥
  not_refused_run status lines kept (inl many) =
      let beyond : 65535 < length (lengths run.limits (beginning run)) = many.many in
      let few : length (lengths run.limits (beginning run)) ≤ 65535 = can.few in
      omega (arith, beyond, few)
  not_refused_run status lines kept (inr stopped) =
      of_outcome stopped.outcome stopped.ends (one_outcome (beginning run) run.limits.limit stopped.outcome (Halted can.code) stopped.ends can.ends) stopped.tells
    where
      of_outcome : (o : Outcome) (ends : IsOutcome (beginning run) run.limits.limit o) → o ≡ Halted can.code → TellsStop H run o ends status lines kept → ⊥
      of_outcome (Halted code) ends is unresolved = resolves code ends status lines kept unresolved
      of_outcome (Faulted fault pc step) ends is tells = cc
      of_outcome (OverLimit step) ends is tells = cc

-- its receipt has the bytes of its bundle
receipt_long : (H : List ℕ → List ℕ) (run : Run) (bundle : Bundle) → bundle_of H run ≡ Some bundle → (proves : Proves H run) → length proves.bytes ≡ length (bundle_bytes bundle)
receipt_long H run bundle is proves =
    let same : proves.is_receipt.bundle ≡ bundle = same_Some proves.is_receipt.bundle bundle (sym proves.is_receipt.is_bundle ∙ is) in
    ap length (proves.is_receipt.spells.is ∙ ap bundle_bytes same)

-- ---- when a status of 0 has to come
module _ (H : List ℕ → List ℕ) (asked : ProofAsked) (are : AreLimits asked.limits) (files : Files) (all : CompletesProof H asked files) where
  abbrev the_run : Run
  the_run = all.run

  -- the files hold no other run
  same_run : (run : Run) → HasRun H asked (Some files) run → run ≡ the_run
  same_run run has =
      let guest = same_guest asked.elf asked.input files the_run.image run.image the_run.words run.words all.has.guest has.guest in
      let limits : run.limits ≡ the_run.limits = has.limits ∙ sym all.has.limits in
      let others : run.others ≡ the_run.others = same_others H files asked.others the_run.others run.others all.has.others has.others in
      λ i. record { image = guest.image_is i; words = guest.words_are i; limits = limits i; others = others i }

  answered_run : (status : Status) (lines : List ℕ) (kept : Option Kept) → AnswersRun H asked.receipt the_run status lines kept → status ≡ Done
  answered_run status lines kept (inl stops) =
      absurd
      (not_refused_run H the_run (subst AreLimits (sym all.has.limits) are) (loaded_ready all.has.guest.loads.bytes the_run.image the_run.words all.has.guest.loads.loads) all.can status lines kept stops)
  answered_run status lines kept (inr (inl long)) =
      let beyond : MOST_RECEIPT_BYTES < length long.proves.bytes = long.beyond in
      let size = receipt_long H the_run all.can.bundle all.can.is_bundle long.proves in
      let within : length (bundle_bytes all.can.bundle) ≤ MOST_RECEIPT_BYTES = all.within in
      absurd (omega (arith, beyond, size, within))
  answered_run status lines kept (inr (inr written)) = written.status_is

  pub prove_complete : (status : Status) (lines : List ℕ) (kept : Option Kept) → AnswersProve H asked (Some files) status lines kept → status ≡ Done
  prove_complete status lines kept (inl none) = absurd (not_no_guest asked.elf asked.input files the_run.image the_run.words all.has.guest status lines kept none)
  prove_complete status lines kept (inr (inl none)) = absurd (not_bad_other H files asked.others the_run.others all.has.others status lines kept none.bad)
  prove_complete status lines kept (inr (inr run)) =
      answered_run status lines kept (subst (λ (r : Run). AnswersRun H asked.receipt r status lines kept) (same_run run.run run.has) run.answers)
