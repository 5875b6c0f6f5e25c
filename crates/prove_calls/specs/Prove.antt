-- `prove`: what it answers and writes, a cause a row, in their order; what a status of 0 tells; and when that has to come. H is the
-- digest function.
use Rattle.std.specs.Prelude.{◌≡◌, ◌≢◌, ◌⊎◌, ℕ, ◌<◌, ◌≤◌, List, [], length, Option, Some, option_and_then}
use Rattle.outside.specs.Files.{Files}
use Rattle.page_core.specs.Images.{Image}
use Rattle.rv_step.specs.Machine.{State}
use Rattle.rv_step.specs.Runs.{start, IsOutcome}
use Rattle.rv_step.specs.declared.outcome.Outcome.{Outcome}
use Rattle.rv_step.specs.declared.outcome.Outcome.TheVariants.{Halted, Faulted, OverLimit}
use Rattle.claim_types.specs.declared.claim.Exit.TheVariants.{Halted as HaltedWith}
use Rattle.claim_types.specs.States.{image_state, image_id}
use Rattle.claim_types.specs.Claims.{SpanClaim}
use Rattle.host_calls.specs.declared.call.AssumeCall.{AssumeCall}
use Rattle.receipt_types.specs.Seals.{Seal}
use Rattle.receipt_types.specs.Bundles.{Bundle}
use Rattle.receipt_types.specs.Spelling.{Spells, bundle_bytes}
use Rattle.lift_join.specs.Joins.{chain_of}
use Rattle.check_core.specs.Judgement.{Accepts}
use Rattle.check_core.specs.Reports.{Report, report_of}
use Rattle.executor.specs.Segments.{Limits, lengths}
use Rattle.executor.specs.Proving.{cut_seals, ClaimsRun}
use Rattle.resolve.specs.Bundling.{resolved_bundle}
use Rattle.resolve.specs.Resolving as Resolve
use Rattle.resolve.specs.declared.stop.ResolveStop.{ResolveStop}
use Rattle.resolve.specs.declared.stop.ResolveStop.TheVariants.{NoReceiptFor, TooManyEntries, Memory}
use Rattle.cli_text.specs.declared.status.Status.{Status}
use Rattle.cli_text.specs.declared.status.Status.TheVariants.{Done, Refused, TooLong}
use Rattle.cli_text.specs.Files.{too_long_lines}
use Rattle.cli_text.specs.Runs.{faulted_lines, over_limit_lines, too_many_seals_lines}
use Rattle.cli_text.specs.Refusals.{no_receipt_lines, too_many_entries_lines}
use Rattle.cli_text.specs.Reports.{proved_lines}
use Rattle.command_frame.specs.Ends.{Kept, IsPut}
use Rattle.command_frame.specs.Reading.{IsTold}
use Rattle.command_frame.specs.declared.reading.TheConstants.{MOST_RECEIPT_BYTES}
use Rattle.prove_calls.specs.Guest.{HasGuest, HasNoGuest}
use Rattle.prove_calls.specs.Others.{HasOthers, HasBadOther}
use Rattle.receipt_types.specs.declared.sizes.TheConstants.{MOST_ENTRIES, MOST_SEALS}

-- the names of an ELF file, an input file and a receipt, the limits of the run and its segments, and the names of other receipts
pub record ProofAsked : Type 0 where
  pub elf : List ℕ
  pub input : List ℕ
  pub receipt : List ℕ
  pub limits : Limits
  pub others : List (List ℕ)

-- a guest's run that is to be proved: its image and words, the limits, and the bundles of other receipts
pub record Run : Type 0 where
  pub image : Image
  pub words : List ℕ
  pub limits : Limits
  pub others : List Bundle

abbrev pub beginning : Run → State
beginning run = start run.image run.words

-- ---- the bundle of a run
-- what is proved of a run, where its segments' seals have this claim: the bundle of them and of others that answer its calls
abbrev pub bundle_with : (List ℕ → List ℕ) → List Seal → List Bundle → SpanClaim → Option Bundle
bundle_with H seals others claim = resolved_bundle H (record { seals = seals; claim = claim }) others

-- the bundle of a run and of others: entry 0 has the seals of the run's segments, and each call is linked to the first entry that answers it
abbrev pub bundle_of : (List ℕ → List ℕ) → Run → Option Bundle
bundle_of H run = option_and_then (bundle_with H (cut_seals H run.limits (beginning run)) run.others) (chain_of H (cut_seals H run.limits (beginning run)))

-- these bytes spell the bundle of a run that halts so; the chain of entry 0 is the claim of the run, which begins with the image's entry and
-- root, and the bundle is accepted under the image's id
pub record IsReceipt (H : List ℕ → List ℕ) (run : Run) (code : ℕ) (ends : IsOutcome (beginning run) run.limits.limit (Halted code)) (bytes : List ℕ) : Type 0 where
  pub bundle : Bundle
  pub is_bundle : bundle_of H run ≡ Some bundle
  pub spells : Spells bundle bytes
  pub claim : SpanClaim
  pub chain : chain_of H (cut_seals H run.limits (beginning run)) ≡ Some claim
  pub claims : ClaimsRun H claim (beginning run) (HaltedWith code) ends.state
  pub before : claim.before ≡ image_state H run.image
  pub accepted : Accepts H bundle (image_id H run.image)

-- the run halts in at most 65,535 segments, each of its calls is answered by an entry, in at most 256 entries, and these bytes are its receipt
pub record Proves (H : List ℕ → List ℕ) (run : Run) : Type 0 where
  pub few : length (lengths run.limits (beginning run)) ≤ MOST_SEALS
  pub code : ℕ
  pub ends : IsOutcome (beginning run) run.limits.limit (Halted code)
  pub bytes : List ℕ
  pub is_receipt : IsReceipt H run code ends bytes
  pub report : Report
  pub reports : report_of H is_receipt.bundle ≡ Some report

-- ---- the answers to a run, in the order of their causes
-- it has more than 65,535 segments
pub record HasTooManySeals (run : Run) (status : Status) (lines : List ℕ) (kept : Option Kept) : Type 0 where
  pub many : MOST_SEALS < length (lengths run.limits (beginning run))
  pub told : IsTold Refused too_many_seals_lines status lines kept

-- a call that no entry answers, or too many entries; want of memory is no refusal and has no line
abbrev pub unresolved_lines : ResolveStop → List ℕ
unresolved_lines (NoReceiptFor call) = no_receipt_lines call
unresolved_lines (TooManyEntries count) = too_many_entries_lines count
unresolved_lines Memory = []

pub record IsUnresolved (H : List ℕ → List ℕ) (calls : List AssumeCall) (others : List Bundle) (status : Status) (lines : List ℕ) (kept : Option Kept) : Type 0 where
  pub stop : ResolveStop
  pub stops : Resolve.StopsResolve H calls others stop
  pub not_memory : stop ≢ Memory
  pub told : IsTold Refused (unresolved_lines stop) status lines kept

-- its outcome is no halt, or it halts and isn't resolved
abbrev pub TellsStop : (H : List ℕ → List ℕ) (run : Run) (outcome : Outcome) → IsOutcome (beginning run) run.limits.limit outcome → Status → List ℕ → Option Kept → Type 0
TellsStop H run (Halted code) ends status lines kept = IsUnresolved H ends.state.calls run.others status lines kept
TellsStop H run (Faulted fault pc step) ends status lines kept = IsTold Refused (faulted_lines step pc fault) status lines kept
TellsStop H run (OverLimit step) ends status lines kept = IsTold Refused (over_limit_lines step) status lines kept

pub record IsStopped (H : List ℕ → List ℕ) (run : Run) (status : Status) (lines : List ℕ) (kept : Option Kept) : Type 0 where
  pub few : length (lengths run.limits (beginning run)) ≤ MOST_SEALS
  pub outcome : Outcome
  pub ends : IsOutcome (beginning run) run.limits.limit outcome
  pub tells : TellsStop H run outcome ends status lines kept

-- the run is refused
abbrev pub StopsRun : (List ℕ → List ℕ) → Run → Status → List ℕ → Option Kept → Type 0
StopsRun H run status lines kept = HasTooManySeals run status lines kept ⊎ IsStopped H run status lines kept

-- its receipt is too long
pub record IsTooLong (H : List ℕ → List ℕ) (receipt : List ℕ) (run : Run) (status : Status) (lines : List ℕ) (kept : Option Kept) : Type 0 where
  pub proves : Proves H run
  pub beyond : MOST_RECEIPT_BYTES < length proves.bytes
  pub told : IsTold TooLong (too_long_lines receipt) status lines kept

-- its receipt is kept under its name, and its report is told
pub record IsWritten (H : List ℕ → List ℕ) (receipt : List ℕ) (run : Run) (status : Status) (lines : List ℕ) (kept : Option Kept) : Type 0 where
  pub proves : Proves H run
  pub within : length proves.bytes ≤ MOST_RECEIPT_BYTES
  pub status_is : status ≡ Done
  pub lines_are : lines ≡ proved_lines proves.report (length proves.bytes)
  pub kept_is : kept ≡ Some (record { name = receipt; bytes = proves.bytes })

abbrev pub AnswersRun : (List ℕ → List ℕ) → List ℕ → Run → Status → List ℕ → Option Kept → Type 0
AnswersRun H receipt run status lines kept =
    StopsRun H run status lines kept
    ⊎ (IsTooLong H receipt run status lines kept
    ⊎ IsWritten H receipt run status lines kept)

-- ---- the answers to the words, in the order of their causes
-- the files hold a guest, and another receipt isn't accepted
pub record HasNoOthers (H : List ℕ → List ℕ) (asked : ProofAsked) (told : Option Files) (status : Status) (lines : List ℕ) (kept : Option Kept) : Type 0 where
  pub image : Image
  pub words : List ℕ
  pub guest : HasGuest asked.elf asked.input told image words
  pub bad : HasBadOther H told asked.others status lines kept

-- the files hold a guest and other receipts: this is its run
pub record HasRun (H : List ℕ → List ℕ) (asked : ProofAsked) (told : Option Files) (run : Run) : Type 0 where
  pub guest : HasGuest asked.elf asked.input told run.image run.words
  pub limits : run.limits ≡ asked.limits
  pub others : HasOthers H told asked.others run.others

pub record IsProofRun (H : List ℕ → List ℕ) (asked : ProofAsked) (told : Option Files) (status : Status) (lines : List ℕ) (kept : Option Kept) : Type 0 where
  pub run : Run
  pub has : HasRun H asked told run
  pub answers : AnswersRun H asked.receipt run status lines kept

abbrev pub AnswersProve : (List ℕ → List ℕ) → ProofAsked → Option Files → Status → List ℕ → Option Kept → Type 0
AnswersProve H asked told status lines kept =
    HasNoGuest asked.elf asked.input told status lines kept
    ⊎ (HasNoOthers H asked told status lines kept
    ⊎ IsProofRun H asked told status lines kept)

-- ---- status 0
-- the run is proved, the receipt's name holds exactly its bytes, and exactly the lines of its report are put
pub record IsProofDone (H : List ℕ → List ℕ) (asked : ProofAsked) (told told' : Option Files) (taken taken' : Option (List ℕ)) : Type 0 where
  pub run : Run
  pub has : HasRun H asked told run
  pub proves : Proves H run
  pub within : length proves.bytes ≤ MOST_RECEIPT_BYTES
  pub put : IsPut (Some (record { name = asked.receipt; bytes = proves.bytes })) (proved_lines proves.report (length proves.bytes)) told told' taken taken'

-- the run halts in at most 65,535 segments, each of its calls is answered by an entry, and there are at most 256 entries
pub record CanProve (H : List ℕ → List ℕ) (run : Run) : Type 0 where
  pub few : length (lengths run.limits (beginning run)) ≤ MOST_SEALS
  pub code : ℕ
  pub ends : IsOutcome (beginning run) run.limits.limit (Halted code)
  pub bundle : Bundle
  pub is_bundle : bundle_of H run ≡ Some bundle
  pub few_entries : length bundle ≤ MOST_ENTRIES

-- it has to come where the files, as told, hold such a run, and the bundle's bytes are at most 2^30
pub record CompletesProof (H : List ℕ → List ℕ) (asked : ProofAsked) (files : Files) : Type 0 where
  pub run : Run
  pub has : HasRun H asked (Some files) run
  pub can : CanProve H run
  pub within : length (bundle_bytes can.bundle) ≤ MOST_RECEIPT_BYTES
