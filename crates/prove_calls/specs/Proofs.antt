-- What the parts of a proof answer. H is the digest function.
use Rattle.std.specs.Prelude.{◌≡◌, ◌≢◌, ◌⊎◌, ℕ, ◌<◌, ◌≤◌, List, length, Option, Some}
use Rattle.page_core.specs.Images.{Image}
use Rattle.claim_types.specs.States.{state_digest}
use Rattle.receipt_types.specs.Bundles.{Bundle}
use Rattle.receipt_types.specs.Spelling.{Spells}
use Rattle.lift_join.specs.Chained.{Chained}
use Rattle.check_core.specs.Judgement.{Accepts}
use Rattle.check_core.specs.Reports.{report_of}
use Rattle.resolve.specs.Bundling.{resolved_bundle}
use Rattle.resolve.specs.declared.stop.ResolveStop.{ResolveStop}
use Rattle.resolve.specs.declared.stop.ResolveStop.TheVariants as Resolve
use Rattle.session.specs.declared.stop.SessionStop.{SessionStop}
use Rattle.session.specs.declared.stop.SessionStop.TheVariants as Session
use Rattle.executor.specs.Segments.{Limits}
use Rattle.cli_text.specs.declared.status.Status.{Status}
use Rattle.cli_text.specs.declared.status.Status.TheVariants.{Done, Refused, TooLong}
use Rattle.cli_text.specs.Files.{too_long_lines}
use Rattle.cli_text.specs.Runs.{faulted_lines, over_limit_lines, too_many_seals_lines}
use Rattle.cli_text.specs.Reports.{proved_lines}
use Rattle.command_frame.specs.Ends.{Kept}
use Rattle.command_frame.specs.Reading.{IsTold}
use Rattle.command_frame.specs.declared.reading.TheConstants.{MOST_RECEIPT_BYTES}
use Rattle.prove_calls.specs.declared.proof.Proof.{Proof}
use Rattle.prove_calls.specs.Prove.{Run, Proves, unresolved_lines}

abbrev pub run_of : Image → List ℕ → Limits → List Bundle → Run
run_of image words limits others = record { image = image; words = words; limits = limits; others = others }

-- the run is proved, and these are its receipt and its report
pub record IsProofOf (H : List ℕ → List ℕ) (run : Run) (proof : Proof) : Type 0 where
  pub proves : Proves H run
  pub bytes_are : proof.receipt.items ≡ proves.bytes
  pub report_is : proof.report ≡ proves.report

-- ---- its parts
-- what is proved is put together with others, and these are the bundle's receipt and its report
pub record IsBundled (H : List ℕ → List ℕ) (proved : Chained) (others : List Bundle) (proof : Proof) : Type 0 where
  pub bundle : Bundle
  pub is_bundle : resolved_bundle H proved others ≡ Some bundle
  pub accepted : Accepts H bundle (state_digest H proved.claim.before)
  pub spells : Spells bundle proof.receipt.items
  pub reports : report_of H bundle ≡ Some proof.report

-- it can't be put together so
pub record TellsUnresolved (stop : ResolveStop) (status : Status) (lines : List ℕ) (kept : Option Kept) : Type 0 where
  pub not_memory : stop ≢ Resolve.Memory
  pub told : IsTold Refused (unresolved_lines stop) status lines kept

-- a session stops so
abbrev pub TellsSession : SessionStop → Status → List ℕ → Option Kept → Type 0
TellsSession Session.TooManySeals status lines kept = IsTold Refused too_many_seals_lines status lines kept
TellsSession (Session.Faulted fault pc step) status lines kept = IsTold Refused (faulted_lines step pc fault) status lines kept
TellsSession (Session.OverLimit step) status lines kept = IsTold Refused (over_limit_lines step) status lines kept
TellsSession Session.Memory status lines kept = ⊥

-- ---- what is answered to a proof
pub record TellsTooLong (receipt : List ℕ) (proof : Proof) (status : Status) (lines : List ℕ) (kept : Option Kept) : Type 0 where
  pub beyond : MOST_RECEIPT_BYTES < length proof.receipt.items
  pub told : IsTold TooLong (too_long_lines receipt) status lines kept

pub record TellsWritten (receipt : List ℕ) (proof : Proof) (status : Status) (lines : List ℕ) (kept : Option Kept) : Type 0 where
  pub within : length proof.receipt.items ≤ MOST_RECEIPT_BYTES
  pub status_is : status ≡ Done
  pub lines_are : lines ≡ proved_lines proof.report (length proof.receipt.items)
  pub kept_is : kept ≡ Some (record { name = receipt; bytes = proof.receipt.items })

abbrev pub TellsProof : List ℕ → Proof → Status → List ℕ → Option Kept → Type 0
TellsProof receipt proof status lines kept = TellsTooLong receipt proof status lines kept ⊎ TellsWritten receipt proof status lines kept
