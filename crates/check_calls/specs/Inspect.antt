-- `inspect`: what it answers, a cause a row, in their order; what a status of 0 tells; and when that has to come. H is the digest function.
use Rattle.std.specs.Prelude.{◌≡◌, ◌≢◌, ◌⊎◌, ℕ, ◌≤◌, List, length, Option, Some, None}
use Rattle.outside.specs.Files.{Files}
use Rattle.receipt_types.specs.Bundles.{Bundle}
use Rattle.receipt_types.specs.Spelling.{Spells}
use Rattle.check_core.specs.declared.stop.CheckStop.{CheckStop}
use Rattle.check_core.specs.declared.stop.CheckStop.TheVariants.{Memory}
use Rattle.check_core.specs.Reports.{Report, report_of}
use Rattle.check_core.specs.Checked.{IsAccepted, RefusesItself}
use Rattle.inspect_json.specs.Text.{report_line}
use Rattle.cli_text.specs.declared.status.Status.{Status}
use Rattle.cli_text.specs.declared.status.Status.TheVariants.{Done, Refused}
use Rattle.cli_text.specs.Refusals.{stop_lines}
use Rattle.command_frame.specs.Ends.{Kept, IsPut}
use Rattle.command_frame.specs.Reading.{IsTold, IsRead, IsUnread}
use Rattle.command_frame.specs.declared.reading.TheConstants.{MOST_RECEIPT_BYTES}

-- the bytes spell a bundle that is accepted under the digest of its own first state, and this is its report
pub record IsReportedItself (H : List ℕ → List ℕ) (bytes : List ℕ) (report : Report) : Type 0 where
  pub bundle : Bundle
  pub spelled : Spells bundle bytes
  pub accepted : IsAccepted H bundle
  pub is_report : report_of H bundle ≡ Some report

-- ---- the answers, in the order of their causes
pub record IsInspected (H : List ℕ → List ℕ) (bytes : List ℕ) (status : Status) (lines : List ℕ) (kept : Option Kept) : Type 0 where
  pub report : Report
  pub reported : IsReportedItself H bytes report
  pub told : IsTold Done (report_line report) status lines kept

pub record IsRefusedItself (H : List ℕ → List ℕ) (bytes : List ℕ) (status : Status) (lines : List ℕ) (kept : Option Kept) : Type 0 where
  pub stop : CheckStop
  pub refuses : RefusesItself H bytes stop
  pub not_memory : stop ≢ Memory
  pub told : IsTold Refused (stop_lines stop) status lines kept

abbrev pub Inspects : (List ℕ → List ℕ) → List ℕ → Status → List ℕ → Option Kept → Type 0
Inspects H bytes status lines kept = IsInspected H bytes status lines kept ⊎ IsRefusedItself H bytes status lines kept

-- the receipt is read, and this is answered of its bytes
pub record IsLookedInto (H : List ℕ → List ℕ) (receipt : List ℕ) (told : Option Files) (status : Status) (lines : List ℕ) (kept : Option Kept) : Type 0 where
  pub bytes : List ℕ
  pub is_read : IsRead MOST_RECEIPT_BYTES receipt told bytes
  pub inspects : Inspects H bytes status lines kept

abbrev pub AnswersInspect : (List ℕ → List ℕ) → List ℕ → Option Files → Status → List ℕ → Option Kept → Type 0
AnswersInspect H receipt told status lines kept =
    IsUnread MOST_RECEIPT_BYTES receipt told status lines kept
    ⊎ IsLookedInto H receipt told status lines kept

-- with status 0 the receipt is accepted under its own first id, and exactly the text of its report is put
pub record IsInspectedPut (H : List ℕ → List ℕ) (receipt : List ℕ) (told told' : Option Files) (taken taken' : Option (List ℕ)) : Type 0 where
  pub bytes : List ℕ
  pub is_read : IsRead MOST_RECEIPT_BYTES receipt told bytes
  pub report : Report
  pub reported : IsReportedItself H bytes report
  pub put : IsPut None (report_line report) told told' taken taken'

-- it has to come where the bytes of the receipt, as told, spell a bundle that is accepted under its own first id
pub record PassesItself (H : List ℕ → List ℕ) (receipt : List ℕ) (files : Files) : Type 0 where
  pub bytes : List ℕ
  pub held : files receipt ≡ Some bytes
  pub within : length bytes ≤ MOST_RECEIPT_BYTES
  pub bundle : Bundle
  pub spelled : Spells bundle bytes
  pub accepted : IsAccepted H bundle
