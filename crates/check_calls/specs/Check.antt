-- `check`: what it answers, a cause a row, in their order; what a status of 0 tells; and when that has to come. H is the digest function.
use Rattle.std.specs.Prelude.{◌≡◌, ◌≢◌, ◌⊎◌, ℕ, ◌≤◌, List, length, Option, Some, option_map}
use Rattle.outside.specs.Files.{Files}
use Rattle.page_core.specs.Images.{Image, IsImage}
use Rattle.claim_types.specs.declared.state.State.{State as SystemState}
use Rattle.claim_types.specs.States.{state_digest, image_id}
use Rattle.receipt_types.specs.Bundles.{Bundle}
use Rattle.receipt_types.specs.Spelling.{Spells}
use Rattle.digest_core.specs.Collisions.{Collides}
use Rattle.check_core.specs.Entries.{first_at}
use Rattle.check_core.specs.declared.stop.CheckStop.{CheckStop}
use Rattle.check_core.specs.declared.stop.CheckStop.TheVariants.{Memory}
use Rattle.check_core.specs.Judgement.{Accepts}
use Rattle.check_core.specs.Reports.{Report}
use Rattle.check_core.specs.Checking.{IsReported, Refuses}
use Rattle.check_core.specs.Hashed.{hashed_strings}
use Rattle.check_core.specs.Vouching.{Vouches, Faithful}
use Rattle.cli_text.specs.declared.status.Status.{Status}
use Rattle.cli_text.specs.declared.status.Status.TheVariants.{Done, Refused}
use Rattle.cli_text.specs.Refusals.{stop_lines}
use Rattle.cli_text.specs.Reports.{valid_lines}
use Rattle.command_frame.specs.Ends.{Kept, IsPut}
use Rattle.command_frame.specs.Reading.{IsTold, IsRead, IsUnread}
use Rattle.command_frame.specs.declared.reading.TheConstants.{MOST_RECEIPT_BYTES}

-- the names of a receipt and of a journal file, if one is asked for, and an image id
pub record CheckAsked : Type 0 where
  pub receipt : List ℕ
  pub id : List ℕ
  pub journal : Option (List ℕ)

-- ---- the answers, in the order of their causes
-- the journal file holds the report's journal
abbrev pub journal_file : Option (List ℕ) → Report → Option Kept
journal_file journal report = option_map (λ name. record { name = name; bytes = report.journal }) journal

-- the bytes spell a bundle that is accepted under the id, and its report is told
pub record IsValid (H : List ℕ → List ℕ) (id : List ℕ) (journal : Option (List ℕ)) (bytes : List ℕ) (status : Status) (lines : List ℕ) (kept : Option Kept) : Type 0 where
  pub report : Report
  pub reported : IsReported H id bytes report
  pub status_is : status ≡ Done
  pub lines_are : lines ≡ valid_lines report
  pub kept_is : kept ≡ journal_file journal report

-- the check refuses the bytes, and its first stop is told
pub record IsRefused (H : List ℕ → List ℕ) (id bytes : List ℕ) (status : Status) (lines : List ℕ) (kept : Option Kept) : Type 0 where
  pub stop : CheckStop
  pub refuses : Refuses H id bytes stop
  pub not_memory : stop ≢ Memory
  pub told : IsTold Refused (stop_lines stop) status lines kept

abbrev pub Judges : (List ℕ → List ℕ) → List ℕ → Option (List ℕ) → List ℕ → Status → List ℕ → Option Kept → Type 0
Judges H id journal bytes status lines kept = IsValid H id journal bytes status lines kept ⊎ IsRefused H id bytes status lines kept

-- the receipt is read, and this is answered of its bytes
pub record IsJudged (H : List ℕ → List ℕ) (asked : CheckAsked) (told : Option Files) (status : Status) (lines : List ℕ) (kept : Option Kept) : Type 0 where
  pub bytes : List ℕ
  pub is_read : IsRead MOST_RECEIPT_BYTES asked.receipt told bytes
  pub judges : Judges H asked.id asked.journal bytes status lines kept

abbrev pub AnswersCheck : (List ℕ → List ℕ) → CheckAsked → Option Files → Status → List ℕ → Option Kept → Type 0
AnswersCheck H asked told status lines kept =
    IsUnread MOST_RECEIPT_BYTES asked.receipt told status lines kept
    ⊎ IsJudged H asked told status lines kept

-- ---- status 0
-- what an accepted bundle says of every image with which one of its entries begins
pub record IsHeadlined (H : List ℕ → List ℕ) (B : Bundle) : Type 0 where
  pub vouches : (e : ℕ) (first : SystemState) (image : Image) → IsImage image → first_at H B e ≡ Some first → state_digest H first ≡ image_id H image
      → Vouches H B e image ⊎ Collides H (hashed_strings H B image)
  pub faithful : (e : ℕ) (image : Image) → IsImage image → Faithful H B e image → Vouches H B e image

-- the receipt's bytes spell a bundle that is accepted under the id and says so; its report's lines are put, and the journal file, if one
-- was asked for, holds its journal
pub record IsCheckedPut (H : List ℕ → List ℕ) (asked : CheckAsked) (told told' : Option Files) (taken taken' : Option (List ℕ)) : Type 0 where
  pub bytes : List ℕ
  pub is_read : IsRead MOST_RECEIPT_BYTES asked.receipt told bytes
  pub report : Report
  pub reported : IsReported H asked.id bytes report
  pub headlined : IsHeadlined H reported.bundle
  pub put : IsPut (journal_file asked.journal report) (valid_lines report) told told' taken taken'

-- it has to come where the bytes of the receipt, as told, spell a bundle that is accepted under the id
pub record Passes (H : List ℕ → List ℕ) (asked : CheckAsked) (files : Files) : Type 0 where
  pub bytes : List ℕ
  pub held : files asked.receipt ≡ Some bytes
  pub within : length bytes ≤ MOST_RECEIPT_BYTES
  pub bundle : Bundle
  pub spelled : Spells bundle bytes
  pub accepted : Accepts H bundle asked.id
