-- The other receipts of a proof: their bundles, and what is answered where one of them isn't accepted. H is the digest function.
use Rattle.std.specs.Prelude.{◌≡◌, ◌≢◌, ◌⊎◌, ℕ, List, ◌∷◌, ◌++◌, length, Option}
use Rattle.std.specs.List.{AllZip}
use Rattle.outside.specs.Files.{Files}
use Rattle.receipt_types.specs.Bundles.{Bundle}
use Rattle.receipt_types.specs.Spelling.{Spells}
use Rattle.check_core.specs.declared.stop.CheckStop.{CheckStop}
use Rattle.check_core.specs.declared.stop.CheckStop.TheVariants.{Memory}
use Rattle.check_core.specs.Checked.{IsAccepted, RefusesItself}
use Rattle.cli_text.specs.declared.status.Status.{Status}
use Rattle.cli_text.specs.declared.status.Status.TheVariants.{Refused}
use Rattle.cli_text.specs.Refusals.{bad_receipt_lines}
use Rattle.command_frame.specs.Ends.{Kept}
use Rattle.command_frame.specs.Reading.{IsTold, IsRead, IsUnread}
use Rattle.command_frame.specs.declared.reading.TheConstants.{MOST_RECEIPT_BYTES}

-- ---- accepted
-- the file of a name is read, and holds a receipt of this bundle, which is accepted under the digest of its own first state
pub record HasOther (H : List ℕ → List ℕ) (told : Option Files) (name : List ℕ) (B : Bundle) : Type 0 where
  pub bytes : List ℕ
  pub is_read : IsRead MOST_RECEIPT_BYTES name told bytes
  pub spells : Spells B bytes
  pub accepted : IsAccepted H B

-- those of these names, in order
abbrev pub HasOthers : (List ℕ → List ℕ) → Option Files → List (List ℕ) → List Bundle → Type 0
HasOthers H told names bundles = AllZip (λ name B. HasOther H told name B) names bundles

-- ---- refused
abbrev pub TellsBadReceipt : ℕ → CheckStop → Status → List ℕ → Option Kept → Type 0
TellsBadReceipt place stop status lines kept = IsTold Refused (bad_receipt_lines place stop) status lines kept

-- the file of a name and place is read, and its receipt is refused under the digest of its own first state
pub record IsBadReceipt (H : List ℕ → List ℕ) (told : Option Files) (place : ℕ) (name : List ℕ) (status : Status) (lines : List ℕ) (kept : Option Kept) : Type 0 where
  pub bytes : List ℕ
  pub is_read : IsRead MOST_RECEIPT_BYTES name told bytes
  pub stop : CheckStop
  pub refuses : RefusesItself H bytes stop
  pub not_memory : stop ≢ Memory
  pub answers : TellsBadReceipt place stop status lines kept

abbrev pub NotOther : (List ℕ → List ℕ) → Option Files → ℕ → List ℕ → Status → List ℕ → Option Kept → Type 0
NotOther H told place name status lines kept =
    IsUnread MOST_RECEIPT_BYTES name told status lines kept
    ⊎ IsBadReceipt H told place name status lines kept

-- this holds of the first of these names that has no accepted receipt
pub record HasBadOther (H : List ℕ → List ℕ) (told : Option Files) (names : List (List ℕ)) (status : Status) (lines : List ℕ) (kept : Option Kept) : Type 0 where
  pub before : List (List ℕ)
  pub name : List ℕ
  pub after : List (List ℕ)
  pub names_are : names ≡ before ++ name ∷ after
  pub bundles : List Bundle
  pub accepted : HasOthers H told before bundles
  pub bad : NotOther H told (length before) name status lines kept
