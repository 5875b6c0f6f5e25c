-- Bundles that are accepted under the digest of their own first state. H is the digest function.
use Rattle.std.specs.Prelude.{◌≡◌, ℕ, List, Some, option_map}
use Rattle.std.specs.Coded.{Coded, code_by, coded×, coded_list}
use Rattle.std.proofs.Common.{refl}
use Rattle.claim_types.specs.States.{state_digest}
use Rattle.receipt_types.specs.Bundles.{Bundle, entry_code}
use Rattle.receipt_types.specs.Limits.{KeepsLimits}
use Rattle.receipt_types.specs.Spelling.{Spells}
use Rattle.receipt_codec.specs.Reading.{BeginsVersion}
use Rattle.check_core.specs.declared.stop.CheckStop.{CheckStop}
use Rattle.check_core.specs.declared.stop.CheckStop.TheVariants.{Malformed, Version, WrongImage, Memory}
use Rattle.check_core.specs.Entries.{first_at}
use Rattle.check_core.specs.Judgement.{Accepts}
use Rattle.check_core.specs.Reports.{Report, report_code, report_of}
use Rattle.check_core.specs.Checking.{StopsCheck, IsMalformed}

-- a bundle and its report
pub record Checked : Type 0 where
  pub bundle : Bundle
  pub report : Report

-- it is stored as its fields
abbrev pub checked_code : Coded Checked
checked_code = code_by (Bundle × Report) (coded× (coded_list entry_code) report_code) (λ c. (c.bundle, c.report)) (λ p. record { bundle = p.0; report = p.1 }) (λ _. refl)

-- accepted under some id, which is the digest of its own first state
abbrev pub IsAccepted : (List ℕ → List ℕ) → Bundle → Type 0
IsAccepted H B = (id : List ℕ) × Accepts H B id

-- it keeps the limits of a receipt, is accepted, and this is its report
pub record IsChecked (H : List ℕ → List ℕ) (checked : Checked) : Type 0 where
  pub limits : KeepsLimits checked.bundle
  pub accepted : IsAccepted H checked.bundle
  pub is_report : report_of H checked.bundle ≡ Some checked.report

-- a refusal under the digest of its own first state
abbrev pub IsOwnId : (List ℕ → List ℕ) → Bundle → List ℕ → Type 0
IsOwnId H B id = option_map (state_digest H) (first_at H B 0) ≡ Some id

abbrev pub StopsItself : (List ℕ → List ℕ) → Bundle → CheckStop → Type 0
StopsItself H B Memory = Unit {0}
StopsItself H B (WrongImage found) = ⊥
StopsItself H B stop = (id : List ℕ) × IsOwnId H B id × StopsCheck H B id stop

-- bytes spell a bundle that is refused so under the digest of its own first state
pub record IsStoppedItself (H : List ℕ → List ℕ) (bytes : List ℕ) (stop : CheckStop) : Type 0 where
  pub bundle : Bundle
  pub spelled : Spells bundle bytes
  pub stops : StopsItself H bundle stop

-- a refusal of bytes; the causes exclude one another, but for want of memory
abbrev pub RefusesItself : (List ℕ → List ℕ) → List ℕ → CheckStop → Type 0
RefusesItself H bytes Malformed = IsMalformed bytes
RefusesItself H bytes (Version version) = BeginsVersion version bytes
RefusesItself H bytes Memory = Unit {0}
RefusesItself H bytes stop = IsStoppedItself H bytes stop
