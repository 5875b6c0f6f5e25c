-- What holds of every bundle.
use Rattle.receipt_types.specs.Bundles.{Bundle, IsBundle}
use Rattle.std.specs.Prelude.{◌↔◌, ℕ, List}
use Rattle.receipt_types.specs.Limits.{KeepsLimits}
use Rattle.receipt_types.specs.Grammar.{BundleRule}
use Rattle.receipt_types.specs.Spelling.{Spells}

-- a bundle that keeps the limits has the form of a bundle
abbrev pub LimitsGiveForm : Type 0
LimitsGiveForm = (B : Bundle) → KeepsLimits B → IsBundle B

-- the bytes spell a bundle exactly where they do so by the rules of the grammar
abbrev pub SpelledByRules : Type 0
SpelledByRules = (B : Bundle) (bytes : List ℕ) → Spells B bytes ↔ BundleRule B bytes
