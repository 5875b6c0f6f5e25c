-- What an executor gives, one call after the other. H is the digest function.
use Rattle.std.specs.Prelude.{◌≡◌, ℕ, ◌+◌, ◌<◌, List, length, Some}
use Rattle.std.specs.Arc.{arc_value}
use Rattle.rv_step.specs.Machine.{State}
use Rattle.rv_step.specs.Runs.{IsOutcome}
use Rattle.receipt_types.specs.Bundles.{item}
use Rattle.executor.specs.Segments.{Limits, lengths}
use Rattle.executor.specs.Proving.{cut_seals}
use Rattle.executor.specs.declared.executor.Next.{Next}
use Rattle.executor.specs.declared.executor.Next.TheVariants.{Cut, Ended, TooManySeals}
use Rattle.receipt_types.specs.declared.sizes.TheConstants.{MOST_SEALS}

-- where `before` cuts of the run from r were given, and `after` it are: the next segment's number and seal, of the first 65,535;
-- the run's outcome, where no segment is left; or that there are more
abbrev pub Gives : {D : Type 0} → (List ℕ → List ℕ) → Limits → State → ℕ → ℕ → Next D → Type 0
Gives H l r before after (Cut cut) =
    (before < MOST_SEALS) × ((arc_value cut).number ≡ before) × (item (cut_seals H l r) before ≡ Some (arc_value cut).seal) × (after ≡ before + 1)
Gives H l r before after (Ended outcome) = (before ≡ length (lengths l r)) × IsOutcome r l.limit outcome × (after ≡ before)
Gives H l r before after TooManySeals = (before ≡ MOST_SEALS) × (before < length (lengths l r)) × (after ≡ before)
