-- Seals within their limits.
use Rattle.std.proofs.Common.{List, [], ◌∷◌, ◌++◌}
use Rattle.receipt_types.specs.Seals.{Seal}
use Rattle.receipt_types.specs.Limits.{SealLimits, AllSealLimits}

-- with one more at the end
pub AllSealLimits-push : (seals : List Seal) (seal : Seal) → AllSealLimits seals → SealLimits seal → AllSealLimits (seals ++ seal ∷ [])
AllSealLimits-push [] seal keep limits = (limits, tt)
AllSealLimits-push (first ∷ seals) seal keep limits = (keep.0, AllSealLimits-push seals seal keep.1 limits)
