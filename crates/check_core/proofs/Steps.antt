-- The steps of seals, one after the other.
use Rattle.std.proofs.Common.{◌≡◌, ℕ, ◌+◌, List, [], ◌∷◌, ◌++◌, ap, ◌∙◌, arith}
use Rattle.receipt_types.specs.Seals.{Seal, steps_of}

pub steps_more : (seals : List Seal) (seal : Seal) → steps_of (seals ++ seal ∷ []) ≡ steps_of seals + seal.steps
steps_more [] seal = omega arith
steps_more (x ∷ seals) seal = ap (λ (n : ℕ). x.steps + n) (steps_more seals seal) ∙ omega arith
