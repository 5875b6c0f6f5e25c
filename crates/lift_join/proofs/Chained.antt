-- Seals with their claim, part by part.
use Rattle.std.proofs.Common.{◌≡◌}
use Rattle.lift_join.specs.Chained.{Chained}

pub chained_same : (a b : Chained) → a.seals ≡ b.seals → a.claim ≡ b.claim → a ≡ b
chained_same a b seals claim = λ i. record { seals = seals i; claim = claim i }
