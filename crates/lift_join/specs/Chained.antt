-- Seals with the claim of them all.
use Rattle.std.specs.Prelude.{List}
use Rattle.std.specs.Coded.{Coded, code_by, coded×, coded_list}
use Rattle.std.proofs.Common.{refl}
use Rattle.claim_types.specs.Claims.{SpanClaim}
use Rattle.claim_types.specs.Codes.{claim_code}
use Rattle.receipt_types.specs.Seals.{Seal, seal_code}

pub record Chained : Type 0 where
  pub seals : List Seal
  pub claim : SpanClaim

-- it is stored as its fields
abbrev pub chained_code : Coded Chained
chained_code = code_by (List Seal × SpanClaim) (coded× (coded_list seal_code) claim_code) (λ c. (c.seals, c.claim)) (λ p. record { seals = p.0; claim = p.1 }) (λ _. refl)
