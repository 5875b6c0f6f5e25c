-- The entries of a bundle by their numbers: first states, claims and claim digests. H is the digest function.
use Rattle.std.specs.Prelude.{ℕ, List, [], ◌∷◌, Option, Some, None, option_and_then}
use Rattle.claim_types.specs.declared.state.State.{State as SystemState}
use Rattle.claim_types.specs.Claims.{SpanClaim, claim_digest}
use Rattle.receipt_types.specs.Seals.{Seal}
use Rattle.seal_replay.specs.Claiming.{before_of}
use Rattle.lift_join.specs.Joins.{chain_of}
use Rattle.receipt_types.specs.Bundles.{Bundle, item}

-- the state before of the first seal
abbrev pub first_of : (List ℕ → List ℕ) → List Seal → Option SystemState
first_of H [] = None
first_of H (seal ∷ seals) = Some (before_of H seal)

-- ---- of an entry by its number: its first state, its claim and the digest of that, empty where there is none
abbrev pub first_at : (List ℕ → List ℕ) → Bundle → ℕ → Option SystemState
first_at H B e = option_and_then (λ entry. first_of H entry.seals) (item B e)

abbrev pub claim_in : (List ℕ → List ℕ) → Bundle → ℕ → Option SpanClaim
claim_in H B e = option_and_then (λ entry. chain_of H entry.seals) (item B e)

abbrev pub digest_or_none : (List ℕ → List ℕ) → Option SpanClaim → List ℕ
digest_or_none H None = []
digest_or_none H (Some claim) = claim_digest H claim

abbrev pub digest_in : (List ℕ → List ℕ) → Bundle → ℕ → List ℕ
digest_in H B e = digest_or_none H (claim_in H B e)
