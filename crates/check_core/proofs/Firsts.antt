-- The first state of an accepted entry.
use Rattle.std.proofs.Common.{◌≡◌, ℕ, zero, suc, subst, List, [], ◌∷◌, Some, sym, ap, ◌∙◌}
use Rattle.std.proofs.lemmas.Option.{same_Some}
use Rattle.claim_types.specs.Claims.{SpanClaim}
use Rattle.receipt_types.specs.Seals.{Seal}
use Rattle.receipt_types.specs.Bundles.{Entry, Bundle, item}
use Rattle.seal_replay.specs.Claiming.{claim_of}
use Rattle.lift_join.specs.Joins.{chain_of}
use Rattle.lift_join.proofs.Inversion.{has_claim, joins}
use Rattle.check_core.specs.Entries.{first_of}
use Rattle.check_core.specs.Judgement.{EntryAccepted, AllAccepted}

-- the chain's state before is that of its first seal
pub first_is : (H : List ℕ → List ℕ) (seals : List Seal) (claim : SpanClaim) → chain_of H seals ≡ Some claim → first_of H seals ≡ Some claim.before
first_is H [] claim h = absurd (cc)
first_is H (seal ∷ []) claim h = ap (λ (c : SpanClaim). Some c.before) (sym (has_claim H seal claim h).is)
first_is H (seal ∷ next ∷ seals) claim h =
    let j = joins (claim_of H seal) (chain_of H (next ∷ seals)) claim h in
    ap (λ (c : SpanClaim). Some c.before) (sym (has_claim H seal j.left j.is_left).is) ∙ ap (λ (c : SpanClaim). Some c.before) (sym j.is)

-- ---- an entry by its number
pub accepted_at : (H : List ℕ → List ℕ) (B : Bundle) (entries : List Entry) (e : ℕ) (entry : Entry) → AllAccepted H B entries → item entries e ≡ Some entry → EntryAccepted H B entry
accepted_at H B [] e entry all h = absurd (cc)
accepted_at H B (x ∷ entries) zero entry all h = subst (λ (y : Entry). EntryAccepted H B y) (same_Some x entry h) all.0
accepted_at H B (x ∷ entries) (suc e) entry all h = accepted_at H B entries e entry all.1 h
