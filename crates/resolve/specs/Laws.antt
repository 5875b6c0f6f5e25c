-- What holds of the bundles that are put together. H is the digest function.
use Rattle.std.specs.Prelude.{◌≡◌, ℕ, ◌<◌, ◌≤◌, List, length, All, Some}
use Rattle.claim_types.specs.declared.claim.Exit.TheVariants.{Halted}
use Rattle.claim_types.specs.States.{state_digest}
use Rattle.receipt_types.specs.Bundles.{Bundle}
use Rattle.receipt_types.specs.Limits.{AllSealLimits, KeepsLimits}
use Rattle.lift_join.specs.Joins.{chain_of}
use Rattle.lift_join.specs.Chained.{Chained}
use Rattle.check_core.specs.Checked.{IsAccepted}
use Rattle.check_core.specs.Judgement.{Accepts}
use Rattle.resolve.specs.Bundling.{resolved_bundle}
use Rattle.resolve.specs.Resolving.{IsResolved}
use Rattle.receipt_types.specs.declared.sizes.TheConstants.{MOST_LINKS, MOST_SEALS}

-- a bundle of what is proved of a run that halts, and of accepted others, is accepted under the digest of the run's first state
abbrev pub ResolvedIsAccepted : (List ℕ → List ℕ) → Type 0
ResolvedIsAccepted H = (proved : Chained) (others : List Bundle) (B : Bundle) (code : ℕ) → chain_of H proved.seals ≡ Some proved.claim → proved.claim.exit ≡ Halted code
    → All (λ other. IsAccepted H other) others → resolved_bundle H proved others ≡ Some B → Accepts H B (state_digest H proved.claim.before)

-- and keeps the limits of a receipt, where its parts do
abbrev pub ResolvedKeepsLimits : (List ℕ → List ℕ) → Type 0
ResolvedKeepsLimits H = (proved : Chained) (others : List Bundle) (B : Bundle) → AllSealLimits proved.seals → 0 < length proved.seals → length proved.seals ≤ MOST_SEALS
    → length proved.claim.calls ≤ MOST_LINKS → All (λ other. KeepsLimits other) others → IsResolved H proved others B → KeepsLimits B
