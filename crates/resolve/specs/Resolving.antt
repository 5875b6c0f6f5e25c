-- What is answered where proved seals are put together with other bundles. H is the digest function.
use Rattle.std.specs.Prelude.{◌≡◌, ⊤, ℕ, ◌+◌, ◌<◌, ◌≤◌, List, [], ◌∷◌, length, map, Option, Some, None}
use Rattle.host_calls.specs.declared.call.AssumeCall.{AssumeCall}
use Rattle.claim_types.specs.Claims.{ok_digest}
use Rattle.receipt_types.specs.Bundles.{Entry, Bundle}
use Rattle.lift_join.specs.Chained.{Chained}
use Rattle.check_core.specs.Checked.{Checked}
use Rattle.resolve.specs.Bundling.{placed_entries, first_with, resolved_bundle}
use Rattle.resolve.specs.declared.stop.ResolveStop.{ResolveStop}
use Rattle.resolve.specs.declared.stop.ResolveStop.TheVariants.{NoReceiptFor, TooManyEntries, Memory}
use Rattle.receipt_types.specs.declared.sizes.TheConstants.{MOST_ENTRIES}

abbrev pub bundles_of : List Checked → List Bundle
bundles_of others = map (λ other. other.bundle) others

-- this is the bundle, and it has at most 256 entries
pub record IsResolved (H : List ℕ → List ℕ) (proved : Chained) (others : List Bundle) (B : Bundle) : Type 0 where
  pub is : resolved_bundle H proved others ≡ Some B
  pub few : length B ≤ MOST_ENTRIES

-- ---- refusals
abbrev pub or_later : Option ℕ → ℕ → Option ℕ → Option ℕ
or_later None k later = Some k
or_later (Some link) k later = later

-- the number of the first call that no entry answers, the first of them all with number k
abbrev pub first_unanswered : (List ℕ → List ℕ) → List Entry → ℕ → List AssumeCall → Option ℕ
first_unanswered H entries k [] = None
first_unanswered H entries k (call ∷ calls) = or_later (first_with H (ok_digest H call) 1 entries) k (first_unanswered H entries (k + 1) calls)

-- the first call that no entry answers; or, where each is answered, that there are more than 256 entries; or there was no memory
abbrev pub StopsResolve : (List ℕ → List ℕ) → List AssumeCall → List Bundle → ResolveStop → Type 0
StopsResolve H calls others (NoReceiptFor call) = first_unanswered H (placed_entries 1 others) 0 calls ≡ Some call
StopsResolve H calls others (TooManyEntries count) = (first_unanswered H (placed_entries 1 others) 0 calls ≡ None) × (count ≡ length (placed_entries 1 others) + 1) × (MOST_ENTRIES < count)
StopsResolve H calls others Memory = ⊤
