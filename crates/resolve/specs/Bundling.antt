-- The bundle of what is proved and of other bundles, whose entries answer its calls. H is the digest function.
use Rattle.std.specs.Prelude.{ℕ, ◌+◌, cond, List, [], ◌∷◌, ◌++◌, length, map, Option, Some, None, option_map}
use Rattle.std.specs.Str.{bytes_eq}
use Rattle.host_calls.specs.declared.call.AssumeCall.{AssumeCall}
use Rattle.claim_types.specs.Claims.{ok_digest}
use Rattle.receipt_types.specs.Bundles.{Entry, Bundle}
use Rattle.lift_join.specs.Joins.{chain_of}
use Rattle.lift_join.specs.Chained.{Chained}
use Rattle.check_core.specs.Entries.{digest_or_none}

-- an entry of a bundle whose first entry gets number k
abbrev pub raised_entry : ℕ → Entry → Entry
raised_entry k entry = record { links = map (λ link. k + link) entry.links; seals = entry.seals }

-- the entries of bundles, one after the other, the first of them with number k
abbrev pub placed_entries : ℕ → List Bundle → List Entry
placed_entries k [] = []
placed_entries k (B ∷ others) = map (raised_entry k) B ++ placed_entries (k + length B) others

-- the number of the first entry that has this claim digest, the first of them all with number k
abbrev pub first_with : (List ℕ → List ℕ) → List ℕ → ℕ → List Entry → Option ℕ
first_with H digest k [] = None
first_with H digest k (entry ∷ entries) = cond (bytes_eq digest (digest_or_none H (chain_of H entry.seals))) (Some k) (first_with H digest (k + 1) entries)

abbrev pub with_first : Option ℕ → Option (List ℕ) → Option (List ℕ)
with_first (Some link) (Some links) = Some (link ∷ links)
with_first (Some link) None = None
with_first None links = None

-- for each call the first of the entries after entry 0 that answers it, where each is answered
abbrev pub links_for : (List ℕ → List ℕ) → List Entry → List AssumeCall → Option (List ℕ)
links_for H entries [] = Some []
links_for H entries (call ∷ calls) = with_first (first_with H (ok_digest H call) 1 entries) (links_for H entries calls)

-- entry 0 with the proved seals, and then the others' entries
abbrev pub resolved_bundle : (List ℕ → List ℕ) → Chained → List Bundle → Option Bundle
resolved_bundle H proved others =
    option_map (λ links. (record { links = links; seals = proved.seals }) ∷ placed_entries 1 others) (links_for H (placed_entries 1 others) proved.claim.calls)
