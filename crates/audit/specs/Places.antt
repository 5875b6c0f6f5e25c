-- Where a receipt and an image's uncut run differ first: the places of the pairs that an audit compares, in their order. H is the digest function.
use Rattle.std.specs.Prelude.{ℕ, ◌+◌, List, [], ◌∷◌, Option, Some, None, option_map, option_and_then}
use Rattle.std.specs.Option.{option_or}
use Rattle.host_calls.specs.declared.call.AssumeCall.{AssumeCall}
use Rattle.rv_step.specs.Machine.{State as MachineState, full}
use Rattle.rv_step.specs.Runs.{start, after}
use Rattle.page_core.specs.Images.{Image}
use Rattle.page_core.specs.Memories.{page_of}
use Rattle.part_tree.specs.Splits.{Pair, differ}
use Rattle.part_tree.specs.declared.sizes.TheConstants.{HEIGHT}
use Rattle.collide.specs.Places.{place_of}
use Rattle.claim_types.specs.Claims.{SpanClaim, resolved_output, claim_string, ok_output, ok_string}
use Rattle.receipt_types.specs.Seals.{Seal, words_of}
use Rattle.receipt_types.specs.Bundles.{Entry, Bundle, item}
use Rattle.lift_join.specs.Joins.{chain_of}
use Rattle.check_core.specs.Entries.{first_of, claim_in}
use Rattle.check_core.specs.Auditing.{first_pair}
use Rattle.audit.specs.declared.disagreement.Place.{Place}
use Rattle.audit.specs.declared.disagreement.Place.TheVariants.{State, Tree, Claim, Output}

-- this place, where there is a pair
abbrev pub place_if : Place → Option Pair → Option Place
place_if place found = option_map (λ pair. place) found

-- the first node of the seals' trees that isn't the run's; they are numbered from k on, and the run is in this state where they begin
abbrev pub seals_place : (List ℕ → List ℕ) → ℕ → Option MachineState → List Seal → Option Place
seals_place H k o [] = None
seals_place H k None (seal ∷ seals) = None
seals_place H k (Some s) (seal ∷ seals) =
    option_or (option_map (λ node. Tree k node.0 node.1) (place_of H (page_of (full s)) HEIGHT 0 seal.tree))
    (seals_place H (k + 1) (after s seal.steps) seals)

-- the claim of the entry that call k is linked to, and its output
abbrev pub link_place : (List ℕ → List ℕ) → ℕ → Option SpanClaim → AssumeCall → Option Place
link_place H k None call = None
link_place H k (Some claim) call =
    option_or (place_if (Claim k) (differ (claim_string H claim) (ok_string H call)))
    (place_if (Output k) (differ (resolved_output H claim) (ok_output H call)))

abbrev pub calls_place : (List ℕ → List ℕ) → Bundle → ℕ → List AssumeCall → List ℕ → Option Place
calls_place H B k [] links = None
calls_place H B k (call ∷ calls) [] = None
calls_place H B k (call ∷ calls) (link ∷ links) = option_or (link_place H k (claim_in H B link) call) (calls_place H B (k + 1) calls links)

abbrev pub claim_place : (List ℕ → List ℕ) → Bundle → Option SpanClaim → List ℕ → Option Place
claim_place H B None links = None
claim_place H B (Some claim) links = calls_place H B 0 claim.calls links

-- the first state, then the seals in order, then the calls in order
abbrev pub entry_place : (List ℕ → List ℕ) → Bundle → Entry → Image → Option Place
entry_place H B entry image =
    option_or (place_if State (first_pair H (first_of H entry.seals) image))
    (option_or (seals_place H 0 (Some (start image (words_of entry.seals))) entry.seals)
    (claim_place H B (chain_of H entry.seals) entry.links))

abbrev pub place_in : (List ℕ → List ℕ) → Bundle → ℕ → Image → Option Place
place_in H B e image = option_and_then (λ entry. entry_place H B entry image) (item B e)
