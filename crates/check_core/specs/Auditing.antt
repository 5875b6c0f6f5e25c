-- What an audit compares: the first two strings in which a receipt and an image's uncut run differ. H is the digest function.
use Rattle.std.specs.Prelude.{ℕ, List, [], ◌∷◌, Option, Some, None, option_and_then}
use Rattle.host_calls.specs.declared.call.AssumeCall.{AssumeCall}
use Rattle.rv_step.specs.Machine.{State, full}
use Rattle.page_core.specs.Images.{Image}
use Rattle.rv_step.specs.Runs.{start, after}
use Rattle.std.specs.Option.{option_or}
use Rattle.page_core.specs.Memories.{page_of}
use Rattle.part_tree.specs.Splits.{Pair, differ, split_of}
use Rattle.claim_types.specs.declared.state.State.{State as SystemState}
use Rattle.claim_types.specs.States.{state_string, image_string}
use Rattle.claim_types.specs.Claims.{SpanClaim, resolved_output, claim_string, ok_output, ok_string}
use Rattle.receipt_types.specs.Seals.{Seal, words_of}
use Rattle.lift_join.specs.Joins.{chain_of}
use Rattle.receipt_types.specs.Bundles.{Entry, Bundle, item}
use Rattle.check_core.specs.Entries.{first_of, claim_in}
use Rattle.part_tree.specs.declared.sizes.TheConstants.{HEIGHT}

-- the first of the seals' trees that isn't the run's, the run being in this state where the seals begin
abbrev pub seals_pair : (List ℕ → List ℕ) → Option State → List Seal → Option Pair
seals_pair H o [] = None
seals_pair H None (seal ∷ seals) = None
seals_pair H (Some s) (seal ∷ seals) = option_or (split_of H (page_of (full s)) HEIGHT 0 seal.tree) (seals_pair H (after s seal.steps) seals)

-- a linked entry's claim, and its output
abbrev pub link_pair : (List ℕ → List ℕ) → Option SpanClaim → AssumeCall → Option Pair
link_pair H None call = None
link_pair H (Some claim) call = option_or (differ (claim_string H claim) (ok_string H call)) (differ (resolved_output H claim) (ok_output H call))

abbrev pub calls_pair : (List ℕ → List ℕ) → Bundle → List AssumeCall → List ℕ → Option Pair
calls_pair H B [] links = None
calls_pair H B (call ∷ calls) [] = None
calls_pair H B (call ∷ calls) (link ∷ links) = option_or (link_pair H (claim_in H B link) call) (calls_pair H B calls links)

abbrev pub first_pair : (List ℕ → List ℕ) → Option SystemState → Image → Option Pair
first_pair H None image = None
first_pair H (Some first) image = differ (state_string H first) (image_string H image)

abbrev pub claim_pair : (List ℕ → List ℕ) → Bundle → Option SpanClaim → List ℕ → Option Pair
claim_pair H B None links = None
claim_pair H B (Some claim) links = calls_pair H B claim.calls links

-- the first state, then the seals in order, then the calls in order
abbrev pub entry_pair : (List ℕ → List ℕ) → Bundle → Entry → Image → Option Pair
entry_pair H B entry image =
    option_or (first_pair H (first_of H entry.seals) image)
    (option_or (seals_pair H (Some (start image (words_of entry.seals))) entry.seals)
    (claim_pair H B (chain_of H entry.seals) entry.links))

abbrev pub audit_pair : (List ℕ → List ℕ) → Bundle → ℕ → Image → Option Pair
audit_pair H B e image = option_and_then (λ entry. entry_pair H B entry image) (item B e)
