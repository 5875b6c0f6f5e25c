-- The calls of an entry and the entries that they are linked to, one after the other. H is the digest function.
use Rattle.std.proofs.Common.{◌≡◌, ℕ, zero, suc, ◌+◌, ◌<◌, ◌≤◌, List, [], ◌∷◌, length, drop, get_or, Option, Some, None, refl, sym, ap, ap₂, ◌∙◌}
use Rattle.std.specs.Option.{option_or}
use Rattle.std.proofs.lemmas.List.{drop_more, drop_all}
use Rattle.host_calls.specs.declared.call.AssumeCall.{AssumeCall}
use Rattle.part_tree.specs.Splits.{Pair}
use Rattle.claim_types.specs.Claims.{SpanClaim}
use Rattle.receipt_types.specs.Bundles.{Bundle}
use Rattle.check_core.specs.Auditing.{link_pair, calls_pair}
use Rattle.check_core.specs.Checking.{AreClaims}
use Rattle.check_core.specs.Entries.{claim_in}
use Rattle.audit.specs.declared.disagreement.Place.{Place}
use Rattle.audit.specs.Places.{link_place, calls_place}
use Rattle.audit.specs.Walking.{TellClaims}

module _ (H : List ℕ → List ℕ) where
  -- the claims of a bundle's entries, by their numbers
  pub tell_claims : (B : Bundle) (claims : List SpanClaim) → AreClaims H B claims → TellClaims H B claims
  tell_claims [] [] are e = refl
  tell_claims [] (claim ∷ claims) are e = absurd are
  tell_claims (entry ∷ B) [] are e = absurd are
  tell_claims (entry ∷ B) (claim ∷ claims) are zero = are.0
  tell_claims (entry ∷ B) (claim ∷ claims) are (suc e) = tell_claims B claims are.1 e

  module _ (B : Bundle) (k : ℕ) (calls : List AssumeCall) (links : List ℕ) where
    -- all calls are done
    pub pair_over : length calls ≤ k → calls_pair H B (drop k calls) (drop k links) ≡ None
    pair_over all = ap (λ (cs : List AssumeCall). calls_pair H B cs (drop k links)) (drop_all k calls all)

    pub place_over : length calls ≤ k → calls_place H B k (drop k calls) (drop k links) ≡ None
    place_over all = ap (λ (cs : List AssumeCall). calls_place H B k cs (drop k links)) (drop_all k calls all)

    -- call k
    module _ (call c : AssumeCall) (link l : ℕ) (claim : SpanClaim) (low : k < length calls) (low_link : k < length links) (is : call ≡ get_or calls k c) (is_link : link ≡ get_or links k l)
        (is_claim : claim_in H B link ≡ Some claim) where
      pair_here : calls_pair H B (drop k calls) (drop k links) ≡ option_or (link_pair H (Some claim) call) (calls_pair H B (drop (k + 1) calls) (drop (k + 1) links))
      pair_here =
          ap₂ (calls_pair H B)
          (drop_more calls k c low ∙ ap (λ (x : AssumeCall). x ∷ drop (k + 1) calls) (sym is))
          (drop_more links k l low_link ∙ ap (λ (x : ℕ). x ∷ drop (k + 1) links) (sym is_link))
          ∙ ap (λ (o : Option SpanClaim). option_or (link_pair H o call) (calls_pair H B (drop (k + 1) calls) (drop (k + 1) links))) is_claim

      place_here : calls_place H B k (drop k calls) (drop k links) ≡ option_or (link_place H k (Some claim) call) (calls_place H B (k + 1) (drop (k + 1) calls) (drop (k + 1) links))
      place_here =
          ap₂ (calls_place H B k)
          (drop_more calls k c low ∙ ap (λ (x : AssumeCall). x ∷ drop (k + 1) calls) (sym is))
          (drop_more links k l low_link ∙ ap (λ (x : ℕ). x ∷ drop (k + 1) links) (sym is_link))
          ∙ ap (λ (o : Option SpanClaim). option_or (link_place H k o call) (calls_place H B (k + 1) (drop (k + 1) calls) (drop (k + 1) links))) is_claim

      pub pair_linked : (pair : Pair) → link_pair H (Some claim) call ≡ Some pair → calls_pair H B (drop k calls) (drop k links) ≡ Some pair
      pair_linked pair found = pair_here ∙ ap (λ (o : Option Pair). option_or o (calls_pair H B (drop (k + 1) calls) (drop (k + 1) links))) found

      pub pair_same : link_pair H (Some claim) call ≡ None → calls_pair H B (drop k calls) (drop k links) ≡ calls_pair H B (drop (k + 1) calls) (drop (k + 1) links)
      pair_same none = pair_here ∙ ap (λ (o : Option Pair). option_or o (calls_pair H B (drop (k + 1) calls) (drop (k + 1) links))) none

      pub place_linked : (place : Place) → link_place H k (Some claim) call ≡ Some place → calls_place H B k (drop k calls) (drop k links) ≡ Some place
      place_linked place found = place_here ∙ ap (λ (o : Option Place). option_or o (calls_place H B (k + 1) (drop (k + 1) calls) (drop (k + 1) links))) found

      pub place_same : link_place H k (Some claim) call ≡ None → calls_place H B k (drop k calls) (drop k links) ≡ calls_place H B (k + 1) (drop (k + 1) calls) (drop (k + 1) links)
      place_same none = place_here ∙ ap (λ (o : Option Place). option_or o (calls_place H B (k + 1) (drop (k + 1) calls) (drop (k + 1) links))) none
