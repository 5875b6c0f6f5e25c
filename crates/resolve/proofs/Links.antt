-- The links of calls, one after the other. H is the digest function.
use Rattle.std.proofs.Common.{◌≡◌, ℕ, ◌+◌, ◌<◌, ◌≤◌, List, [], ◌∷◌, ◌++◌, length, take, drop, get_or, Option, Some, None, refl, sym, ap, ap₂, ◌∙◌, arith}
use Rattle.std.specs.Prelude.{option_map}
use Rattle.std.specs.List.{All}
use Rattle.std.proofs.lemmas.List.{take_more, take_all, drop_more, length_push}
use Rattle.std.proofs.lemmas.List.Elements.{All-nil, All-push}
use Rattle.host_calls.specs.declared.call.AssumeCall.{AssumeCall}
use Rattle.std.proofs.lemmas.Option.{same_Some}
use Rattle.claim_types.specs.Claims.{ok_digest}
use Rattle.receipt_types.specs.Bundles.{Entry}
use Rattle.resolve.specs.Bundling.{first_with, with_first, links_for}
use Rattle.resolve.specs.Resolving.{or_later, first_unanswered}
use Rattle.resolve.specs.Parts.{digests_of, place_in}
use Rattle.resolve.proofs.Places.{first_is_next, place_low}

pub record HasLinks (first : Option ℕ) (others : Option (List ℕ)) (links : List ℕ) : Type 0 where
  pub link : ℕ
  pub rest : List ℕ
  pub is_link : first ≡ Some link
  pub is_rest : others ≡ Some rest
  pub is : links ≡ link ∷ rest

pub has_links : (first : Option ℕ) (others : Option (List ℕ)) (links : List ℕ) → with_first first others ≡ Some links → HasLinks first others links
has_links (Some link) (Some rest) links h = record { link = link; rest = rest; is_link = refl; is_rest = refl; is = sym (same_Some (link ∷ rest) links h) }
has_links (Some link) None links h = absurd (cc)
has_links None others links h = absurd (cc)

module _ (H : List ℕ → List ℕ) (entries : List Entry) where
  -- with the link of one call more
  links_more : (calls : List AssumeCall) (links : List ℕ) (call : AssumeCall) (link : ℕ) → links_for H entries calls ≡ Some links → first_with H (ok_digest H call) 1 entries ≡ Some link
      → links_for H entries (calls ++ call ∷ []) ≡ Some (links ++ link ∷ [])
  links_more [] links call link h found =
      ap (λ (o : Option ℕ). with_first o (Some [])) found ∙ ap (λ (ls : List ℕ). Some (ls ++ link ∷ [])) (same_Some [] links h)
  links_more (x ∷ calls) links call link h found =
      let l = has_links (first_with H (ok_digest H x) 1 entries) (links_for H entries calls) links h in
      ap₂ with_first l.is_link (links_more calls l.rest call link l.is_rest found) ∙ ap (λ (ls : List ℕ). Some (ls ++ link ∷ [])) (sym l.is)

  -- where each call has its link, none is unanswered
  pub all_answered : (k : ℕ) (calls : List AssumeCall) (links : List ℕ) → links_for H entries calls ≡ Some links → first_unanswered H entries k calls ≡ None
  all_answered k [] links h = refl
  all_answered k (call ∷ calls) links h =
      let l = has_links (first_with H (ok_digest H call) 1 entries) (links_for H entries calls) links h in
      ap₂ (λ (o p : Option ℕ). or_later o k p) l.is_link (all_answered (k + 1) calls l.rest l.is_rest)

-- the first k calls have these links, and the first unanswered call is one of the calls from call k on
pub record LinksSoFar (H : List ℕ → List ℕ) (claims : List (List ℕ)) (calls : List AssumeCall) (k : ℕ) (links : List ℕ) : Type 0 where
  pub count : length links ≡ k
  pub low : All (λ link. link ≤ length claims) links
  pub are : (entries : List Entry) → claims ≡ digests_of H entries → links_for H entries (take k calls) ≡ Some links
  pub later : (entries : List Entry) → claims ≡ digests_of H entries → first_unanswered H entries 0 calls ≡ first_unanswered H entries k (drop k calls)

module _ (H : List ℕ → List ℕ) (claims : List (List ℕ)) (calls : List AssumeCall) where
  pub none_linked : LinksSoFar H claims calls 0 []
  none_linked = record { count = refl; low = All-nil (λ link. link ≤ length claims); are = λ entries same. refl; later = λ entries same. refl }

  module _ (k : ℕ) (links : List ℕ) (so_far : LinksSoFar H claims calls k links) where
    module _ (call d : AssumeCall) (wanted : List ℕ) (place : Option ℕ) (low : k < length calls) (is : call ≡ get_or calls k d) (asks : wanted ≡ ok_digest H call) (at : place ≡ place_in wanted 0 claims) where
      found_is : (entries : List Entry) → claims ≡ digests_of H entries → first_with H (ok_digest H call) 1 entries ≡ option_map (λ n. n + 1) place
      found_is entries same = first_is_next H (ok_digest H call) entries claims place same (at ∙ ap (λ (w : List ℕ). place_in w 0 claims) asks)

      later_here : (entries : List Entry) → claims ≡ digests_of H entries
          → first_unanswered H entries 0 calls ≡ or_later (option_map (λ n. n + 1) place) k (first_unanswered H entries (k + 1) (drop (k + 1) calls))
      later_here entries same =
          so_far.later entries same
          ∙ ap (first_unanswered H entries k) (drop_more calls k d low ∙ ap (λ (x : AssumeCall). x ∷ drop (k + 1) calls) (sym is))
          ∙ ap (λ (o : Option ℕ). or_later o k (first_unanswered H entries (k + 1) (drop (k + 1) calls))) (found_is entries same)

      -- call k is not answered
      pub call_missed : place ≡ None → (entries : List Entry) → claims ≡ digests_of H entries → first_unanswered H entries 0 calls ≡ Some k
      call_missed none entries same = later_here entries same ∙ ap (λ (o : Option ℕ). or_later (option_map (λ n. n + 1) o) k (first_unanswered H entries (k + 1) (drop (k + 1) calls))) none

      -- it is
      pub call_linked : (n : ℕ) → place ≡ Some n → LinksSoFar H claims calls (k + 1) (links ++ (n + 1) ∷ [])
      call_linked n some =
          let below = place_low wanted 0 claims n (sym at ∙ some) in
          let next : n + 1 ≤ length claims = omega (arith, below) in
          record {
            count = length_push links (n + 1) ∙ ap (λ (m : ℕ). m + 1) so_far.count;
            low = All-push (λ link. link ≤ length claims) links (n + 1) so_far.low next;
            are =
                λ entries same.
                ap (links_for H entries) (take_more calls k d low ∙ ap (λ (x : AssumeCall). take k calls ++ x ∷ []) (sym is))
                ∙ links_more H entries (take k calls) links call (n + 1) (so_far.are entries same) (found_is entries same ∙ ap (option_map (λ (m : ℕ). m + 1)) some);
            later =
                λ entries same.
                later_here entries same ∙ ap (λ (o : Option ℕ). or_later (option_map (λ m. m + 1) o) k (first_unanswered H entries (k + 1) (drop (k + 1) calls))) some;
          }

    pub all_linked : length calls ≤ k → (entries : List Entry) → claims ≡ digests_of H entries → links_for H entries calls ≡ Some links
    all_linked all entries same = ap (links_for H entries) (sym (take_all k calls all)) ∙ so_far.are entries same
