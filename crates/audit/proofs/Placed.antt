-- The pair of an audit stands at its place. H is the digest function.
use Rattle.std.proofs.Common.{◌≡◌, ℕ, zero, suc, ◌+◌, Bool, true, false, cond, List, [], ◌∷◌, take, drop, Option, Some, None, refl, ap, ◌∙◌, subst, arith}
use Rattle.std.specs.Prelude.{IfSome, option_map, option_and_then}
use Rattle.std.specs.Option.{option_or}
use Rattle.std.specs.Str.{bytes_eq}
use Rattle.std.proofs.lemmas.Option.{same_Some}
use Rattle.host_calls.specs.declared.call.AssumeCall.{AssumeCall}
use Rattle.rv_step.specs.Machine.{State as MachineState, full}
use Rattle.rv_step.specs.Runs.{start, after}
use Rattle.rv_step.proofs.Runs.{after-add}
use Rattle.page_core.specs.Images.{Image}
use Rattle.page_core.specs.Memories.{page_of}
use Rattle.part_tree.specs.Tree.{node_string}
use Rattle.part_tree.specs.Splits.{Pair, differ, split_of}
use Rattle.collide.specs.Places.{place_of}
use Rattle.collide.proofs.Found.{split_strings}
use Rattle.collide.proofs.Nodes.{split_place}
use Rattle.claim_types.specs.declared.state.State.{State as SystemState}
use Rattle.claim_types.specs.States.{state_string, image_string}
use Rattle.claim_types.specs.Claims.{SpanClaim, resolved_output, claim_string, ok_output, ok_string}
use Rattle.receipt_types.specs.Seals.{Seal, words_of, steps_of}
use Rattle.receipt_types.specs.Bundles.{Entry, Bundle, item}
use Rattle.lift_join.specs.Joins.{chain_of}
use Rattle.check_core.specs.Auditing.{seals_pair, link_pair, calls_pair, first_pair, claim_pair, entry_pair, audit_pair}
use Rattle.check_core.specs.Entries.{first_of, claim_in}
use Rattle.audit.specs.declared.disagreement.Place.{Place}
use Rattle.audit.specs.declared.disagreement.Place.TheVariants.{State, Tree, Claim, Output}
use Rattle.audit.specs.Laws.{IsLinkedCall, StandAt, AreOne, PlacesHavePairs}
use Rattle.audit.specs.Places.{place_if, seals_place, link_place, calls_place, claim_place, entry_place, place_in}

-- ---- a list from a place on
item_from : {A : Type 0} (xs : List A) (k : ℕ) (x : A) (rest : List A) → drop k xs ≡ x ∷ rest → item xs k ≡ Some x
item_from [] zero x rest is = absurd (cc)
item_from [] (suc k) x rest is = absurd (cc)
item_from (y ∷ xs) zero x rest is = cc
item_from (y ∷ xs) (suc k) x rest is = item_from xs k x rest is

drop_from : {A : Type 0} (xs : List A) (k : ℕ) (x : A) (rest : List A) → drop k xs ≡ x ∷ rest → drop (suc k) xs ≡ rest
drop_from [] zero x rest is = absurd (cc)
drop_from [] (suc k) x rest is = absurd (cc)
drop_from (y ∷ xs) zero x rest is = cc
drop_from (y ∷ xs) (suc k) x rest is = drop_from xs k x rest is

steps_from : (seals : List Seal) (k : ℕ) (seal : Seal) (rest : List Seal) → drop k seals ≡ seal ∷ rest → steps_of (take (suc k) seals) ≡ steps_of (take k seals) + seal.steps
steps_from [] zero seal rest is = absurd (cc)
steps_from [] (suc k) seal rest is = absurd (cc)
steps_from (x ∷ seals) zero seal rest is = let same : x ≡ seal = cc in omega (arith, ap (λ (s : Seal). s.steps) same)
steps_from (x ∷ seals) (suc k) seal rest is = omega (arith, steps_from seals k seal rest is)

module _ (H : List ℕ → List ℕ) (B : Bundle) (e : ℕ) (image : Image) where
  -- the first of two
  one_or : (o p : Option Pair) (q r : Option Place) → AreOne H B e image o q → AreOne H B e image p r → AreOne H B e image (option_or o p) (option_or q r)
  one_or None p None r a b = b
  one_or (Some pair) p (Some place) r a b = a
  one_or None p (Some place) r a b = absurd a
  one_or (Some pair) p None r a b = absurd a

  -- two strings at a place
  differ_one : (x y : List ℕ) (place : Place) → StandAt H B e image place (record { left = x; right = y }) → AreOne H B e image (differ x y) (place_if place (differ x y))
  differ_one x y place stand = go (bytes_eq x y)
    where
      go : (b : Bool) → AreOne H B e image (cond b None (Some (record { left = x; right = y }))) (place_if place (cond b None (Some (record { left = x; right = y }))))
      go true = tt
      go false = stand

  module _ (entry : Entry) (is_entry : item B e ≡ Some entry) where
    -- ---- the first state
    state_one : (o : Option SystemState) → first_of H entry.seals ≡ o → AreOne H B e image (first_pair H o image) (place_if State (first_pair H o image))
    state_one None is = tt
    state_one (Some first) is =
        differ_one (state_string H first) (image_string H image) State
        (record { first = first; is_first = ap (option_and_then (λ (x : Entry). first_of H x.seals)) is_entry ∙ is; left = refl; right = refl })

    -- ---- the seals
    abbrev r : MachineState
    r = start image (words_of entry.seals)

    tree_one : (k : ℕ) (seal : Seal) (s : MachineState) → item entry.seals k ≡ Some seal → after r (steps_of (take k entry.seals)) ≡ Some s → (o : Option Pair) (p : Option (ℕ × ℕ))
        → split_of H (page_of (full s)) 18 0 seal.tree ≡ o → option_map (λ (pair : Pair). pair.right) o ≡ option_map (λ (place : ℕ × ℕ). node_string H (page_of (full s)) place.0 place.1) p
        → AreOne H B e image o (option_map (λ (node : ℕ × ℕ). Tree k node.0 node.1) p)
    tree_one k seal s is_seal reached None None split same = tt
    tree_one k seal s is_seal reached (Some pair) (Some node) split same = record {
      entry = entry;
      is_entry = is_entry;
      seal = seal;
      is_seal = is_seal;
      state = s;
      reached = reached;
      left = (split_strings H (page_of (full s)) 18 0 seal.tree pair split).0;
      right = same_Some pair.right (node_string H (page_of (full s)) node.0 node.1) same;
    }
    tree_one k seal s is_seal reached None (Some node) split same = absurd (cc)
    tree_one k seal s is_seal reached (Some pair) None split same = absurd (cc)

    seals_one : (k : ℕ) (o : Option MachineState) (rest : List Seal) → drop k entry.seals ≡ rest → after r (steps_of (take k entry.seals)) ≡ o
        → AreOne H B e image (seals_pair H o rest) (seals_place H k o rest)
    seals_one k o [] here at = tt
    seals_one k None (seal ∷ rest) here at = tt
    seals_one k (Some s) (seal ∷ rest) here at =
        let next : suc k ≡ k + 1 = omega arith in
        one_or (split_of H (page_of (full s)) 18 0 seal.tree) (seals_pair H (after s seal.steps) rest)
        (option_map (λ (node : ℕ × ℕ). Tree k node.0 node.1) (place_of H (page_of (full s)) 18 0 seal.tree)) (seals_place H (k + 1) (after s seal.steps) rest)
        (tree_one k seal s (item_from entry.seals k seal rest here) at (split_of H (page_of (full s)) 18 0 seal.tree) (place_of H (page_of (full s)) 18 0 seal.tree) refl (split_place H (page_of (full s)) 18 0 seal.tree))
        (subst (λ (n : ℕ). AreOne H B e image (seals_pair H (after s seal.steps) rest) (seals_place H n (after s seal.steps) rest)) next
        (seals_one (suc k) (after s seal.steps) rest (drop_from entry.seals k seal rest here)
        (ap (after r) (steps_from entry.seals k seal rest here) ∙ after-add r (steps_of (take k entry.seals)) seal.steps s at)))

    -- ---- the calls
    module _ (claim : SpanClaim) (is_claim : chain_of H entry.seals ≡ Some claim) where
      link_one : (k : ℕ) (call : AssumeCall) (link : ℕ) → item claim.calls k ≡ Some call → item entry.links k ≡ Some link → (o : Option SpanClaim) → claim_in H B link ≡ o
          → AreOne H B e image (link_pair H o call) (link_place H k o call)
      link_one k call link is_call is_link None is_linked = tt
      link_one k call link is_call is_link (Some linked) is_linked =
          let at : IsLinkedCall H B e k = record {
            entry = entry;
            is_entry = is_entry;
            claim = claim;
            is_claim = is_claim;
            call = call;
            is_call = is_call;
            link = link;
            is_link = is_link;
            linked = linked;
            is_linked = is_linked;
          } in
          one_or (differ (claim_string H linked) (ok_string H call)) (differ (resolved_output H linked) (ok_output H call))
          (place_if (Claim k) (differ (claim_string H linked) (ok_string H call))) (place_if (Output k) (differ (resolved_output H linked) (ok_output H call)))
          (differ_one (claim_string H linked) (ok_string H call) (Claim k) (at, refl, refl))
          (differ_one (resolved_output H linked) (ok_output H call) (Output k) (at, refl, refl))

      calls_one : (k : ℕ) (calls : List AssumeCall) (links : List ℕ) → drop k claim.calls ≡ calls → drop k entry.links ≡ links
          → AreOne H B e image (calls_pair H B calls links) (calls_place H B k calls links)
      calls_one k [] links here there = tt
      calls_one k (call ∷ calls) [] here there = tt
      calls_one k (call ∷ calls) (link ∷ links) here there =
          let next : suc k ≡ k + 1 = omega arith in
          one_or (link_pair H (claim_in H B link) call) (calls_pair H B calls links) (link_place H k (claim_in H B link) call) (calls_place H B (k + 1) calls links)
          (link_one k call link (item_from claim.calls k call calls here) (item_from entry.links k link links there) (claim_in H B link) refl)
          (subst (λ (n : ℕ). AreOne H B e image (calls_pair H B calls links) (calls_place H B n calls links)) next
          (calls_one (suc k) calls links (drop_from claim.calls k call calls here) (drop_from entry.links k link links there)))

    claim_one : (o : Option SpanClaim) → chain_of H entry.seals ≡ o → AreOne H B e image (claim_pair H B o entry.links) (claim_place H B o entry.links)
    claim_one None is = tt
    claim_one (Some claim) is = calls_one claim is 0 claim.calls entry.links refl refl

    -- ---- the entry
    entry_one : AreOne H B e image (entry_pair H B entry image) (entry_place H B entry image)
    unfolding after
    entry_one =
        one_or (first_pair H (first_of H entry.seals) image) _ (place_if State (first_pair H (first_of H entry.seals) image)) _ (state_one (first_of H entry.seals) refl)
        (one_or (seals_pair H (Some r) entry.seals) (claim_pair H B (chain_of H entry.seals) entry.links)
        (seals_place H 0 (Some r) entry.seals) (claim_place H B (chain_of H entry.seals) entry.links)
        (seals_one 0 (Some r) entry.seals refl refl) (claim_one (chain_of H entry.seals) refl))

  item_one : (o : Option Entry) → item B e ≡ o
      → AreOne H B e image (option_and_then (λ (entry : Entry). entry_pair H B entry image) o) (option_and_then (λ (entry : Entry). entry_place H B entry image) o)
  item_one None is = tt
  item_one (Some entry) is = entry_one entry is

pub places_have_pairs : (H : List ℕ → List ℕ) → PlacesHavePairs H
places_have_pairs H B e image = item_one H B e image (item B e) refl

-- ---- what is known of one or the other
module _ (H : List ℕ → List ℕ) (B : Bundle) (e : ℕ) (image : Image) where
  pub stands : (place : Place) → place_in H B e image ≡ Some place → IfSome (audit_pair H B e image) (λ pair. StandAt H B e image place pair)
  stands place is = go (audit_pair H B e image) (subst (AreOne H B e image (audit_pair H B e image)) is (places_have_pairs H B e image))
    where
      go : (o : Option Pair) → AreOne H B e image o (Some place) → IfSome o (λ pair. StandAt H B e image place pair)
      go None one = tt
      go (Some pair) one = one

  pub none_stands : IfSome (audit_pair H B e image) (λ pair. Unit {0})
  none_stands = go (audit_pair H B e image)
    where
      go : (o : Option Pair) → IfSome o (λ pair. Unit {0})
      go None = tt
      go (Some pair) = tt
