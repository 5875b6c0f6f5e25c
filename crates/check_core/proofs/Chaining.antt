-- The claims of an entry's seals, one after the other. H is the digest function.
use Rattle.std.proofs.Common.{◌≡◌, ◌≢◌, ℕ, zero, suc, ◌+◌, ◌<◌, ◌≤◌, Bool, false, eqb, List, [], ◌∷◌, ◌++◌, length, take, drop, get_or, Option, Some, None, refl, sym, ap, ◌∙◌, subst, arith}
use Rattle.lift_join.proofs.Joining.{not_none, chain_joined}
use Rattle.std.proofs.Math.Dec.{eqb-suc-suc}
use Rattle.std.specs.Prelude.{option_map}
use Rattle.std.specs.Option.{option_or}
use Rattle.std.proofs.lemmas.Bool.Decides.{nat_tests}
use Rattle.std.proofs.lemmas.List.{take_more, take_all, drop_more, drop_all}
use Rattle.rv_step.specs.Machine.{State}
use Rattle.claim_types.specs.declared.claim.Exit.{Exit}
use Rattle.claim_types.specs.declared.claim.Exit.TheVariants.{Split}
use Rattle.claim_types.specs.declared.state.State.{State as SystemState}
use Rattle.claim_types.specs.Claims.{SpanClaim}
use Rattle.receipt_types.specs.Seals.{Seal}
use Rattle.seal_replay.specs.Replay.{stop_of, ending}
use Rattle.seal_replay.specs.Claiming.{before_of, after_of, claim_of}
use Rattle.page_core.proofs.Options.{first_none, second_none}
use Rattle.lift_join.specs.Joins.{joint_claim, chain_of}
use Rattle.lift_join.proofs.Inversion.{HasClaim, has_claim}
use Rattle.check_core.specs.declared.stop.CheckStop.{CheckStop}
use Rattle.check_core.specs.Judgement.{broken_stop, joint_stop, end_stop, seal_stop, no_more, seals_stop}
use Rattle.check_core.specs.Checking.{join_next}
use Rattle.check_core.proofs.Unstopped.{Meets, joint_meets, inner_splits}

abbrev pub after_chain : Option SpanClaim → Option SystemState
after_chain chain = option_map (λ claim. claim.after) chain

-- the claim of the seals so far, None for no seal
abbrev pub IsChained : (List ℕ → List ℕ) → List Seal → Option SpanClaim → Type 0
IsChained H [] chain = chain ≡ None
IsChained H (seal ∷ seals) chain = (claim : SpanClaim) × (chain ≡ Some claim) × (chain_of H (seal ∷ seals) ≡ Some claim)

abbrev pub GoesOn : Option SpanClaim → Type 0
GoesOn None = Unit {0}
GoesOn (Some claim) = claim.exit ≡ Split

-- the first k seals have this claim, which goes on where more come, and the first stop is one of those from seal k on
pub record HasChained (H : List ℕ → List ℕ) (e : ℕ) (seals : List Seal) (k : ℕ) (chain : Option SpanClaim) : Type 0 where
  pub stops : seals_stop H e 0 None seals ≡ seals_stop H e k (after_chain chain) (drop k seals)
  pub chained : IsChained H (take k seals) chain
  pub goes : drop k seals ≢ [] → GoesOn chain

pub none_chained : (H : List ℕ → List ℕ) (e : ℕ) (seals : List Seal) → HasChained H e seals 0 None
none_chained H e seals = record { stops = refl; chained = refl; goes = λ _. tt }

-- whether a seal is the last
pub last_is : (seals : List Seal) (k : ℕ) → k < length seals → eqb (k + 1) (length seals) ≡ no_more (drop (k + 1) seals)
last_is [] k low = absurd (omega arith)
last_is (seal ∷ []) zero low = refl
last_is (seal ∷ next ∷ seals) zero low = grind (arith, nat_tests)
last_is (seal ∷ seals) (suc k) low =
    let next : suc k + 1 ≡ suc (k + 1) = omega arith in
    ap (λ (n : ℕ). eqb n (suc (length seals))) next ∙ eqb-suc-suc (k + 1) (length seals) ∙ last_is seals k (omega arith) ∙ ap (λ (n : ℕ). no_more (drop n (seal ∷ seals))) (sym next)

module _ (H : List ℕ → List ℕ) (e k : ℕ) (seals : List Seal) (chain : Option SpanClaim) (seal d : Seal) (low : k < length seals) (is : seal ≡ get_or seals k d) (so_far : HasChained H e seals k chain) where
  here : drop k seals ≡ seal ∷ drop (k + 1) seals
  here = drop_more seals k d low ∙ ap (λ s. s ∷ drop (k + 1) seals) (sym is)

  stops_here : seals_stop H e 0 None seals ≡ seals_stop H e k (after_chain chain) (seal ∷ drop (k + 1) seals)
  stops_here = so_far.stops ∙ ap (seals_stop H e k (after_chain chain)) here

  -- a stop of this seal is the first
  pub stopped_here : (stop : CheckStop) → seal_stop H e k (after_chain chain) seal (no_more (drop (k + 1) seals)) ≡ Some stop → seals_stop H e 0 None seals ≡ Some stop
  stopped_here stop h =
      stops_here
      ∙ ap (λ (o : Option CheckStop). option_or o (seals_stop H e (k + 1) (option_map (after_of H seal) (ending seal)) (drop (k + 1) seals))) h

  module _ (next : SpanClaim) (claims : claim_of H seal ≡ Some next) (none : seal_stop H e k (after_chain chain) seal (no_more (drop (k + 1) seals)) ≡ None) where
    claim_is : HasClaim H seal next
    claim_is = has_claim H seal next claims

    after_broken : option_or (joint_stop e k (after_chain chain) (before_of H seal)) (end_stop e k (ending seal) (no_more (drop (k + 1) seals))) ≡ None
    after_broken = second_none (broken_stop e k (stop_of seal)) _ none

    meets : Meets (after_chain chain) next.before
    meets =
        subst (λ (s : SystemState). Meets (after_chain chain) s) (sym (ap (λ (c : SpanClaim). c.before) claim_is.is))
        (joint_meets e k (after_chain chain) (before_of H seal) (first_none (joint_stop e k (after_chain chain) (before_of H seal)) _ after_broken))

    ends_none : end_stop e k (Some (claim_is.exit, claim_is.state)) (no_more (drop (k + 1) seals)) ≡ None
    ends_none =
        subst (λ (o : Option (Exit × State)). end_stop e k o (no_more (drop (k + 1) seals)) ≡ None) claim_is.ends
        (second_none (joint_stop e k (after_chain chain) (before_of H seal)) _ after_broken)

    next_splits : drop (k + 1) seals ≢ [] → next.exit ≡ Split
    next_splits more =
        ap (λ (c : SpanClaim). c.exit) claim_is.is
        ∙ inner_splits e k (claim_is.exit, claim_is.state) (subst (λ (b : Bool). end_stop e k (Some (claim_is.exit, claim_is.state)) b ≡ None) (some_more (drop (k + 1) seals) more) ends_none)
      where
        some_more : (rest : List Seal) → rest ≢ [] → no_more rest ≡ false
        some_more [] n = absurd (n refl)
        some_more (x ∷ rest) n = refl

    stops_after : seals_stop H e 0 None seals ≡ seals_stop H e (k + 1) (Some next.after) (drop (k + 1) seals)
    stops_after =
        stops_here
        ∙ ap (λ (o : Option CheckStop). option_or o (seals_stop H e (k + 1) (option_map (after_of H seal) (ending seal)) (drop (k + 1) seals))) none
        ∙ ap (λ (o : Option (Exit × State)). seals_stop H e (k + 1) (option_map (after_of H seal) o) (drop (k + 1) seals)) claim_is.ends
        ∙ ap (λ (s : SystemState). seals_stop H e (k + 1) (Some s) (drop (k + 1) seals)) (sym (ap (λ (c : SpanClaim). c.after) claim_is.is))

    taken : take (k + 1) seals ≡ take k seals ++ seal ∷ []
    taken = take_more seals k d low ∙ ap (λ s. take k seals ++ s ∷ []) (sym is)

    joined_after : (before : Option SpanClaim) → (join_next before next).after ≡ next.after
    joined_after None = refl
    joined_after (Some claim) = refl

    joined_exit : (before : Option SpanClaim) → (join_next before next).exit ≡ next.exit
    joined_exit None = refl
    joined_exit (Some claim) = refl

    chain_with : (done : List Seal) (before : Option SpanClaim) → IsChained H done before → GoesOn before → Meets (after_chain before) next.before
        → IsChained H (done ++ seal ∷ []) (Some (join_next before next))
    chain_with [] before chained goes follows =
        (next, ap (λ (b : Option SpanClaim). Some (join_next b next)) chained, claims)
    chain_with (x ∷ done) before (claim, known, chain) goes follows =
        let split : claim.exit ≡ Split = subst GoesOn known goes in
        let meet : claim.after ≡ next.before = subst (λ (b : Option SpanClaim). Meets (after_chain b) next.before) known follows in
        (joint_claim claim next, ap (λ (b : Option SpanClaim). Some (join_next b next)) known, chain_joined H (x ∷ done) (seal ∷ []) claim next chain claims split meet)

    here_not_none : drop k seals ≢ []
    here_not_none e = not_none seal (drop (k + 1) seals) (sym here ∙ e)

    pub chained_on : HasChained H e seals (k + 1) (Some (join_next chain next))
    chained_on = record {
      stops = stops_after ∙ ap (λ (s : SystemState). seals_stop H e (k + 1) (Some s) (drop (k + 1) seals)) (sym (joined_after chain));
      chained =
          subst (λ (done : List Seal). IsChained H done (Some (join_next chain next))) (sym taken)
          (chain_with (take k seals) chain so_far.chained (so_far.goes here_not_none) meets);
      goes = λ more. joined_exit chain ∙ next_splits more;
    }

-- all seals
module _ (H : List ℕ → List ℕ) (e k : ℕ) (seals : List Seal) (chain : Option SpanClaim) (all : length seals ≤ k) (done : HasChained H e seals k chain) where
  none_left : drop k seals ≡ []
  none_left = drop_all k seals all

  pub chained_all : seals_stop H e 0 None seals ≡ None
  chained_all = done.stops ∙ ap (seals_stop H e k (after_chain chain)) none_left

  pub chain_all : (claim : SpanClaim) → chain ≡ Some claim → chain_of H seals ≡ Some claim
  chain_all claim is = known seals (subst (λ (xs : List Seal). IsChained H xs chain) (take_all k seals all) done.chained)
    where
      known : (xs : List Seal) → IsChained H xs chain → chain_of H xs ≡ Some claim
      known [] none = sym none ∙ is
      known (x ∷ xs) (c, same, chained) = chained ∙ sym same ∙ is

  pub some_chain : seals ≢ [] → chain ≢ None
  some_chain more none = known seals (subst (λ (xs : List Seal). IsChained H xs chain) (take_all k seals all) done.chained) more
    where
      known : (xs : List Seal) → IsChained H xs chain → xs ≢ [] → ⊥
      known [] h n = n refl
      known (x ∷ xs) (c, same, chained) n = some_is_none c (sym same ∙ none)
        where
          some_is_none : (c : SpanClaim) → Some c ≡ None → ⊥
          some_is_none c h = cc
