-- What a replay makes are bytes: its memory, its journal and the digests of its calls.
use Rattle.std.proofs.Common.{◌≡◌, ℕ, ◌-◌, ◌<◌, List, [], ◌∷◌, Some, sym, subst}
use Rattle.std.proofs.lemmas.List.Elements.{All-nil, All-append}
use Rattle.digest_core.specs.Digests.{IsBytes}
use Rattle.rv_step.specs.Machine.{State}
use Rattle.rv_step.specs.Runs.{after}
use Rattle.seal_replay.specs.Replay.{enter, ending}
use Rattle.claim_types.specs.declared.claim.Exit.{Exit}
use Rattle.claim_types.specs.declared.claim.Exit.TheVariants.{Split, Halted as HaltedWith}
use Rattle.rv_step.specs.Acts.{AreCalls, IsMade}
use Rattle.rv_step.proofs.Made.{AreCalls-append}
use Rattle.rv_step.proofs.Kept.{step_keeps}
use Rattle.rv_step.proofs.Runs.{run_keeps}
use Rattle.seal_replay.proofs.Chains.{splits, halts}
use Rattle.claim_types.specs.Claims.{SpanClaim}
use Rattle.receipt_types.specs.Seals.{Seal, IsSeal}
use Rattle.seal_replay.specs.Claiming.{claim_of}
use Rattle.lift_join.specs.Joins.{chain_of}
use Rattle.receipt_types.specs.Bundles.{AreSeals}
use Rattle.check_core.proofs.Codes.{fill_small}
use Rattle.lift_join.proofs.Inversion.{has_claim, joins}

run_made : (s : State) (n : ℕ) (t : State) → IsMade s → after s n ≡ Some t → IsMade t
run_made s n t = run_keeps IsMade (λ u v e. (step_keeps u v e).made) s n t

enter_made : (seal : Seal) → IsSeal seal → IsMade (enter seal)
enter_made seal good = record { memory = fill_small seal.tree good.shape; journal = All-nil (λ (b : ℕ). b < 256); calls = tt }

-- ---- so it is where a replay ends, and for the claims
pub end_made : (seal : Seal) (exit : Exit) (t : State) → IsSeal seal → ending seal ≡ Some (exit, t) → IsMade t
end_made seal Split t good e = run_made (enter seal) seal.steps t (enter_made seal good) (splits seal t e)
end_made seal (HaltedWith code) t good e = run_made (enter seal) (seal.steps - 1) t (enter_made seal good) (halts seal code t e).0

pub record ClaimMade (claim : SpanClaim) : Type 0 where
  pub journal : IsBytes claim.journal
  pub calls : AreCalls claim.calls

seal_made : (H : List ℕ → List ℕ) (seal : Seal) (claim : SpanClaim) → IsSeal seal → claim_of H seal ≡ Some claim → ClaimMade claim
seal_made H seal claim good e =
    let h = has_claim H seal claim e in
    let made = end_made seal h.exit h.state good h.ends in
    subst (λ (c : SpanClaim). ClaimMade c) (sym h.is) (record { journal = made.journal; calls = made.calls })

pub chain_made : (H : List ℕ → List ℕ) (seals : List Seal) (claim : SpanClaim) → AreSeals seals → chain_of H seals ≡ Some claim → ClaimMade claim
chain_made H [] claim good chain = absurd (cc)
chain_made H (seal ∷ []) claim good chain = seal_made H seal claim good.0 chain
chain_made H (seal ∷ next ∷ seals) claim good chain =
    let j = joins (claim_of H seal) (chain_of H (next ∷ seals)) claim chain in
    let left = seal_made H seal j.left good.0 j.is_left in
    let right = chain_made H (next ∷ seals) j.right good.1 j.is_right in
    subst (λ (c : SpanClaim). ClaimMade c) (sym j.is)
    (record {
      journal = All-append (λ (b : ℕ). b < 256) j.left.journal j.right.journal left.journal right.journal;
      calls = AreCalls-append j.left.calls j.right.calls left.calls right.calls;
    })
