-- Seals that agree with an image's uncut run show how it ends.
use Rattle.std.proofs.Common.{◌≡◌, ℕ, ◌+◌, ◌-◌, List, [], ◌∷◌, ◌++◌, Some, sym, ap, ◌∙◌, subst}
use Rattle.rv_step.specs.Machine.{State, full}
use Rattle.page_core.specs.Images.{Image, IsImage}
use Rattle.rv_step.specs.Runs.{start}
use Rattle.claim_types.specs.declared.claim.Exit.{Exit}
use Rattle.claim_types.specs.declared.claim.Exit.TheVariants.{Split, Halted as HaltedWith}
use Rattle.seal_replay.specs.Replay.{ending}
use Rattle.seal_replay.proofs.Chains.{Chain, last, link, AllBegin, agreement_carries_over}
use Rattle.rv_step.specs.Laws.{HaltsAfter}
use Rattle.claim_types.specs.Claims.{SpanClaim}
use Rattle.receipt_types.specs.Seals.{Seal, words_of, steps_of}
use Rattle.seal_replay.specs.Claiming.{claim_of}
use Rattle.lift_join.specs.Joins.{chain_of}
use Rattle.receipt_types.specs.Bundles.{AreSeals}
use Rattle.check_core.specs.Vouching.{SealsAgree}
use Rattle.part_tree.proofs.Shown.{tree_shows}
use Rattle.lift_join.proofs.Inversion.{HasClaim, has_claim, joins}

-- the machine's chain
pub ends_with : (H : List ℕ → List ℕ) (seal : Seal) (claim : SpanClaim) (exit : Exit) → (h : HasClaim H seal claim) → claim.exit ≡ exit → ending seal ≡ Some (exit, h.state)
ends_with H seal claim exit h e = h.ends ∙ ap (λ (x : Exit). Some (x, h.state)) (sym (ap (λ (c : SpanClaim). c.exit) h.is) ∙ e)

chains : (H : List ℕ → List ℕ) (seals : List Seal) (claim : SpanClaim) (code : ℕ) → chain_of H seals ≡ Some claim → claim.exit ≡ HaltedWith code
    → Chain seals code claim.journal claim.calls
chains H [] claim code chain exit = absurd (cc)
chains H (seal ∷ []) claim code chain exit =
    let h = has_claim H seal claim chain in
    subst (λ (c : SpanClaim). Chain (seal ∷ []) code c.journal c.calls) (sym h.is)
    (last {seal = seal} {code = code} {t = h.state} h.clean (ends_with H seal claim (HaltedWith code) h exit))
chains H (seal ∷ next ∷ seals) claim code chain exit =
    let j = joins (claim_of H seal) (chain_of H (next ∷ seals)) claim chain in
    let h = has_claim H seal j.left j.is_left in
    let rest = chains H (next ∷ seals) j.right code j.is_right (sym (ap (λ (c : SpanClaim). c.exit) j.is) ∙ exit) in
    let here : Chain ((seal ∷ next ∷ seals)) code (h.state.journal ++ j.right.journal) (h.state.calls ++ j.right.calls) =
    link {seal = seal} {t = h.state} h.clean (ends_with H seal j.left Split h j.split) rest in
    let joined_here : Chain ((seal ∷ next ∷ seals)) code (j.left.journal ++ j.right.journal) (j.left.calls ++ j.right.calls) =
    subst (λ (c : SpanClaim). Chain ((seal ∷ next ∷ seals)) code (c.journal ++ j.right.journal) (c.calls ++ j.right.calls)) (sym h.is) here in
    subst (λ (c : SpanClaim). Chain ((seal ∷ next ∷ seals)) code c.journal c.calls) (sym j.is) joined_here

all_begin : (H : List ℕ → List ℕ) (r : State) (b : ℕ) (seals : List Seal) → AreSeals seals → SealsAgree H r b seals → AllBegin r b (seals)
all_begin H r b [] good agree = tt
all_begin H r b (seal ∷ seals) good agree = (
  good.0.some_steps,
  record { state = agree.0.state; reached = agree.0.reached; pc = agree.0.pc; shows = tree_shows H (full agree.0.state) seal.tree agree.0.agrees },
  all_begin H r (b + seal.steps) seals good.1 agree.1,
)

pub carries : (H : List ℕ → List ℕ) (image : Image) (seals : List Seal) (claim : SpanClaim) (code : ℕ) → IsImage image → AreSeals seals
    → chain_of H seals ≡ Some claim → claim.exit ≡ HaltedWith code → SealsAgree H (start image (words_of seals)) 0 seals
    → HaltsAfter (start image (words_of seals)) (steps_of seals - 1) code claim.journal claim.calls
carries H image seals claim code is_image good chain exit agree =
    agreement_carries_over image seals code claim.journal claim.calls is_image (chains H seals claim code chain exit)
    (all_begin H (start image (words_of seals)) 0 seals good agree)
