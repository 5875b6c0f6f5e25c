use Rattle.std.proofs.Common.{rules, ◌≡◌, ℕ, ◌+◌, ◌<◌, ⊎_elim, inl, inr, Bool, eqb, List, map, length, get_or, None, Some, Err, sym, ap, subst, ◌∙◌}
use Rattle.std.specs.Arc.{arc_value}
use Rattle.std.proofs.lemmas.List.{length-map}
use Rattle.std.proofs.Math.ListN.{get_or-map}
use Rattle.receipt_types.specs.Seals.{Seal}
use Rattle.receipt_types.specs.Bundles.{Entry}
use Rattle.receipt_types.specs.Limits.{SealLimits, AllSealLimits}
use Rattle.receipt_codec.proofs.Written.{limits_at}
use Rattle.check_core.specs.Judgement.{seal_stop, seals_stop}
use Rattle.check_core.proofs.Chaining.{HasChained, after_chain, last_is, stopped_here, chained_on}
use Rattle.check_core.proofs.chains.chain_claim.Goals as goal

pub with_seal-requires-after_bounds : goal.with_seal-requires-after_bounds
with_seal-requires-after_bounds g c κs within =
    let items = c.as_slice-seals.result.now in
    let same : map (λ seal. arc_value seal) items ≡ c.args.entry.now.seals = ap (map (λ seal. arc_value seal)) c.as_slice-seals.ensures ∙ ap (λ (e : Entry). e.seals) c.entry.view_is in
    let all = subst AllSealLimits (sym same) c.requires.limits in
    subst (λ (s : Seal). SealLimits s) (sym (c.deref.ensures ∙ ap (λ seal. arc_value seal) c.seal-item.is))
    (limits_at (λ seal. arc_value seal) items c.loop-seal.seal-index c.seal-item.result c.loop-seal-test.true all)

pub returns-in_err-with_seal-clause-stop : goal.returns-in_err-with_seal-clause-stop
returns-in_err-with_seal-clause-stop g c =
    let H = g.D.Digester.digest_of in
    let items = c.as_slice-seals.result.now in
    let seals : List Seal = map (λ seal. arc_value seal) items in
    let k : ℕ = c.loop-seal.place in
    let (place, so_far) = c.loop-seal.invariant in
    let same : seals ≡ c.args.entry.now.seals = ap (map (λ seal. arc_value seal)) c.as_slice-seals.ensures ∙ ap (λ (e : Entry). e.seals) c.entry.view_is in
    let low : k < length seals = subst (λ (n : ℕ). k < n) (sym (length-map items (λ seal. arc_value seal))) (subst (λ (n : ℕ). n < length items) (sym place) c.loop-seal-test.true) in
    let here : c.deref.result.now ≡ get_or seals k (arc_value c.seal-item.result) =
    c.deref.ensures ∙ ap (λ seal. arc_value seal) c.seal-item.is ∙ sym (get_or-map (λ seal. arc_value seal) items c.loop-seal.seal-index c.seal-item.result)
    ∙ ap (λ (n : ℕ). get_or seals n (arc_value c.seal-item.result)) (sym place) in
    let last : eqb (k + 1) (length items) ≡ _ = ap (eqb (k + 1)) (sym (length-map items (λ seal. arc_value seal))) ∙ last_is seals k low in
    let is : c.from_residual.result ≡ Err c.in_err-with_seal.field-0.0 = search rules in
    rw is
    (⊎_elim inl
    (λ stops.
    inr
    (ap (seals_stop H c.args.number 0 None) (sym same)
    ∙ stopped_here H c.args.number k seals c.loop-seal.chain c.deref.result.now (arc_value c.seal-item.result) low here so_far c.in_err-with_seal.field-0.0
    (subst (λ (b : Bool). seal_stop H c.args.number k (after_chain c.loop-seal.chain) c.deref.result.now b ≡ Some c.in_err-with_seal.field-0.0) last stops)))
    c.in_err-with_seal.ensures.stop)

pub loop-seal-preserved : goal.loop-seal-preserved
loop-seal-preserved g c =
    let H = g.D.Digester.digest_of in
    let items = c.as_slice-seals.result.now in
    let seals : List Seal = map (λ seal. arc_value seal) items in
    let k : ℕ = c.loop-seal.place in
    let (place, so_far) = c.loop-seal.invariant in
    let low : k < length seals = subst (λ (n : ℕ). k < n) (sym (length-map items (λ seal. arc_value seal))) (subst (λ (n : ℕ). n < length items) (sym place) c.loop-seal-test.true) in
    let here : c.deref.result.now ≡ get_or seals k (arc_value c.seal-item.result) =
    c.deref.ensures ∙ ap (λ seal. arc_value seal) c.seal-item.is ∙ sym (get_or-map (λ seal. arc_value seal) items c.loop-seal.seal-index c.seal-item.result)
    ∙ ap (λ (n : ℕ). get_or seals n (arc_value c.seal-item.result)) (sym place) in
    let last : eqb (k + 1) (length items) ≡ _ = ap (eqb (k + 1)) (sym (length-map items (λ seal. arc_value seal))) ∙ last_is seals k low in
    let (next, claims, joined) = c.in_ok-with_seal.ensures.joined in (
      ap (λ (n : ℕ). n + 1) place,
      subst (λ chain. HasChained H c.args.number seals (k + 1) (Some chain)) (sym joined)
          (chained_on H c.args.number k seals c.loop-seal.chain c.deref.result.now (arc_value c.seal-item.result) low here so_far next claims
          (subst (λ (b : Bool). seal_stop H c.args.number k (after_chain c.loop-seal.chain) c.deref.result.now b ≡ None) last c.in_ok-with_seal.ensures.unstopped)),
    )
