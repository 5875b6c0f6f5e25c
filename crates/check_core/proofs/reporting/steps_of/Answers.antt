use Rattle.std.proofs.Common.{◌≡◌, ◌+◌, ℕ, [], ◌∷◌, map, take, get_or, sym, ap, ap₂, ◌∙◌, arith}
use Rattle.std.specs.Arc.{arc_value}
use Rattle.std.proofs.lemmas.List.{take_more, map-append}
use Rattle.receipt_types.specs.Seals.{Seal, steps_of as sum}
use Rattle.receipt_codec.proofs.Written.{limits_at}
use Rattle.check_core.proofs.Steps.{steps_more}
use Rattle.check_core.proofs.reporting.steps_of.Goals as goal

pub loop-seal-preserved : goal.loop-seal-preserved
loop-seal-preserved c =
    let (so_far, low) = c.loop-seal.invariant in
    let i : ℕ = c.loop-seal.seal-index in
    let items = c.args.seals.now in
    let here : Seal = arc_value (get_or items i c.seal-item.result) in
    let value : c.deref.result.now ≡ here = c.deref.ensures ∙ ap (λ seal. arc_value seal) c.seal-item.is in
    let steps : c.from-steps.result ≡ here.steps = c.from-steps.ensures ∙ ap (λ (seal : Seal). seal.steps) (c.behind-seal.view_is ∙ value) in
    let few = (limits_at (λ seal. arc_value seal) items i c.seal-item.result c.loop-seal-test.true c.requires.limits).numbers.few_steps in (
      ap₂ (λ (a b : ℕ). a + b) so_far steps ∙ sym (steps_more (map (λ seal. arc_value seal) (take i items)) here)
          ∙ sym (ap (λ xs. sum (map (λ seal. arc_value seal) xs)) (take_more items i c.seal-item.result c.loop-seal-test.true)
          ∙ ap sum (map-append (λ seal. arc_value seal) (take i items) (get_or items i c.seal-item.result ∷ []))),
      omega (arith, low, steps, few),
    )
