use Rattle.std.proofs.Common.{◌≡◌, ◌++◌, ℕ, List, [], ◌∷◌, map, take, get_or, sym, ap, ap₂, ◌∙◌}
use Rattle.std.specs.Arc.{arc_value}
use Rattle.std.proofs.lemmas.List.{take_more, map-append}
use Rattle.receipt_types.specs.Seals.{Seal, words_of as joined}
use Rattle.audit.proofs.Steps.{words_more}
use Rattle.audit.proofs.walk.words_of.Goals as goal

pub loop-seal-preserved : goal.loop-seal-preserved
loop-seal-preserved c =
    let i : ℕ = c.loop-seal.seal-index in
    let items = c.args.seals.now in
    let here : Seal = arc_value (get_or items i c.seal-item.result) in
    let value : c.deref.result.now ≡ here = c.deref.ensures ∙ ap (λ seal. arc_value seal) c.seal-item.is in
    let words : c.as_slice.result.now ≡ here.words = c.as_slice.ensures ∙ ap (λ (seal : Seal). seal.words) (c.behind-seal.view_is ∙ value) in
    c.in_ok-extend.ensures.ok ∙ ap₂ (λ (a b : List ℕ). a ++ b) c.loop-seal.invariant words
    ∙ sym (words_more (map (λ seal. arc_value seal) (take i items)) here)
    ∙ sym (ap (λ xs. joined (map (λ seal. arc_value seal) xs)) (take_more items i c.seal-item.result c.loop-seal-test.true)
    ∙ ap joined (map-append (λ seal. arc_value seal) (take i items) (get_or items i c.seal-item.result ∷ [])))
