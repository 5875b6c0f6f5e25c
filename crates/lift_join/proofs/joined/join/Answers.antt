use Rattle.std.proofs.Common.{◌≡◌, map, ◌++◌, Some, sym, ap, ◌∙◌}
use Rattle.std.proofs.lemmas.List.{map-append}
use Rattle.std.specs.Arc.{arc_value}
use Rattle.claim_types.specs.Claims.{SpanClaim}
use Rattle.lift_join.specs.Joins.{chain_of}
use Rattle.lift_join.specs.Chained.{Chained}
use Rattle.lift_join.proofs.Joining.{chain_joined}
use Rattle.lift_join.proofs.Chained.{chained_same}
use Rattle.lift_join.proofs.joined.join.Goals as goal

pub returns-then-is_err-clause-handed_back : goal.returns-then-is_err-clause-handed_back
returns-then-is_err-clause-handed_back g c = (
  chained_same c.of.result c.args.left
      (c.of.ensures.seals ∙ ap (map (λ seal. arc_value seal)) c.reserve.ensures.items ∙ ap (λ (l : Chained). l.seals) c.left.view_is)
      (c.of.ensures.claim ∙ ap (λ (l : Chained). l.claim) c.left.view_is),
  chained_same c.of-then-is_err.result c.args.right
      (c.of-then-is_err.ensures.seals ∙ ap (λ (r : Chained). r.seals) c.right.view_is)
      (c.of-then-is_err.ensures.claim ∙ ap (λ (r : Chained). r.claim) c.right.view_is),
)

pub of-requires-in-Ok-after_bounds : goal.of-requires-in-Ok-after_bounds
of-requires-in-Ok-after_bounds g c κs within =
    let H = g.D.Digester.digest_of in
    let left : c.left.inside.claim ≡ c.args.left.claim = ap (λ (l : Chained). l.claim) c.left.view_is in
    let right : c.right.inside.claim ≡ c.args.right.claim = ap (λ (r : Chained). r.claim) c.right.view_is in
    let items = c.append_spare.ensures.items ∙ ap (λ xs. xs ++ c.right.inside.seals.items) c.reserve.ensures.items in
    ap (λ xs. chain_of H (map (λ seal. arc_value seal) xs)) items
    ∙ ap (chain_of H) (map-append (λ seal. arc_value seal) c.left.inside.seals.items c.right.inside.seals.items)
    ∙ chain_joined H (map (λ seal. arc_value seal) c.left.inside.seals.items) (map (λ seal. arc_value seal) c.right.inside.seals.items) c.left.inside.claim c.right.inside.claim c.left.invariant c.right.invariant
    (ap (λ (a : SpanClaim). a.exit) left ∙ c.requires.split)
    (ap (λ (a : SpanClaim). a.after) left ∙ c.requires.meets ∙ sym (ap (λ (b : SpanClaim). b.before) right))
    ∙ ap Some (sym c.in-Ok.ensures.ok)

pub returns-in-Err-clause-handed_back : goal.returns-in-Err-clause-handed_back
returns-in-Err-clause-handed_back g c = (
  chained_same c.of-in-Err.result c.args.left
      (c.of-in-Err.ensures.seals ∙ ap (map (λ seal. arc_value seal)) c.reserve.ensures.items ∙ ap (λ (l : Chained). l.seals) c.left.view_is)
      (c.of-in-Err.ensures.claim ∙ c.in-Err.ensures.err ∙ ap (λ (l : Chained). l.claim) c.left.view_is),
  chained_same c.of-in-Err-2.result c.args.right
      (c.of-in-Err-2.ensures.seals ∙ ap (λ (r : Chained). r.seals) c.right.view_is)
      (c.of-in-Err-2.ensures.claim ∙ c.in-Err.ensures.handed_back ∙ ap (λ (r : Chained). r.claim) c.right.view_is),
)
