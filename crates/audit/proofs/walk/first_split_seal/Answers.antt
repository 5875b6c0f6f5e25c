use Rattle.std.proofs.Common.{◌≡◌, ℕ, ◌<◌, List, length, get_or, map, refl, sym, ap, ◌∙◌, subst, arith}
use Rattle.std.specs.Prelude.{option_map, IfNone}
use Rattle.std.specs.Arc.{arc_value}
use Rattle.page_core.specs.Images.{Image, IsImage}
use Rattle.page_core.specs.Stored.{Stored, stored_pages}
use Rattle.part_tree.specs.Canonical.{IsCanonical}
use Rattle.part_tree.specs.Part.{Part, root_of, Agree}
use Rattle.part_tree.specs.Splits.{split_of}
use Rattle.part_tree.specs.Tree.{root}
use Rattle.collide.specs.Places.{place_of}
use Rattle.elf_image.specs.Loaded.{image_of}
use Rattle.receipt_types.specs.Seals.{Seal, words_of}
use Rattle.flat_machine.specs.Going.{IsRunOf}
use Rattle.audit.specs.declared.disagreement.Place.TheVariants.{Tree}
use Rattle.audit.specs.Walking.{GoesThrough, HasGone}
use Rattle.audit.proofs.Compared.{map_bytes}
use Rattle.audit.proofs.Steps.{within_map}
use Rattle.audit.proofs.Walked.{AtSeal, seals_form, stands_first, at_first, halts_some, is_first}
use Rattle.audit.proofs.Turns.{limits_here, root_here, pair_here, place_here, pair_over, place_over, through, turn_next}
use Rattle.audit.proofs.walk.first_split_seal.Goals as goal

pub loop-walk-init : goal.loop-walk-init
loop-walk-init g c =
    let H = g.D.Digester.digest_of in
    let image : Image = image_of c.args.image.now in
    let seals : List Seal = map (λ seal. arc_value seal) c.args.seals.now in
    let is_image : IsImage image = record {
      aligned = c.args.image.now.aligned;
      below = c.args.image.now.below;
      bytes = map_bytes c.args.image.now.map c.requires.stored;
      rest = c.args.image.now.rest;
    } in
    let run : IsRunOf c.in_ok-copying.field-0 image (words_of seals) =
    subst (λ (words : List ℕ). IsRunOf c.in_ok-copying.field-0 image words) c.in_ok-words_of.ensures c.in_ok-copying.ensures.stands in
    subst (λ (tree : Stored). AtSeal H image seals 0 c.in_ok-copying.field-0 tree) (sym c.requires.tree)
    (at_first H image seals c.in_ok-copying.field-0 c.args.image.now.map (halts_some H seals c.requires.halts)
    (is_first image (words_of seals) c.args.image.now.map c.in_ok-copying.field-0 is_image c.requires.stored refl c.in_ok-copying.ensures.start run) c.in_ok-copying.ensures.start
    (stands_first H image seals is_image (seals_form seals c.requires.limits) c.requires.halts c.requires.first))

pub compare_tree-requires-clause-canonical : goal.compare_tree-requires-clause-canonical
compare_tree-requires-clause-canonical g c κs within =
    let is = c.deref.ensures ∙ ap (λ seal. arc_value seal) c.index-seals-number.is in
    subst IsCanonical (sym (ap (λ (s : Seal). s.tree) c.behind-seal.view_is))
    (limits_here g.D.Digester.digest_of (image_of c.args.image.now) (λ seal. arc_value seal) c.args.seals.now c.loop-walk.number c.index-seals-number.result
    c.loop-walk.walk.flat c.loop-walk.walk.tree c.deref.result.now is c.requires.limits c.loop-walk.invariant).tree

pub compare_tree-requires-clause-same_root : goal.compare_tree-requires-clause-same_root
compare_tree-requires-clause-same_root g c κs within =
    let H = g.D.Digester.digest_of in
    let is = c.deref.ensures ∙ ap (λ seal. arc_value seal) c.index-seals-number.is in
    subst (λ (t : Part). root_of H t ≡ root H (stored_pages c.loop-walk.walk.tree)) (sym (ap (λ (s : Seal). s.tree) c.behind-seal.view_is))
    (root_here H (image_of c.args.image.now) (λ seal. arc_value seal) c.args.seals.now c.loop-walk.number c.index-seals-number.result
    c.loop-walk.walk.flat c.loop-walk.walk.tree c.deref.result.now is c.requires.limits c.loop-walk.invariant)

pub returns-then-is_some-clause-pair : goal.returns-then-is_some-clause-pair
returns-then-is_some-clause-pair g c =
    let H = g.D.Digester.digest_of in
    let image : Image = image_of c.args.image.now in
    let tree = c.loop-walk.walk.tree in
    let inside : Seal = c.deref.result.now in
    let is : inside ≡ arc_value (get_or c.args.seals.now c.loop-walk.number c.index-seals-number.result) = c.deref.ensures ∙ ap (λ seal. arc_value seal) c.index-seals-number.is in
    let tree_is = ap (λ (s : Seal). s.tree) c.behind-seal.view_is in
    let pair = c.in_ok-found.ensures.pair ∙ ap (split_of H (stored_pages tree) 18 0) tree_is in
    let place = c.in_ok-found.ensures.place ∙ ap (λ (t : Part). option_map (λ (node : ℕ × ℕ). Tree c.loop-walk.number node.0 node.1) (place_of H (stored_pages tree) 18 0 t)) tree_is in
    pair_here H image (λ seal. arc_value seal) c.args.seals.now c.loop-walk.number c.index-seals-number.result c.loop-walk.walk.flat tree inside is c.requires.limits c.loop-walk.invariant
    c.in_ok-found.found pair place (sym c.is_some.ensures ∙ c.if-is_some.true)

pub returns-then-is_some-clause-place : goal.returns-then-is_some-clause-place
returns-then-is_some-clause-place g c =
    let H = g.D.Digester.digest_of in
    let image : Image = image_of c.args.image.now in
    let tree = c.loop-walk.walk.tree in
    let inside : Seal = c.deref.result.now in
    let is : inside ≡ arc_value (get_or c.args.seals.now c.loop-walk.number c.index-seals-number.result) = c.deref.ensures ∙ ap (λ seal. arc_value seal) c.index-seals-number.is in
    let tree_is = ap (λ (s : Seal). s.tree) c.behind-seal.view_is in
    let pair = c.in_ok-found.ensures.pair ∙ ap (split_of H (stored_pages tree) 18 0) tree_is in
    let place = c.in_ok-found.ensures.place ∙ ap (λ (t : Part). option_map (λ (node : ℕ × ℕ). Tree c.loop-walk.number node.0 node.1) (place_of H (stored_pages tree) 18 0 t)) tree_is in
    place_here H image (λ seal. arc_value seal) c.args.seals.now c.loop-walk.number c.index-seals-number.result c.loop-walk.walk.flat tree inside is c.requires.limits c.loop-walk.invariant
    c.in_ok-found.found pair place (sym c.is_some.ensures ∙ c.if-is_some.true)

pub returns-then-number-seals-clause-pair : goal.returns-then-number-seals-clause-pair
returns-then-number-seals-clause-pair g c =
    let H = g.D.Digester.digest_of in
    let image : Image = image_of c.args.image.now in
    let tree = c.loop-walk.walk.tree in
    let inside : Seal = c.deref.result.now in
    let is : inside ≡ arc_value (get_or c.args.seals.now c.loop-walk.number c.index-seals-number.result) = c.deref.ensures ∙ ap (λ seal. arc_value seal) c.index-seals-number.is in
    let tree_is = ap (λ (s : Seal). s.tree) c.behind-seal.view_is in
    let pair = c.in_ok-found.ensures.pair ∙ ap (split_of H (stored_pages tree) 18 0) tree_is in
    let place = c.in_ok-found.ensures.place ∙ ap (λ (t : Part). option_map (λ (node : ℕ × ℕ). Tree c.loop-walk.number node.0 node.1) (place_of H (stored_pages tree) 18 0 t)) tree_is in
    pair_over H image (λ seal. arc_value seal) c.args.seals.now c.loop-walk.number c.index-seals-number.result c.loop-walk.walk.flat tree inside is c.requires.limits c.loop-walk.invariant
    c.in_ok-found.found pair place (sym c.is_some.ensures ∙ c.if-is_some.false) (omega (arith, c.if-number-seals.true))

pub returns-then-number-seals-clause-place : goal.returns-then-number-seals-clause-place
returns-then-number-seals-clause-place g c =
    let H = g.D.Digester.digest_of in
    let image : Image = image_of c.args.image.now in
    let tree = c.loop-walk.walk.tree in
    let inside : Seal = c.deref.result.now in
    let is : inside ≡ arc_value (get_or c.args.seals.now c.loop-walk.number c.index-seals-number.result) = c.deref.ensures ∙ ap (λ seal. arc_value seal) c.index-seals-number.is in
    let tree_is = ap (λ (s : Seal). s.tree) c.behind-seal.view_is in
    let pair = c.in_ok-found.ensures.pair ∙ ap (split_of H (stored_pages tree) 18 0) tree_is in
    let place = c.in_ok-found.ensures.place ∙ ap (λ (t : Part). option_map (λ (node : ℕ × ℕ). Tree c.loop-walk.number node.0 node.1) (place_of H (stored_pages tree) 18 0 t)) tree_is in
    place_over H image (λ seal. arc_value seal) c.args.seals.now c.loop-walk.number c.index-seals-number.result c.loop-walk.walk.flat tree inside is c.requires.limits c.loop-walk.invariant
    c.in_ok-found.found pair place (sym c.is_some.ensures ∙ c.if-is_some.false) (omega (arith, c.if-number-seals.true))

pub go_through-requires-clause-goes : goal.go_through-requires-clause-goes
go_through-requires-clause-goes g c κs within =
    let H = g.D.Digester.digest_of in
    let image : Image = image_of c.args.image.now in
    let tree = c.loop-walk.walk.tree in
    let inside : Seal = c.deref.result.now in
    let is : inside ≡ arc_value (get_or c.args.seals.now c.loop-walk.number c.index-seals-number.result) = c.deref.ensures ∙ ap (λ seal. arc_value seal) c.index-seals-number.is in
    let tree_is = ap (λ (s : Seal). s.tree) c.behind-seal.view_is in
    let pair = c.in_ok-found.ensures.pair ∙ ap (split_of H (stored_pages tree) 18 0) tree_is in
    let place = c.in_ok-found.ensures.place ∙ ap (λ (t : Part). option_map (λ (node : ℕ × ℕ). Tree c.loop-walk.number node.0 node.1) (place_of H (stored_pages tree) 18 0 t)) tree_is in
    let agree = subst (λ (t : Part). IfNone c.in_ok-found.found (Agree H (stored_pages tree) 18 0 t)) tree_is c.in_ok-found.ensures.agrees in
    let again : inside ≡ c.deref-in-loop-walk.result.now = c.deref.ensures ∙ sym c.deref-in-loop-walk.ensures in
    let low : c.loop-walk.number < length c.args.seals.now = within_map (λ seal. arc_value seal) c.args.seals.now c.loop-walk.number c.loop-walk.invariant.low in
    subst (GoesThrough c.loop-walk.walk.flat tree) again
    (through H image (λ seal. arc_value seal) c.args.seals.now c.loop-walk.number c.index-seals-number.result c.loop-walk.walk.flat tree inside is c.requires.limits c.loop-walk.invariant
    c.in_ok-found.found pair place (sym c.is_some.ensures ∙ c.if-is_some.false) (omega (arith, c.if-number-seals.false, low)) agree c.requires.few)

pub go_through-requires-clause-canonical : goal.go_through-requires-clause-canonical
go_through-requires-clause-canonical g c κs within =
    let is = c.deref-in-loop-walk.ensures ∙ ap (λ seal. arc_value seal) c.index-seals-number.is in
    (limits_here g.D.Digester.digest_of (image_of c.args.image.now) (λ seal. arc_value seal) c.args.seals.now c.loop-walk.number c.index-seals-number.result
    c.loop-walk.walk.flat c.loop-walk.walk.tree c.deref-in-loop-walk.result.now is c.requires.limits c.loop-walk.invariant).tree

pub loop-walk-preserved : goal.loop-walk-preserved
loop-walk-preserved g c =
    let H = g.D.Digester.digest_of in
    let image : Image = image_of c.args.image.now in
    let tree = c.loop-walk.walk.tree in
    let inside : Seal = c.deref.result.now in
    let is : inside ≡ arc_value (get_or c.args.seals.now c.loop-walk.number c.index-seals-number.result) = c.deref.ensures ∙ ap (λ seal. arc_value seal) c.index-seals-number.is in
    let tree_is = ap (λ (s : Seal). s.tree) c.behind-seal.view_is in
    let pair = c.in_ok-found.ensures.pair ∙ ap (split_of H (stored_pages tree) 18 0) tree_is in
    let place = c.in_ok-found.ensures.place ∙ ap (λ (t : Part). option_map (λ (node : ℕ × ℕ). Tree c.loop-walk.number node.0 node.1) (place_of H (stored_pages tree) 18 0 t)) tree_is in
    let agree = subst (λ (t : Part). IfNone c.in_ok-found.found (Agree H (stored_pages tree) 18 0 t)) tree_is c.in_ok-found.ensures.agrees in
    let again : inside ≡ c.deref-in-loop-walk.result.now = c.deref.ensures ∙ sym c.deref-in-loop-walk.ensures in
    let low : c.loop-walk.number < length c.args.seals.now = within_map (λ seal. arc_value seal) c.args.seals.now c.loop-walk.number c.loop-walk.invariant.low in
    turn_next H image (λ seal. arc_value seal) c.args.seals.now c.loop-walk.number c.index-seals-number.result c.loop-walk.walk.flat tree inside is c.requires.limits c.loop-walk.invariant
    c.in_ok-found.found pair place (sym c.is_some.ensures ∙ c.if-is_some.false) (omega (arith, c.if-number-seals.false, low)) agree
    c.go_through.new.self.flat c.go_through.new.self.tree
    (subst (HasGone c.loop-walk.walk.flat c.go_through.new.self.flat c.go_through.new.self.tree) (sym again) c.in_ok-go_through.ensures)
