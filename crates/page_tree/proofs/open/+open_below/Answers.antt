use Rattle.std.proofs.Common.{arith, sym, ◌∙◌, ap, ap₂}
use Rattle.std.proofs.lemmas.Result.{IfOk-weaker}
use Rattle.page_core.specs.Stored.{stored_pages}
use Rattle.part_tree.specs.Part.{branch, leaf, pruned}
use Rattle.part_tree.proofs.Below.{sides_fit}
use Rattle.page_tree.proofs.Parts.{no_page, some_page, part_none, part_leaf, part_branch}
use Rattle.page_tree.proofs.open.+open_below.Goals as goal

pub returns-then-is_empty : goal.returns-then-is_empty
returns-then-is_empty g t c =
    ap pruned c.node_at.ensures
    ∙ sym (part_none g.D.Digester.digest_of (stored_pages c.args.tree.now) c.args.height c.args.index c.args.pages.now (no_page c.args.pages.now c.is_empty.result c.is_empty.ensures c.if-is_empty.true))

pub returns-then-height-eq0 : goal.returns-then-height-eq0
returns-then-height-eq0 g t c =
    let some = some_page c.args.pages.now c.is_empty.result c.is_empty.ensures c.if-is_empty.false in
    IfOk-weaker c.leaf.result _ _
    (λ tree made. made ∙ ap leaf c.bytes_of.ensures
    ∙ sym (part_leaf g.D.Digester.digest_of (stored_pages c.args.tree.now) c.args.height c.args.index c.args.pages.now c.if-height-eq0.true some c.requires.below))
    c.leaf.ensures

pub open_below-requires-clause-fits : goal.open_below-requires-clause-fits
open_below-requires-clause-fits g t c κs within =
    omega (arith, sides_fit c.args.height c.args.index (omega arith) c.requires.low c.requires.fits)

pub open_below-requires-2-clause-fits : goal.open_below-requires-2-clause-fits
open_below-requires-2-clause-fits g t c κs within =
    sides_fit c.args.height c.args.index (omega arith) c.requires.low c.requires.fits

pub returns : goal.returns
returns g t c =
    let some = some_page c.args.pages.now c.is_empty.result c.is_empty.ensures c.if-is_empty.false in
    let sides = c.sides_of.ensures in
    IfOk-weaker c.branch-alloc.result _ _
    (λ tree made. made ∙ ap₂ branch c.in_ok-left.ensures c.in_ok-right.ensures
    ∙ sym (part_branch g.D.Digester.digest_of (stored_pages c.args.tree.now) c.args.height c.args.index c.args.pages.now c.sides_of.result.0.now c.sides_of.result.1.now
    (omega arith) some c.requires.below sides.all sides.left sides.right))
    c.branch-alloc.ensures
