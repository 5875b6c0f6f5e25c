use Rattle.std.proofs.Common.{◌≡◌, ◌<◌, ◌-◌, ◌^◌, ℕ, subst, ◌∙◌, arith}
use Rattle.std.specs.Arc.{arc_value}
use Rattle.page_tree.specs.Blocks.{page_of_top}
use Rattle.page_tree.proofs.Whole.{whole_node}
use Rattle.page_tree.proofs.tree.PageTree.node_at.Goals as goal

pub returns-then-height-eq-HEIGHT : goal.returns-then-height-eq-HEIGHT
returns-then-height-eq-HEIGHT g c =
    let whole : c.args.height ≡ 18 = omega arith in
    let one : c.args.index < 2 ^ (18 - 18) = subst (λ (h : ℕ). c.args.index < 2 ^ (18 - h)) whole c.requires.fits in
    let first : c.args.index ≡ 0 = omega arith in
    rw (whole, first) (c.self.invariant.1 ∙ whole_node (page_of_top (arc_value c.self.inside.top)) c.args.self.now c.self.view_is g.D.Digester.digest_of 18 0 (omega arith) (omega arith))

pub returns-else-height-eq-HEIGHT : goal.returns-else-height-eq-HEIGHT
returns-else-height-eq-HEIGHT g c =
    (rw (c.deref.ensures, c.from-height.ensures) at c.top_node.ensures)
    ∙ whole_node (page_of_top (arc_value c.self.inside.top)) c.args.self.now c.self.view_is g.D.Digester.digest_of c.args.height c.args.index c.requires.low c.requires.fits
