use Rattle.std.proofs.Common.{◌∙◌, arith}
use Rattle.std.specs.Arc.{arc_value}
use Rattle.page_tree.specs.Blocks.{page_of_top}
use Rattle.page_tree.proofs.Whole.{whole_node}
use Rattle.page_tree.proofs.tree.PageTree.root.Goals as goal

pub returns : goal.returns
returns g c =
    c.self.invariant.1 ∙ whole_node (page_of_top (arc_value c.self.inside.top)) c.args.self.now c.self.view_is g.D.Digester.digest_of 18 0 (omega arith) (omega arith)
