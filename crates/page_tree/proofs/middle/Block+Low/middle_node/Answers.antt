use Rattle.page_tree.specs.Blocks.{page_of_low}
use Rattle.page_tree.proofs.Children.{child_node, absent_node}
use Rattle.page_tree.proofs.middle.Block+Low.middle_node.Goals as goal
use Rattle.std.proofs.Common.{◌∙◌, arith}

pub returns-in-Some : goal.returns-in-Some
returns-in-Some g c =
    c.low_node.ensures ∙ child_node g.D.Digester.digest_of page_of_low 6 c.args.height c.args.index c.args.self.now.children.items c.in-Some.low.now (omega arith) c.in-Some.ensures

pub returns-in-None : goal.returns-in-None
returns-in-None g c =
    c.at.ensures ∙ absent_node g.D.Digester.digest_of page_of_low 6 c.args.height c.args.index c.args.self.now.children.items (omega arith) c.in-None.ensures
