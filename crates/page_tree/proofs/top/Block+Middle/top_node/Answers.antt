use Rattle.page_tree.specs.Blocks.{page_of_middle}
use Rattle.page_tree.proofs.Children.{child_node, absent_node}
use Rattle.page_tree.proofs.top.Block+Middle.top_node.Goals as goal
use Rattle.std.proofs.Common.{◌∙◌, arith}

pub returns-in-Some : goal.returns-in-Some
returns-in-Some g c =
    c.middle_node.ensures ∙ child_node g.D.Digester.digest_of page_of_middle 12 c.args.height c.args.index c.args.self.now.children.items c.in-Some.middle.now (omega arith) c.in-Some.ensures

pub returns-in-None : goal.returns-in-None
returns-in-None g c =
    c.at.ensures ∙ absent_node g.D.Digester.digest_of page_of_middle 12 c.args.height c.args.index c.args.self.now.children.items (omega arith) c.in-None.ensures
