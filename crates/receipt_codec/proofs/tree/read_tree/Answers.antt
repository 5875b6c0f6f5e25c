use Rattle.std.proofs.Common.{rules}
use Rattle.part_tree.specs.Views.{part}
use Rattle.receipt_codec.proofs.Trees.{no_other}
use Rattle.receipt_codec.proofs.tree.read_tree.Goals as goal

pub returns-then-not-is_canonical-clause-malformed : goal.returns-then-not-is_canonical-clause-malformed
returns-then-not-is_canonical-clause-malformed c =
    λ _. no_other (part c.in_ok-tree.tree) _ c.read_node.new.cursor (search rules) (search rules) (search rules)
