use Rattle.part_tree.specs.Views.{part}
use Rattle.part_tree.proofs.Pages.{open_below}
use Rattle.part_tree.proofs.tree.PartTree.write.Goals as goal

pub write_below-requires-clause-below : goal.write_below-requires-clause-below
write_below-requires-clause-below c = open_below 18 0 c.args.number (part c.args.self.now) c.requires.shape c.requires.open
