use Rattle.part_tree.proofs.tree.PartTree.+add_opened.Given as goal

abbrev pub decreases-add_opened : goal.decreases-add_opened
decreases-add_opened l = l.height
