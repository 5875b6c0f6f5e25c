-- What a `PartTree` is seen as.
use Rattle.part_tree.specs.declared.tree.PartTree.{PartTree}
use Rattle.part_tree.specs.declared.tree.PartTree.TheVariants.{Pruned, Branch', Leaf}
use Rattle.part_tree.specs.Part.{Part, pruned, branch, leaf}

-- the tree without where it lies in memory
abbrev pub part : PartTree → Part
part (Pruned digest) = pruned digest
part (Branch' p left q right) = branch (part left) (part right)
part (Leaf page) = leaf page.value
