-- What the first split of a part tree from a memory with its digest shows. H is the digest function.
use Rattle.std.specs.Prelude.{ℕ, List, ◌++◌, Contains}
use Rattle.digest_core.specs.Collisions.{IsCollision}
use Rattle.page_core.specs.Pages.{Pages}
use Rattle.part_tree.specs.Tree.{tree_strings}
use Rattle.part_tree.specs.Part.{Part, part_strings}
use Rattle.part_tree.specs.Splits.{Pair}
use Rattle.part_tree.specs.declared.sizes.TheConstants.{HEIGHT}

-- the left string is one of the part tree, the right one of the memory's tree, and they are a collision
pub record IsCollidingPair (H : List ℕ → List ℕ) (t : Part) (m : Pages) (pair : Pair) : Type 0 where
  pub of_tree : Contains (part_strings H t) pair.left
  pub of_memory : Contains (tree_strings H m HEIGHT 0) pair.right
  pub collision : IsCollision H (part_strings H t ++ tree_strings H m HEIGHT 0) pair.left pair.right
