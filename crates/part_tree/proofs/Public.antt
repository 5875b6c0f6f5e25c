-- The lemmas that crates above may cite stand in these files.
-- which pages are below a node
pub use Rattle.part_tree.proofs.Below
-- lists of strings
pub use Rattle.part_tree.proofs.Strings
-- a part tree in which the changed pages are open
pub use Rattle.part_tree.proofs.Change
-- the open pages of a part tree
pub use Rattle.part_tree.proofs.Pages
-- the part trees of a memory
pub use Rattle.part_tree.proofs.Made
-- which pages a memory's part tree opens
pub use Rattle.part_tree.proofs.Asked
-- the first node at which a part tree and a memory split
pub use Rattle.part_tree.proofs.Splits
-- what a part tree that agrees with a memory shows of its bytes
pub use Rattle.part_tree.proofs.Shown
-- a memory's part tree has its canonical form
pub use Rattle.part_tree.proofs.Formed
