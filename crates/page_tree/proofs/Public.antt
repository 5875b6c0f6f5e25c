-- The lemmas that crates above may cite stand in these files.
-- the part tree of a memory rests on the pages below its node
pub use Rattle.page_tree.proofs.Parted
-- stored pages that others are put into
pub use Rattle.page_tree.proofs.Merged
-- numbers of pages that ascend, and those below the sides of a node
pub use Rattle.page_tree.proofs.Sides
