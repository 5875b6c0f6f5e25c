-- The lemmas that crates above may cite stand in these files.
-- the strings of a split
pub use Rattle.collide.proofs.Found
-- there is a split exactly where there is a place
pub use Rattle.collide.proofs.Nodes
