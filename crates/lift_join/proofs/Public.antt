-- The lemmas that crates above may cite stand in these files.
-- chains, taken apart
pub use Rattle.lift_join.proofs.Inversion
-- claims may be joined in any order
pub use Rattle.lift_join.proofs.Joining
