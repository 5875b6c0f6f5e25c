-- The lemmas that crates above may cite stand in these files.
-- the words of lines, one after the other
pub use Rattle.guest_gen.proofs.Lines
