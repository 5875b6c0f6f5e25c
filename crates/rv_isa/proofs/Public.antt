-- The lemmas that crates above may cite stand in these files.
-- a word as eight hexadecimal digits
pub use Rattle.rv_isa.proofs.HexWords
