-- The lemmas that crates above may cite stand in these files.
-- what stands in an output after some parts were written
pub use Rattle.receipt_codec.proofs.Written
-- numbers, words and seals whose bytes are those of no other
pub use Rattle.receipt_codec.proofs.Seals
-- bytes spell at most one bundle
pub use Rattle.receipt_codec.proofs.Wholes
