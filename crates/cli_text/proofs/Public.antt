-- The lemmas that crates above may cite stand in these files.
-- words name at most one job of the checker, and one of the prover
pub use Rattle.cli_text.proofs.OneCheck
pub use Rattle.cli_text.proofs.OneProve
