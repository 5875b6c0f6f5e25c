-- The lemmas that crates above may cite stand in these files.
-- the seals of a run's stretches, and of its segments, chain to the claim of the whole
pub use Rattle.session.proofs.Chains
