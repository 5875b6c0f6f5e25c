-- The lemmas that crates above may cite stand in these files.
-- how a run is cut: which of its steps are done, which of them fit, and the segments and seals one at a time
pub use Rattle.executor.proofs.Cutting
-- the segments of a run have all steps that are done, and these are the steps up to its outcome
pub use Rattle.executor.proofs.Covered
-- a step with the words that another reads and the pages that it touches does what the other does
pub use Rattle.executor.proofs.Forward
-- the seal of a stretch of a run claims what the run does there
pub use Rattle.executor.proofs.Claimed
-- a run has one outcome under a limit
pub use Rattle.executor.proofs.Outcomes
