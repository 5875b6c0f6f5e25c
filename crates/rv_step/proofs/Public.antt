-- The lemmas that crates above may cite stand in these files.
-- memories with the registers written into them
pub use Rattle.rv_step.proofs.Full
-- what a footprint contains
pub use Rattle.rv_step.proofs.Feet
-- the act of every state is sound, by cases on the instruction
pub use Rattle.rv_step.proofs.Acts
-- the frame of a step: it reads what its footprint shows, and writes nothing else
pub use Rattle.rv_step.proofs.Frame
-- bytes that are read and written, and calls that name digests
pub use Rattle.rv_step.proofs.Made
-- what a step leaves, by cases on its act
pub use Rattle.rv_step.proofs.Kept
-- how large a step is
pub use Rattle.rv_step.proofs.Small
-- a run over pages that its footprints lie in
pub use Rattle.rv_step.proofs.Runs
-- bytes, halfwords and words of a memory
pub use Rattle.rv_step.proofs.Words
-- what looking at a step tells: its footprint, its cost and its fault
pub use Rattle.rv_step.proofs.Looks
-- the act that is next, and what doing it answers
pub use Rattle.rv_step.proofs.Steps
-- steps that merely go on, one after the other
pub use Rattle.rv_step.proofs.QuickSteps
