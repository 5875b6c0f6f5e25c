-- The lemmas that crates above may cite stand in these files.
-- which pages a step touches and what it costs at least
pub use Rattle.flat_machine.proofs.RunFeet
-- pages that ascend, and those that two memories have differently
pub use Rattle.flat_machine.proofs.Followed
