-- The lemmas that crates above may cite stand in these files.
-- the registers that a seal shows are those of the state
pub use Rattle.seal_replay.proofs.Registers
-- chains of seals that agree with a run
pub use Rattle.seal_replay.proofs.Chains
-- a replay without a stop has an end
pub use Rattle.seal_replay.proofs.Endings
-- the registers that a replay begins with
pub use Rattle.seal_replay.proofs.Entered
-- the tree of a seal with the memory at the end of its stretch put in
pub use Rattle.seal_replay.proofs.Puts
