-- The lemmas that crates above may cite stand in these files.
-- the first state of an accepted entry
pub use Rattle.check_core.proofs.Firsts
-- the memory with the registers, where the run of an image begins whose memory is zero from the register page on
pub use Rattle.check_core.proofs.Images
-- a bundle is accepted exactly where nothing stops it
pub use Rattle.check_core.proofs.Unstopped
-- the claims and the reports of a bundle's entries, one after the other
pub use Rattle.check_core.proofs.Claims
-- the links of a bundle's entries, one after the other
pub use Rattle.check_core.proofs.Linked
-- the bytes of an accepted bundle aren't refused
pub use Rattle.check_core.proofs.Refusing
-- what a seal that agrees with the run tells of the run's next stretch
pub use Rattle.check_core.proofs.Stretches
-- the claims of seals that end in Split
pub use Rattle.check_core.proofs.Induction
-- strings of states that are the same are those of one state
pub use Rattle.check_core.proofs.Strings
-- what is compared stands in what is hashed
pub use Rattle.check_core.proofs.Members
-- the theorems on bundles
pub use Rattle.check_core.proofs.Vouched
-- a refusal under the digest of a bundle's own first state
pub use Rattle.check_core.proofs.Stopping
