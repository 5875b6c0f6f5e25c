-- The lemmas that crates above may cite stand in these files.
-- where a page stands among pages that ascend
pub use Rattle.host_calls.proofs.Placed
