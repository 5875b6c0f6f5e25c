-- The lemmas that crates above may cite stand in these files.
-- the limits give the form of seals, entries and bundles
pub use Rattle.receipt_types.proofs.Form
-- seals within their limits
pub use Rattle.receipt_types.proofs.Limits
