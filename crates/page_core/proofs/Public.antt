-- The lemmas that crates above may cite stand in these files.
-- reading and writing ranges of bytes, by pages
pub use Rattle.page_core.proofs.Bytes
-- what is listed, as a fact and as a test
pub use Rattle.page_core.proofs.Listed
-- pages that are put in order: a list keeps its members, and has each of them once
pub use Rattle.page_core.proofs.Ascending
-- pages of zeros, and the pages of a stored memory
pub use Rattle.page_core.proofs.Zeros
-- options without content
pub use Rattle.page_core.proofs.Options
-- ranges of bytes that are put one part after the other, each part into one page
pub use Rattle.page_core.proofs.Ranges
-- bytes of one page, as a memory of pages shows them and as they are put there
pub use Rattle.page_core.proofs.Shown
