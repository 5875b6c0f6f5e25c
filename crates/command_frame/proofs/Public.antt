-- The lemmas that crates above may cite stand in these files.
-- what stands after a command, from how it ended
pub use Rattle.command_frame.proofs.After
-- the answer that was put, from the status after it
pub use Rattle.command_frame.proofs.AnswerPut
-- how a body ends, from the ends of its parts
pub use Rattle.command_frame.proofs.Causes
-- files that aren't read, and ELF files that load no image
pub use Rattle.command_frame.proofs.Unread
-- they are answered with another status than that of a collision
pub use Rattle.command_frame.proofs.Collided
