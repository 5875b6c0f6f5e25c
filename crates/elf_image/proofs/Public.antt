-- The lemmas that crates above may cite stand in these files.
-- an ELF file loads one image
pub use Rattle.elf_image.proofs.Unique
-- the root of an image's memory
pub use Rattle.elf_image.proofs.Rooted
-- where a loaded image begins
pub use Rattle.elf_image.proofs.Entries
