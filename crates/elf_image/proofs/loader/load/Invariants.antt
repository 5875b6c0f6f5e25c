use Rattle.page_core.specs.Stored.{memory_of}
use Rattle.elf_image.proofs.Filled.{Filled}
use Rattle.elf_image.proofs.loader.load.Given as goal

-- the memory has the file bytes of the load headers so far
abbrev pub invariant-loop-load : goal.invariant-loop-load
invariant-loop-load l = Filled l.file l.load-items l.load-index (memory_of l.map)
