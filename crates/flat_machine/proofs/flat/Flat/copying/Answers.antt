use Rattle.std.proofs.Common.{refl, ◌∙◌}
use Rattle.elf_image.specs.Loaded.{image_of}
use Rattle.flat_machine.proofs.flat.Flat.copying.Goals as goal

pub begun-requires-clause-rest : goal.begun-requires-clause-rest
begun-requires-clause-rest c a high = c.in_ok-memory.ensures a ∙ c.args.image.now.rest a high

pub returns-clause-stands : goal.returns-clause-stands
returns-clause-stands c = c.begun.ensures.stands (image_of c.args.image.now) refl c.in_ok-memory.ensures
