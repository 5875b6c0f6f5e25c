use Rattle.elf_image.proofs.Numbers.{half_read}
use Rattle.elf_image.proofs.fields.half_at.Goals as goal

pub returns : goal.returns
returns c = half_read c.args.file.now c.args.at c.from_le_bytes.result c.from_le_bytes.ensures
