use Rattle.elf_image.proofs.Numbers.{word_read}
use Rattle.elf_image.proofs.fields.word_at.Goals as goal

pub returns : goal.returns
returns c = word_read c.args.file.now c.args.at c.from_le_bytes.result c.from_le_bytes.ensures
