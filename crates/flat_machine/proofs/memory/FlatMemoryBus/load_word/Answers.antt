use Rattle.page_core.proofs.Shown.{word_shown, bytes_small}
use Rattle.flat_machine.specs.Layers.{layered_pages}
use Rattle.flat_machine.proofs.memory.FlatMemoryBus.load_word.Goals as goal

pub returns-clause-value : goal.returns-clause-value
returns-clause-value c =
    let read = rw c.bytes_of-bytes.ensures.value at c.from_le_bytes.ensures in
    word_shown (layered_pages c.args.self.now) c.args.address c.from_le_bytes.result c.requires.aligned read

pub returns-clause-bytes : goal.returns-clause-bytes
returns-clause-bytes c = bytes_small (layered_pages c.args.self.now) c.args.address c.requires.aligned (rw c.bytes_of-bytes.ensures.value at c.bytes_of-bytes.ensures.page)
