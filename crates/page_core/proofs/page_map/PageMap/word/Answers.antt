use Rattle.page_core.specs.Stored.{stored_pages}
use Rattle.page_core.proofs.Shown.{word_shown}
use Rattle.page_core.proofs.page_map.PageMap.word.Goals as goal

pub returns : goal.returns
returns c =
    let read = rw c.bytes_around-bytes.ensures at c.from_le_bytes.ensures in
    word_shown (stored_pages c.args.self.now) c.args.address c.from_le_bytes.result c.requires.aligned read
