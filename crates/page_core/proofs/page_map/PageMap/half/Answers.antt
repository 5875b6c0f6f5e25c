use Rattle.page_core.specs.Stored.{stored_pages}
use Rattle.page_core.proofs.Shown.{half_shown}
use Rattle.page_core.proofs.page_map.PageMap.half.Goals as goal

pub returns : goal.returns
returns c =
    let read = rw c.bytes_around-bytes.ensures at c.from_le_bytes.ensures in
    half_shown (stored_pages c.args.self.now) c.args.address c.from_le_bytes.result c.requires.aligned read
