use Rattle.std.proofs.Common.{◌/◌}
use Rattle.page_core.proofs.Shown.{word_shown}
use Rattle.rv_step.specs.Opened.{pages_in}
use Rattle.rv_step.proofs.Opened.{page_at, bytes_small}
use Rattle.rv_step.proofs.open_pages.OpenPagesBus.load_word.Goals as goal

pub returns-clause-value : goal.returns-clause-value
returns-clause-value c =
    let read = rw c.bytes-bytes.ensures.value at c.from_le_bytes.ensures in
    word_shown (pages_in c.args.self.now) c.args.address c.from_le_bytes.result c.requires.aligned
    (rw (page_at c.args.self.now c.in-Some.page.now (c.args.address / 1024) c.in-Some.ensures) read)

pub returns-clause-bytes : goal.returns-clause-bytes
returns-clause-bytes c = bytes_small c.args.self.now c.in-Some.page.now c.args.address c.in-Some.ensures c.requires.aligned c.bytes-bytes.ensures.page
