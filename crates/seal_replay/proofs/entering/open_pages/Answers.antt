use Rattle.std.proofs.Common.{sym, arith}
use Rattle.part_tree.specs.Part.{page_at}
use Rattle.part_tree.specs.Views.{part}
use Rattle.rv_step.specs.Opened.{page_in}
use Rattle.seal_replay.proofs.Shown.{item_number, item_open, opened_on, opened_all}
use Rattle.seal_replay.proofs.entering.open_pages.Goals as goal

pub unreachable-requires : goal.unreachable-requires
unreachable-requires c =
    item_open (part c.args.tree.now) c.args.numbers.now c.loop-number.number-index c.requires.shape c.requires.numbers (omega arith) (sym c.in_default.ensures)

pub open-requires : goal.open-requires
open-requires c =
    item_number (part c.args.tree.now) c.args.numbers.now c.loop-number.number-index c.requires.shape c.requires.numbers (omega arith)

pub loop-number-preserved : goal.loop-number-preserved
loop-number-preserved c =
    opened_on (page_at 0 (part c.args.tree.now)) (page_in c.loop-number.pages) (page_in c.open.new.self) c.args.numbers.now c.loop-number.number-index c.in-Some.page.now
    (omega arith) (sym c.in-Some.ensures) c.loop-number.invariant c.in_ok-open.ensures.opened c.open.ensures.others

pub returns : goal.returns
returns c =
    opened_all (part c.args.tree.now) c.args.numbers.now c.loop-number.number-index c.loop-number.pages c.requires.numbers (omega arith) c.loop-number.invariant
