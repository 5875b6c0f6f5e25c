use Rattle.std.proofs.Common.{◌+◌, ◌-◌, ◌/◌, ◌∙◌, length, sym, ap, arith}
use Rattle.host_calls.proofs.Placed.{data_size}
use Rattle.host_calls.specs.Foots.{with_data, with_pages}
use Rattle.rv_step.proofs.Looks.{one_page_of, two_pages_of}
use Rattle.rv_step.proofs.looking.add_range.Goals as goal

pub returns-then-last-first-clause-value : goal.returns-then-last-first-clause-value
returns-then-last-first-clause-value c =
    c.add.ensures ∙ ap (with_pages c.args.foot.now) (sym (one_page_of c.args.address c.args.size c.if-size-eq0.false c.if-last-first.true))

pub returns-then-last-first-clause-bound : goal.returns-then-last-first-clause-bound
returns-then-last-first-clause-bound c =
    let (most, least) = data_size (c.args.address / 1024) c.args.foot.now in
    omega (arith, most, ap length c.add.ensures)

pub add-requires-3-clause-room : goal.add-requires-3-clause-room
add-requires-3-clause-room c =
    let (most, least) = data_size ((c.args.address + c.args.size - 1) / 1024) c.args.foot.now in
    omega (arith, most, ap length c.add-2.ensures)

pub returns-clause-value : goal.returns-clause-value
returns-clause-value c =
    c.add-3.ensures ∙ ap (with_data (c.args.address / 1024)) c.add-2.ensures
    ∙ ap (with_pages c.args.foot.now) (sym (two_pages_of c.args.address c.args.size c.if-size-eq0.false c.requires.size c.if-last-first.false))

pub returns-clause-bound : goal.returns-clause-bound
returns-clause-bound c =
    let (most, least) = data_size ((c.args.address + c.args.size - 1) / 1024) c.args.foot.now in
    let (more, less) = data_size (c.args.address / 1024) c.add-2.new.self in
    omega (arith, most, more, ap length c.add-2.ensures, ap length c.add-3.ensures)
