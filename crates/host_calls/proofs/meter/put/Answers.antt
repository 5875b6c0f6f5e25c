use Rattle.std.proofs.Common.{◌≡◌, sym, arith}
use Rattle.std.specs.Prelude.{insert}
use Rattle.page_core.specs.Memory.{place}
use Rattle.host_calls.proofs.Rising.{search_there, search_gap}
use Rattle.host_calls.proofs.meter.put.Goals as goal

pub returns-else-is_err-clause-items : goal.returns-else-is_err-clause-items
returns-else-is_err-clause-items c =
    let pages = c.args.touched.now.items in
    let gap : place c.args.page pages ≡ insert pages c.in-Err.at c.args.page =
    search_gap c.args.page c.in-Err.at pages c.requires.ascending (rw c.deref.ensures.value at c.in-Err.ensures.position) in
    grind (arith, gap, c.insert.ensures.items, c.is_err.ensures.negation)

pub returns-in_default-clause-items : goal.returns-in_default-clause-items
returns-in_default-clause-items c =
    sym (search_there c.args.page c.in_default.field-0 c.args.touched.now.items c.requires.ascending (rw c.deref.ensures.value at c.in_default.ensures.position))
