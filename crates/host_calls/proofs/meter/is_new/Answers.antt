use Rattle.std.proofs.Common.{◌≡◌, true, false, not, ap, sym, ◌∙◌}
use Rattle.page_core.specs.Memory.{is_among}
use Rattle.host_calls.proofs.Metering.{new_absent, new_touched}
use Rattle.host_calls.proofs.Rising.{search_tells}
use Rattle.host_calls.proofs.meter.is_new.Goals as goal

pub returns-then-is_err : goal.returns-then-is_err
returns-then-is_err c =
    let told = search_tells c.args.page c.args.touched.now c.binary_search.result c.requires c.binary_search.ensures.position in
    let absent : is_among c.args.touched.now c.args.page ≡ false = told ∙ ap not (sym c.is_err.ensures.value ∙ c.if-is_err.true) in
    new_absent c.args.page c.args.others.now c.args.touched.now c.contains.result absent c.contains.ensures.value

pub returns-else-is_err : goal.returns-else-is_err
returns-else-is_err c =
    let told = search_tells c.args.page c.args.touched.now c.binary_search.result c.requires c.binary_search.ensures.position in
    let there : is_among c.args.touched.now c.args.page ≡ true = told ∙ ap not (sym c.is_err.ensures.value ∙ c.if-is_err.false) in
    c.if-is_err.false ∙ new_touched c.args.page c.args.others.now c.args.touched.now there
