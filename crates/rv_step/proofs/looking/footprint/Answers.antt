use Rattle.std.proofs.Common.{◌<◌, ap, ◌∙◌, arith}
use Rattle.std.specs.Int.{byte_len}
use Rattle.page_core.specs.Memory.{top, pages_of}
use Rattle.host_calls.specs.Calls.{ranges_of}
use Rattle.host_calls.specs.Foots.{with_pages}
use Rattle.rv_step.specs.Machine.{data_of, pages_of_all, load_width, store_width}
use Rattle.rv_step.proofs.Looks.{foot_made, foot_plain, one_range}
use Rattle.rv_step.proofs.looking.footprint.Goals as goal

pub returns-in-Loads : goal.returns-in-Loads
returns-in-Loads c =
    let below : c.args.pc < top = omega arith in
    foot_made c.args.pc c.args.act.now (pages_of c.in-Loads.address (byte_len (load_width c.in-Loads.op))) c.of_code-foot.result c.add_range.new.foot below
    (ap (λ a. pages_of_all (data_of a)) c.in-Loads.is ∙ one_range _ _) c.of_code-foot.ensures
    (c.add_range.ensures.value ∙ ap (λ n. with_pages c.of_code-foot.result (pages_of c.in-Loads.address n)) c.load_width.ensures)

pub returns-in-Stores : goal.returns-in-Stores
returns-in-Stores c =
    let below : c.args.pc < top = omega arith in
    foot_made c.args.pc c.args.act.now (pages_of c.in-Stores.address (byte_len (store_width c.in-Stores.op))) c.of_code-foot.result c.add_range-in-Stores.new.foot below
    (ap (λ a. pages_of_all (data_of a)) c.in-Stores.is ∙ one_range _ _) c.of_code-foot.ensures
    (c.add_range-in-Stores.ensures.value ∙ ap (λ n. with_pages c.of_code-foot.result (pages_of c.in-Stores.address n)) c.store_width.ensures)

pub returns-in-Does : goal.returns-in-Does
returns-in-Does c =
    foot_made c.args.pc c.args.act.now (pages_of_all (ranges_of c.in-Does.call)) c.of_code-foot.result c.add_call.new.foot (omega arith)
    (ap (λ a. pages_of_all (data_of a)) c.in-Does.is) c.of_code-foot.ensures c.add_call.ensures

pub returns-in-Sets : goal.returns-in-Sets
returns-in-Sets c = foot_plain c.args.pc c.args.act.now c.of_code-foot.result (omega arith) (ap data_of c.in-Sets.is) c.of_code-foot.ensures

pub returns-in-Faults : goal.returns-in-Faults
returns-in-Faults c = foot_plain c.args.pc c.args.act.now c.of_code-foot.result (omega arith) (ap data_of c.in-Faults.is) c.of_code-foot.ensures
