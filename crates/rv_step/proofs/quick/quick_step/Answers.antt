use Rattle.std.proofs.Common.{sym, ◌∙◌, arith, ◌<◌}
use Rattle.page_core.specs.Memory.{top}
use Rattle.rv_step.proofs.QuickSteps.{steps_quickly}
use Rattle.rv_step.proofs.quick.quick_step.Goals as goal

pub returns-in-Some-clause-went : goal.returns-in-Some-clause-went
returns-in-Some-clause-went g c went tape log =
    let below : c.args.core.now.pc < top = omega arith in
    steps_quickly (g.P.PageSet.holds c.args.pages.now) c.args.core.now _ (g.B.Bus.byte_at c.args.bus.now) (g.B.Bus.byte_at c.do_quickly.new.bus) c.load_word.result c.in-Some.instr
    tape log below c.requires.registers (sym c.has.ensures ∙ c.if-not-has.false) c.load_word.ensures.value (sym c.in-Some.is ∙ c.decode.ensures.meaning)
    (c.do_quickly.ensures.went went)
