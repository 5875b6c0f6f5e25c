use Rattle.std.proofs.Common.{◌≡◌, ◌%◌, ◌∙◌, sym, ap}
use Rattle.std.specs.Int.{byte_len}
use Rattle.rv_step.specs.Machine.{load_width}
use Rattle.rv_step.proofs.QuickSteps.{loads_plainly}
use Rattle.rv_step.proofs.quick.load_quickly.Goals as goal

pub returns-clause-went : goal.returns-clause-went
returns-clause-went g c _ =
    let within = c.if-not-is_within.false in
    let aligned : c.args.address % byte_len (load_width c.args.op) ≡ 0 = ap (λ n. c.args.address % n) (sym c.load_width.ensures) ∙ c.is_within.ensures.aligned within in
    loads_plainly (g.P.PageSet.holds c.args.pages.now) c.args.op c.args.rd c.args.address c.load_value-value.result _ _ (g.B.Bus.byte_at c.args.bus.now)
    aligned (c.is_within.ensures.below within) (c.is_within.ensures.held within) c.load_value-value.ensures c.go_on.ensures
