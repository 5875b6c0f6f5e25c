use Rattle.std.proofs.Common.{◌≡◌, ◌%◌, ◌∙◌, sym, ap}
use Rattle.std.specs.Int.{byte_len}
use Rattle.rv_step.specs.Machine.{store_width}
use Rattle.rv_step.proofs.QuickSteps.{stores_plainly}
use Rattle.rv_step.proofs.quick.store_quickly.Goals as goal

pub returns-clause-went : goal.returns-clause-went
returns-clause-went g c _ =
    let within = c.if-not-is_within.false in
    let aligned : c.args.address % byte_len (store_width c.args.op) ≡ 0 = ap (λ n. c.args.address % n) (sym c.store_width.ensures) ∙ c.is_within.ensures.aligned within in
    stores_plainly (g.P.PageSet.holds c.args.pages.now) c.args.op c.args.address c.args.value _ _ (g.B.Bus.byte_at c.args.bus.now) (g.B.Bus.byte_at c.store_value.new.bus)
    aligned (c.is_within.ensures.below within) (c.is_within.ensures.held within) c.store_value.ensures.written c.go_on.ensures
