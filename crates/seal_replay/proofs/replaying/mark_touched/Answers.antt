use Rattle.std.proofs.Common.{sym, ◌∙◌}
use Rattle.rv_step.specs.Stepping.{state_at}
use Rattle.seal_replay.proofs.Gone.{not_looked}
use Rattle.seal_replay.proofs.replaying.mark_touched.Goals as goal

pub returns-in_default-clause-marks : goal.returns-in_default-clause-marks
returns-in_default-clause-marks g c = λ log none.
    absurd
    (not_looked (g.B.Bus.opens c.args.bus.now) (state_at c.args.core.now (g.B.Bus.byte_at c.args.bus.now) c.args.tape.now log) c.in_default.field-0
    (sym c.in_default.is ∙ c.look.ensures log) none)
