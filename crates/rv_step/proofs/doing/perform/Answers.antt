use Rattle.std.proofs.Common.{refl, ap, ◌∙◌}
use Rattle.rv_step.specs.Machine.{call_event}
use Rattle.rv_step.specs.Stepping.{state_at}
use Rattle.rv_step.proofs.Done.{halts_with}
use Rattle.rv_step.proofs.doing.perform.Goals as goal

pub returns-in-Halt-clause-answer : goal.returns-in-Halt-clause-answer
returns-in-Halt-clause-answer g c =
    (ap (λ call. call_event call (state_at c.args.core.now (g.B.Bus.byte_at c.args.bus.now) c.args.tape.now c.args.log.now)) c.in-Halt.is ∙ halts_with _ _, refl)
