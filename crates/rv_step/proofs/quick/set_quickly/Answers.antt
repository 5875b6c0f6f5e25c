use Rattle.std.proofs.Common.{◌+◌}
use Rattle.rv_step.proofs.QuickSteps.{sets_plainly}
use Rattle.rv_step.proofs.quick.set_quickly.Goals as goal

pub returns-clause-went : goal.returns-clause-went
returns-clause-went c m holds = sets_plainly holds (c.args.core.now.pc + 4) c.args.rd c.args.value _ _ m c.go_on.ensures
