use Rattle.rv_step.proofs.Kept.{step_keeps}
use Rattle.rv_step.proofs.laws.step_keeps.Goals as goal

pub returns : goal.returns
returns c = step_keeps
