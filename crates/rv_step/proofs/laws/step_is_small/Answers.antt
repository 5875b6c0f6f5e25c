use Rattle.rv_step.proofs.Small.{step_is_small}
use Rattle.rv_step.proofs.laws.step_is_small.Goals as goal

pub returns : goal.returns
returns c = step_is_small
