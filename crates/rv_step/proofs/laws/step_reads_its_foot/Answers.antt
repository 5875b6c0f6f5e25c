use Rattle.rv_step.proofs.Frame.{step_reads_its_foot}
use Rattle.rv_step.proofs.laws.step_reads_its_foot.Goals as goal

pub returns : goal.returns
returns c = step_reads_its_foot
