use Rattle.rv_step.proofs.Runs.{run_reads_its_feet}
use Rattle.rv_step.proofs.laws.run_reads_its_feet.Goals as goal

pub returns : goal.returns
returns c = run_reads_its_feet
