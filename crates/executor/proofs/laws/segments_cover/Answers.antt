use Rattle.executor.proofs.Covered as Covered
use Rattle.executor.proofs.laws.segments_cover.Goals as goal

pub returns-clause-cover : goal.returns-clause-cover
returns-clause-cover c = Covered.segments_cover

pub returns-clause-outcome : goal.returns-clause-outcome
returns-clause-outcome c = Covered.done_to_outcome
