use Rattle.rv_isa.proofs.Table.{rows_are_apart}
use Rattle.rv_isa.proofs.rows_are_apart.Goals as goal

pub returns : goal.returns
returns c = rows_are_apart
