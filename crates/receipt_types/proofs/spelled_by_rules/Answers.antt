use Rattle.receipt_types.proofs.Rules.{spelled_by_rules}
use Rattle.receipt_types.proofs.spelled_by_rules.Goals as goal

pub returns : goal.returns
returns c = spelled_by_rules
