use Rattle.receipt_types.proofs.Form.{limits_give_form}
use Rattle.receipt_types.proofs.limits_give_form.Goals as goal

pub returns : goal.returns
returns c = limits_give_form
