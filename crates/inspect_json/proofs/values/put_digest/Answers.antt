use Rattle.inspect_json.proofs.Digits.{escape-encode_lower}
use Rattle.inspect_json.proofs.values.put_digest.Goals as goal

pub returns-in_err-digits-clause-plain : goal.returns-in_err-digits-clause-plain
returns-in_err-digits-clause-plain c = escape-encode_lower c.args.digest.now c.bytes.ensures.digest.1

pub returns-clause-plain : goal.returns-clause-plain
returns-clause-plain c = escape-encode_lower c.args.digest.now c.bytes.ensures.digest.1
