use Rattle.std.proofs.Common.{◌≡◌, ◌∙◌, append_assoc}
use Rattle.std.specs.Prelude.{string_bytes}
use Rattle.std.proofs.lemmas.Result.{IfOk-weaker}
use Rattle.cli_text.specs.Refusals.{bad_receipt_lines}
use Rattle.cli_text.proofs.refusals.bad_receipt_text.Goals as goal

pub returns : goal.returns
returns c =
    let written : string_bytes c.in_ok-text.text ≡ bad_receipt_lines c.args.index c.args.stop.now = c.in_ok-text.ensures.ok ∙ simp append_assoc in
    IfOk-weaker c.bytes_of.result _ _ (λ bytes e. e ∙ c.as_str.ensures.value ∙ written) c.bytes_of.ensures
