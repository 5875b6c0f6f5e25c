use Rattle.std.proofs.Common.{◌≡◌, ◌∙◌, append_assoc}
use Rattle.std.specs.Prelude.{string_bytes}
use Rattle.std.proofs.lemmas.Result.{IfOk-weaker}
use Rattle.cli_text.specs.Audits.{other_image_lines}
use Rattle.cli_text.proofs.audits.other_image_text.Goals as goal

pub returns : goal.returns
returns c =
    let written : string_bytes c.in_ok-text.text ≡ other_image_lines c.args.wanted.now c.args.found.now = c.in_ok-text.ensures.ok ∙ simp append_assoc in
    IfOk-weaker c.bytes_of.result _ _ (λ bytes e. e ∙ c.as_str.ensures.value ∙ written) c.bytes_of.ensures
