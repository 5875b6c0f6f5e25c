use Rattle.std.proofs.Common.{◌≡◌, ◌∙◌, append_assoc}
use Rattle.std.specs.Prelude.{string_bytes}
use Rattle.std.proofs.lemmas.Result.{IfOk-weaker}
use Rattle.cli_text.specs.Audits.{no_entry_lines}
use Rattle.cli_text.proofs.audits.no_entry_text.Goals as goal

pub returns : goal.returns
returns c =
    let written : string_bytes c.in_ok-text.text ≡ no_entry_lines c.args.entry c.args.count = c.in_ok-text.ensures.ok ∙ simp append_assoc in
    IfOk-weaker c.bytes_of.result _ _ (λ bytes e. e ∙ c.as_str.ensures.value ∙ written) c.bytes_of.ensures
