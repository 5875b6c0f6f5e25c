use Rattle.std.proofs.Common.{◌≡◌, ◌∙◌, List, ℕ, ap, append_assoc}
use Rattle.std.specs.Prelude.{decimal, string_bytes}
use Rattle.std.proofs.lemmas.Result.{IfOk-weaker}
use Rattle.cli_text.proofs.Text.{five, five_text, five_lines}
use Rattle.cli_text.proofs.runs.halted_text.Goals as goal

pub returns : goal.returns
returns c =
    let code = decimal c.args.code in
    let steps = decimal c.args.steps in
    let cycles = decimal c.args.cycles in
    let assumptions = decimal c.args.assumptions in
    let journal = string_bytes c.in_ok-journal.journal in
    let written : string_bytes c.in_ok-text.text ≡ five_text code steps cycles journal assumptions = c.in_ok-text.ensures.ok ∙ simp append_assoc in
    IfOk-weaker c.bytes_of.result _ _
    (λ bytes e. e ∙ c.as_str.ensures.value ∙ written ∙ five_lines code steps cycles journal assumptions ∙ ap (λ (said : List ℕ). five code steps cycles said assumptions) c.in_ok-journal.ensures) c.bytes_of.ensures
