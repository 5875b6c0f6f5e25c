use Rattle.std.proofs.Common.{◌≡◌, ◌∙◌, List, ℕ, ap, append_assoc}
use Rattle.std.specs.Prelude.{decimal, string_bytes}
use Rattle.std.proofs.lemmas.Result.{IfOk-weaker}
use Rattle.cli_text.proofs.Text.{made, made_text, made_lines}
use Rattle.cli_text.proofs.reports.generate_text.Goals as goal

pub returns : goal.returns
returns c =
    let number = decimal c.args.number in
    let size = decimal c.args.size in
    let elf = decimal c.args.elf in
    let words = decimal c.args.words in
    let cycles = decimal c.args.cycles in
    let receipt = string_bytes c.in_ok-made.made in
    let written : string_bytes c.in_ok-text.text ≡ made_text number size elf words cycles receipt = c.in_ok-text.ensures.ok ∙ simp append_assoc in
    IfOk-weaker c.bytes_of.result _ _
    (λ bytes e. e ∙ c.as_str.ensures.value ∙ written ∙ made_lines number size elf words cycles receipt ∙ ap (made number size elf words cycles) c.in_ok-made.ensures) c.bytes_of.ensures
