use Rattle.std.proofs.Common.{◌≡◌, ◌∙◌, ℕ, length, ap₂, append_assoc}
use Rattle.std.specs.Prelude.{decimal, string_bytes}
use Rattle.std.proofs.lemmas.Result.{IfOk-weaker}
use Rattle.cli_text.proofs.Text.{three, three_text, three_lines}
use Rattle.cli_text.proofs.reports.counts_text.Goals as goal

pub returns : goal.returns
returns c =
    let count = decimal (length c.args.entries.now) in
    let seals = decimal c.seals_of-seals.result in
    let steps = decimal c.steps_of-steps.result in
    IfOk-weaker c.format.result _ _
    (λ text e.
    let written : string_bytes text ≡ three_text count seals steps = e ∙ simp append_assoc in
    written
    ∙ three_lines count seals steps
    ∙ ap₂ (λ (seals steps : ℕ). three count (decimal seals) (decimal steps)) c.seals_of-seals.ensures c.steps_of-steps.ensures) c.format.ensures.ok
