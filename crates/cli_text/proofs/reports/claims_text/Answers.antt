use Rattle.std.proofs.Common.{◌≡◌, ◌∙◌, List, ℕ, ◌++◌, length, ap, append_assoc}
use Rattle.std.specs.Prelude.{decimal, string_bytes}
use Rattle.std.proofs.lemmas.Result.{IfOk-weaker}
use Rattle.digest_core.specs.Text.{digest_text}
use Rattle.check_core.specs.Reports.{EntryReport}
use Rattle.cli_text.specs.Reports.{claims_lines}
use Rattle.cli_text.proofs.Text.{four, four_text, four_lines}
use Rattle.cli_text.proofs.reports.claims_text.Goals as goal

pub returns : goal.returns
returns c =
    let code = decimal c.first.inside.exit in
    let claim = digest_text c.first.inside.claim in
    let conditional = digest_text c.first.inside.conditional in
    IfOk-weaker c.format.result _ _
    (λ text e.
    let written : string_bytes text ≡ four_text code (string_bytes c.in_ok-told.told) claim conditional = e ∙ simp append_assoc in
    written
    ∙ four_lines code (string_bytes c.in_ok-told.told) claim conditional
    ∙ ap (λ (said : List ℕ). four code said claim conditional) c.in_ok-told.ensures
    ∙ ap (λ (first : EntryReport). claims_lines c.args.journal.now first) c.first.view_is) c.format.ensures.ok
