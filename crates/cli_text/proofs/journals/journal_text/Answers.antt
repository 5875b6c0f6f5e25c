use Rattle.std.proofs.Common.{◌∙◌, List, ℕ, ◌++◌, length, ap, sym, append-nil}
use Rattle.std.specs.Prelude.{decimal}
use Rattle.std.proofs.lemmas.Bool.{eqb-true}
use Rattle.std.proofs.lemmas.List.{nil_from_length}
use Rattle.cli_text.specs.Lines.{journal_tail}
use Rattle.std.proofs.lemmas.Result.{IfOk-weaker}
use Rattle.cli_text.proofs.journals.journal_text.Goals as goal

pub returns-then-is_empty : goal.returns-then-is_empty
returns-then-is_empty c =
    let bytes = c.args.bytes.now in
    let none = nil_from_length bytes (eqb-true (length bytes) 0 (sym c.if-is_empty.ensures)) in
    IfOk-weaker c.format.result _ _
    (λ text e. e
    ∙ sym (append-nil (decimal (length bytes)))
    ∙ ap (λ (rest : List ℕ). decimal (length bytes) ++ journal_tail rest) (sym none)) c.format.ensures.ok
