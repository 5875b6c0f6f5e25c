use Rattle.std.proofs.Common.{◌≡◌, sym, ap, ◌∙◌}
use Rattle.std.specs.Prelude.{decimal}
use Rattle.std.proofs.lemmas.Fmt.{parse-decimal}
use Rattle.cli_text.proofs.Telling.{ok_not_err, same_ok, not_other}
use Rattle.cli_text.proofs.values.number_of.Goals as goal

pub returns-in_default-clause-none : goal.returns-in_default-clause-none
returns-in_default-clause-none c = λ n fits is.
    ok_not_err n c.in_default.field-0 (sym (parse-decimal 64 n c.args.word.now c.parse.result fits fits is c.parse.ensures.value.0) ∙ c.in_default.is)

pub returns-then-ne-clause-none : goal.returns-then-ne-clause-none
returns-then-ne-clause-none c = λ n fits is.
    let same : n ≡ c.in-Ok.number = same_ok n c.in-Ok.number (sym (parse-decimal 64 n c.args.word.now c.parse.result fits fits is c.parse.ensures.value.0) ∙ c.in-Ok.is) in
    not_other c.as_str.result.now c.args.word.now c.ne.result c.ne.ensures c.if-ne.true (c.as_str.ensures.value ∙ c.in_ok-digits.ensures.ok ∙ ap decimal (sym same) ∙ sym is)
