use Rattle.std.proofs.Common.{◌≡◌, sym, ◌∙◌, subst}
use Rattle.std.specs.Prelude.{string_bytes}
use Rattle.cli_text.specs.Name.{IsName}
use Rattle.cli_text.proofs.Naming.{one_more, not_names}
use Rattle.cli_text.proofs.name.names_of.Goals as goal

pub returns-in-None-clause-none : goal.returns-in-None-clause-none
returns-in-None-clause-none c =
    not_names string_bytes c.args.words.now c.loop-word.word-index c.word-item.result c.loop-word-test.true c.word-item.is
    (sym c.as_str.ensures.value ∙ (rw c.in-None.is at c.in_ok-name.ensures.none))

pub loop-word-preserved : goal.loop-word-preserved
loop-word-preserved c =
    let same : c.in-Some.name ≡ string_bytes c.word-item.result = (rw c.in-Some.is at c.in_ok-name.ensures.some) ∙ c.as_str.ensures.value in
    let named : IsName (string_bytes c.word-item.result) = subst IsName c.as_str.ensures.value (rw c.in-Some.is at c.in_ok-name.ensures.name) in
    let (items, all) = one_more string_bytes c.args.words.now c.loop-word.word-index c.word-item.result c.loop-word-test.true c.word-item.is c.loop-word.names.items c.in-Some.name
    c.loop-word.invariant same named in
    (c.in_ok-push-in-Some.ensures.ok ∙ items, all)
