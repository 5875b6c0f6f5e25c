use Rattle.std.proofs.Common.{rules}
use Rattle.std.proofs.lemmas.Result.{err_from_is_err_and}
use Rattle.receipt_codec.proofs.Seals.{no_seal_fields, no_seal_tree}
use Rattle.receipt_codec.proofs.seal.read_seal.Goals as goal

pub returns-in_default-clause-malformed : goal.returns-in_default-clause-malformed
returns-in_default-clause-malformed c = λ _. no_seal_fields _ c.new-ahead.result (search rules) c.in_default.ensures.none

pub returns-in_err-tree-clause-malformed : goal.returns-in_err-tree-clause-malformed
returns-in_err-tree-clause-malformed c =
    λ e.
    let out = c.from_residual-in_err-tree in
    let p = err_from_is_err_and out.result out.ensures.1 in
    no_seal_tree c.in-Some.field-0 c.in_ok-words.words.items _ c.read_fields.new.cursor c.read_words.new.cursor (search rules) (search rules) (search rules) (search rules)
    (c.in_err-tree.ensures.malformed (cc (p.1, p.2)))
