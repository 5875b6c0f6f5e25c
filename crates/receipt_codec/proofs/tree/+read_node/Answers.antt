use Rattle.std.proofs.Common.{rules, arith}
use Rattle.std.proofs.lemmas.Result.{err_from_is_err_and}
use Rattle.part_tree.specs.Views.{part}
use Rattle.receipt_codec.proofs.Trees.{no_byte, no_node, no_digest, no_page, no_left, no_right}
use Rattle.receipt_codec.proofs.tree.+read_node.Goals as goal
use Rattle.receipt_codec.proofs.tree.+read_node.Goals.{in_default-via-in-Some-eq1+else-height-gt0, in_default-via-in-Some-eq2+else-height-eq0, in_default-via-in-Some+in_default, in_default-via-in_default}

pub returns-in_err-digest-in-Some-eq0-clause-malformed : goal.returns-in_err-digest-in-Some-eq0-clause-malformed
returns-in_err-digest-in-Some-eq0-clause-malformed t c =
    λ _. no_digest c.args.height _ c.take_u8.new.self (search rules) (search rules)

pub returns-in_err-left-in-Some-eq1-clause-malformed : goal.returns-in_err-left-in-Some-eq1-clause-malformed
returns-in_err-left-in-Some-eq1-clause-malformed t c =
    λ e.
    let out = c.from_residual-in_err-left-in-Some-eq1 in
    let p = err_from_is_err_and out.result out.ensures.1 in
    no_left c.args.height _ c.take_u8.new.self (search rules) (c.in_err-left-in-Some-eq1.ensures.malformed (cc (p.1, p.2)))

pub returns-in_err-right-in-Some-eq1-clause-malformed : goal.returns-in_err-right-in-Some-eq1-clause-malformed
returns-in_err-right-in-Some-eq1-clause-malformed t c =
    λ e.
    let out = c.from_residual-in_err-right-in-Some-eq1 in
    let p = err_from_is_err_and out.result out.ensures.1 in
    no_right c.args.height (part c.in_ok-left-in-Some-eq1.left) _ c.take_u8.new.self c.read_node.new.cursor (search rules) (search rules) (search rules)
    (c.in_err-right-in-Some-eq1.ensures.malformed (cc (p.1, p.2)))

pub returns-in_err-page-in-Some-eq2-clause-malformed : goal.returns-in_err-page-in-Some-eq2-clause-malformed
returns-in_err-page-in-Some-eq2-clause-malformed t c =
    λ _. no_page c.args.height _ c.take_u8.new.self (search rules) (search rules)

pub returns-in_default-clause-malformed : goal.returns-in_default-clause-malformed
returns-in_default-clause-malformed t c =
    λ _. elim c.in_default.branch [
      | in_default-via-in-Some-eq1+else-height-gt0 w ↦ no_node c.args.height 1 _ c.take_u8.new.self (search rules) (omega arith) (search rules) (search rules)
      | in_default-via-in-Some-eq2+else-height-eq0 w ↦ no_node c.args.height 2 _ c.take_u8.new.self (search rules) (omega arith) (search rules) (search rules)
      | in_default-via-in-Some+in_default w ↦ no_node c.args.height w.in_default.field-0 _ c.take_u8.new.self (search rules) (search rules) (search rules) (search rules)
      | in_default-via-in_default w ↦ no_byte c.args.height _ (search rules)
    ]
