use Rattle.std.proofs.Common.{rules, ◌≡◌, [], ◌∷◌, ◌++◌}
use Rattle.std.proofs.lemmas.Result.{err_from_is_err_and, on_err_weaker}
use Rattle.part_tree.specs.Views.{part}
use Rattle.receipt_types.specs.Spelling.{tree_bytes}
use Rattle.receipt_codec.proofs.Written.{front_within, front_second, both_written}
use Rattle.receipt_codec.proofs.writer.+put_node.Goals as goal

pub returns-in_err-put_node-in-Branch-clause-err : goal.returns-in_err-put_node-in-Branch-clause-err
returns-in_err-put_node-in-Branch-clause-err t c =
    let out = c.from_residual-in_err-put_node-in-Branch in
    let p = err_from_is_err_and out.result out.ensures.1 in
    let left = tree_bytes (part c.deref.result.now) in
    let right = tree_bytes (part c.in-Branch.right.value) in
    let whole : tree_bytes (part c.args.tree.now) ≡ 1 ∷ [] ++ (left ++ right) = search rules in
    rw (p.1, whole)
    (front_second (1 ∷ []) (left ++ right) c.args.out.now c.put_u8-in-Branch.new.self c.put_node.new.out c.in_ok-put_u8-in-Branch.ensures.ok
    (front_within left right c.put_u8-in-Branch.new.self c.put_node.new.out c.in_err-put_node-in-Branch.ensures.err))

pub returns-in_ok-put_node-in-Branch-clause-err : goal.returns-in_ok-put_node-in-Branch-clause-err
returns-in_ok-put_node-in-Branch-clause-err t c =
    let left = tree_bytes (part c.deref.result.now) in
    let right = tree_bytes (part c.deref-in-Branch.result.now) in
    let whole : tree_bytes (part c.args.tree.now) ≡ 1 ∷ [] ++ (left ++ right) = search rules in
    let first =
    both_written (1 ∷ []) left c.args.out.now c.put_u8-in-Branch.new.self c.put_node.new.out c.in_ok-put_u8-in-Branch.ensures.ok c.in_ok-put_node-in-Branch.ensures.ok in
    on_err_weaker c.put_node-in-Branch.result
    (λ front. rw whole (front_second (1 ∷ left) right c.args.out.now c.put_node.new.out c.put_node-in-Branch.new.out first front))
    c.put_node-in-Branch.ensures.err
