use Rattle.std.proofs.Common.{rules, arith, ◌≡◌, ◌++◌, List, ℕ, length, ap, subst, ◌∙◌}
use Rattle.std.specs.Int.{w32, to_le_bytes}
use Rattle.std.specs.List.{flat_map}
use Rattle.std.proofs.lemmas.Result.{err_from_is_err_and, on_ok_weaker, on_err_weaker}
use Rattle.part_tree.specs.Part.{Part}
use Rattle.part_tree.specs.Views.{part}
use Rattle.receipt_types.specs.Seals.{Seal}
use Rattle.receipt_types.specs.Spelling.{tree_bytes}
use Rattle.receipt_codec.specs.Reading.{AppendsFrontOf}
use Rattle.receipt_codec.proofs.Written.{front_first, both_written, items_written, fields_written, words_front, seal_written, tree_front}
use Rattle.receipt_codec.proofs.writer.write_seal.Goals as goal

pub returns-in_err-put_u32-2-clause-err : goal.returns-in_err-put_u32-2-clause-err
returns-in_err-put_u32-2-clause-err c =
    let out = c.from_residual-in_err-put_u32-2 in
    let p = err_from_is_err_and out.result out.ensures.1 in
    let pc : c.put_u32.new.self ≡ c.args.out.now ++ to_le_bytes w32 c.args.seal.now.pc = search rules in
    rw p.1 (front_first (to_le_bytes w32 c.args.seal.now.pc) _ c.args.out.now c.put_u32-2.new.self (c.in_err-put_u32-2.ensures.err ∙ pc))

pub returns-in_err-put_u32-3-clause-err : goal.returns-in_err-put_u32-3-clause-err
returns-in_err-put_u32-3-clause-err c =
    let out = c.from_residual-in_err-put_u32-3 in
    let p = err_from_is_err_and out.result out.ensures.1 in
    let seal : Seal = c.args.seal.now in
    let pc : c.put_u32.new.self ≡ c.args.out.now ++ to_le_bytes w32 seal.pc = search rules in
    let steps : c.put_u32-2.new.self ≡ c.put_u32.new.self ++ to_le_bytes w32 seal.steps = search rules in
    let both = both_written (to_le_bytes w32 seal.pc) (to_le_bytes w32 seal.steps) c.args.out.now c.put_u32.new.self c.put_u32-2.new.self pc steps in
    rw p.1 (front_first (to_le_bytes w32 seal.pc ++ to_le_bytes w32 seal.steps) _ c.args.out.now c.put_u32-3.new.self (c.in_err-put_u32-3.ensures.err ∙ both))

pub returns-in_err-put_u32-4-clause-err : goal.returns-in_err-put_u32-4-clause-err
returns-in_err-put_u32-4-clause-err c =
    let out = c.from_residual-in_err-put_u32-4 in
    let p = err_from_is_err_and out.result out.ensures.1 in
    let seal : Seal = c.args.seal.now in
    let words : c.as_slice-words.result.now ≡ seal.words = c.as_slice-words.ensures ∙ ap (λ (s : Seal). s.words) c.seal.view_is in
    let pc : c.put_u32.new.self ≡ c.args.out.now ++ to_le_bytes w32 seal.pc = search rules in
    let steps : c.put_u32-2.new.self ≡ c.put_u32.new.self ++ to_le_bytes w32 seal.steps = search rules in
    let count : c.put_u32-3.new.self ≡ c.put_u32-2.new.self ++ to_le_bytes w32 (length seal.words) =
    c.in_ok-put_u32-3.ensures.ok ∙ ap (λ (z : List ℕ). c.put_u32-2.new.self ++ to_le_bytes w32 (length z)) words in
    let fields = fields_written seal c.args.out.now c.put_u32.new.self c.put_u32-2.new.self c.put_u32-3.new.self pc steps count in
    rw p.1
    (words_front seal c.as_slice-words.result.now c.loop-word.word-index c.args.out.now c.put_u32-3.new.self c.put_u32-in-loop-word.new.self words fields
    (c.in_err-put_u32-4.ensures.err ∙ c.loop-word.invariant))

pub returns-clause-ok : goal.returns-clause-ok
returns-clause-ok c =
    let seal : Seal = c.args.seal.now in
    let words : c.as_slice-words.result.now ≡ seal.words = c.as_slice-words.ensures ∙ ap (λ (s : Seal). s.words) c.seal.view_is in
    let tree : part c.seal.inside.tree ≡ seal.tree = ap (λ (s : Seal). s.tree) c.seal.view_is in
    let pc : c.put_u32.new.self ≡ c.args.out.now ++ to_le_bytes w32 seal.pc = search rules in
    let steps : c.put_u32-2.new.self ≡ c.put_u32.new.self ++ to_le_bytes w32 seal.steps = search rules in
    let count : c.put_u32-3.new.self ≡ c.put_u32-2.new.self ++ to_le_bytes w32 (length seal.words) =
    c.in_ok-put_u32-3.ensures.ok ∙ ap (λ (z : List ℕ). c.put_u32-2.new.self ++ to_le_bytes w32 (length z)) words in
    let fields = fields_written seal c.args.out.now c.put_u32.new.self c.put_u32-2.new.self c.put_u32-3.new.self pc steps count in
    let all = items_written (to_le_bytes w32) c.as_slice-words.result.now c.loop-word.word-index c.put_u32-3.new.self c.loop-word.out (omega arith) c.loop-word.invariant
    ∙ ap (λ (z : List ℕ). c.put_u32-3.new.self ++ flat_map (to_le_bytes w32) z) words in
    on_ok_weaker c.put_node.result
    (λ last. seal_written seal c.args.out.now c.put_u32-3.new.self c.loop-word.out c.put_node.new.out fields all (last ∙ ap (λ (t : Part). c.loop-word.out ++ tree_bytes t) tree))
    c.put_node.ensures.ok

pub returns-clause-err : goal.returns-clause-err
returns-clause-err c =
    let seal : Seal = c.args.seal.now in
    let words : c.as_slice-words.result.now ≡ seal.words = c.as_slice-words.ensures ∙ ap (λ (s : Seal). s.words) c.seal.view_is in
    let tree : part c.seal.inside.tree ≡ seal.tree = ap (λ (s : Seal). s.tree) c.seal.view_is in
    let pc : c.put_u32.new.self ≡ c.args.out.now ++ to_le_bytes w32 seal.pc = search rules in
    let steps : c.put_u32-2.new.self ≡ c.put_u32.new.self ++ to_le_bytes w32 seal.steps = search rules in
    let count : c.put_u32-3.new.self ≡ c.put_u32-2.new.self ++ to_le_bytes w32 (length seal.words) =
    c.in_ok-put_u32-3.ensures.ok ∙ ap (λ (z : List ℕ). c.put_u32-2.new.self ++ to_le_bytes w32 (length z)) words in
    let fields = fields_written seal c.args.out.now c.put_u32.new.self c.put_u32-2.new.self c.put_u32-3.new.self pc steps count in
    let all = items_written (to_le_bytes w32) c.as_slice-words.result.now c.loop-word.word-index c.put_u32-3.new.self c.loop-word.out (omega arith) c.loop-word.invariant
    ∙ ap (λ (z : List ℕ). c.put_u32-3.new.self ++ flat_map (to_le_bytes w32) z) words in
    on_err_weaker c.put_node.result
    (λ front.
    tree_front seal c.args.out.now c.put_u32-3.new.self c.loop-word.out c.put_node.new.out fields all
    (subst (λ (t : Part). AppendsFrontOf (tree_bytes t) c.loop-word.out c.put_node.new.out) tree front))
    c.put_node.ensures.err
