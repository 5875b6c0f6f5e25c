use Rattle.std.proofs.Common.{◌≡◌, ◌∙◌, ◌/◌, ◌^◌, ◌++◌, ◌∷◌, [], List, ℕ, suc, ap, ap₂, add-one, arith, sym}
use Rattle.std.proofs.lemmas.List.FromFn.{map-range_with_len_more}
use Rattle.guest_gen.specs.Generator.{next_state, nth_state, input_word}
use Rattle.guest_gen.proofs.generator.input_words.Goals as goal

pub loop-index-preserved : goal.loop-index-preserved
loop-index-preserved c =
    let k = c.loop-index._index in
    let after : c.next_state-state.result ≡ nth_state c.args.number (suc k) = c.next_state-state.ensures ∙ ap next_state c.loop-index.invariant.state in
    record {
      state = after ∙ ap (nth_state c.args.number) (sym (add-one k));
      words =
          c.in_ok-push.ensures.ok
          ∙ ap₂ (λ (words : List ℕ) (state : ℕ). words ++ state / 2 ^ 32 ∷ []) c.loop-index.invariant.words after
          ∙ sym (map-range_with_len_more (input_word c.args.number) 0 k k (omega arith));
    }
