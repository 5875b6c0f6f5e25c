use Rattle.std.proofs.Common.{◌≡◌}
use Rattle.guest_gen.specs.Generator.{nth_state, input_words}
use Rattle.guest_gen.proofs.generator.input_words.Given as goal

abbrev pub invariant-loop-index : goal.invariant-loop-index
invariant-loop-index l = record { state : l.state ≡ nth_state l.number l._index; words : l.words.items ≡ input_words l.number l._index }
