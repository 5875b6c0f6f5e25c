use Rattle.std.proofs.Common.{length}
use Rattle.prove_calls.proofs.Inputs.{AreTaken}
use Rattle.prove_calls.proofs.input.input_words.Given as goal

abbrev pub invariant-loop-word : goal.invariant-loop-word
invariant-loop-word l = AreTaken l.bytes l.words.items l.cursor

abbrev pub decreases-loop-word : goal.decreases-loop-word
decreases-loop-word l = length l.cursor
