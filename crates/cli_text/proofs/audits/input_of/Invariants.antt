use Rattle.std.proofs.Common.{◌≡◌, take}
use Rattle.std.specs.Int.{w32, to_le_bytes}
use Rattle.std.specs.List.{flat_map}
use Rattle.cli_text.proofs.audits.input_of.Given as goal

abbrev pub invariant-loop-word : goal.invariant-loop-word
invariant-loop-word l = l.out ≡ flat_map (to_le_bytes w32) (take l.word-index l.words)
