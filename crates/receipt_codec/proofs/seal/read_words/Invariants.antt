use Rattle.std.proofs.Common.{◌≡◌, ◌++◌}
use Rattle.std.specs.Int.{w32, to_le_bytes}
use Rattle.std.specs.List.{flat_map}
use Rattle.receipt_codec.specs.Fields.{AreWords}
use Rattle.receipt_codec.proofs.seal.read_words.Given as goal

abbrev pub invariant-loop : goal.invariant-loop
invariant-loop l = AreWords l.counter l.words.items × (l.fn.cursor ≡ flat_map (to_le_bytes w32) l.words.items ++ l.cursor)
