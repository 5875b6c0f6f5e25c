use Rattle.std.proofs.Common.{◌≡◌, ◌++◌, take}
use Rattle.std.specs.List.{flat_map}
use Rattle.receipt_types.specs.Spelling.{entry_bytes}
use Rattle.receipt_codec.proofs.writer.write_bundle.Given as goal

abbrev pub invariant-loop-entry : goal.invariant-loop-entry
invariant-loop-entry l = l.out ≡ l.initial.out ++ flat_map entry_bytes (take l.entry-index l.entries)
