use Rattle.std.proofs.Common.{◌≡◌, ◌++◌, length}
use Rattle.std.specs.List.{flat_map}
use Rattle.receipt_types.specs.Limits.{AllEntryLimits}
use Rattle.receipt_types.specs.Spelling.{entry_bytes}
use Rattle.receipt_codec.proofs.bundle.read_bundle.Given as goal

abbrev pub invariant-loop-number : goal.invariant-loop-number
invariant-loop-number l =
    (length l.entries.items ≡ l.number) × AllEntryLimits 0 l.count l.entries.items × (l.initial.cursor ≡ flat_map entry_bytes l.entries.items ++ l.cursor)
