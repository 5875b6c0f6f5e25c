use Rattle.std.proofs.Common.{◌≡◌, ◌++◌, map}
use Rattle.std.specs.Arc.{arc_value}
use Rattle.std.specs.List.{flat_map}
use Rattle.receipt_types.specs.Spelling.{seal_bytes}
use Rattle.receipt_codec.specs.Reading.{AreSealed}
use Rattle.receipt_codec.proofs.bundle.read_seals.Given as goal

abbrev pub invariant-loop : goal.invariant-loop
invariant-loop l =
    AreSealed l.counter (map (λ seal. arc_value seal) l.seals.items) × (l.fn.cursor ≡ flat_map seal_bytes (map (λ seal. arc_value seal) l.seals.items) ++ l.cursor)
