use Rattle.std.proofs.Common.{◌≡◌, ◌++◌, take}
use Rattle.std.specs.Int.{w16, to_le_bytes}
use Rattle.std.specs.List.{flat_map}
use Rattle.std.specs.Arc.{arc_value}
use Rattle.receipt_types.specs.Spelling.{seal_bytes}
use Rattle.receipt_codec.proofs.writer.put_entry.Given as goal

abbrev pub invariant-loop-link : goal.invariant-loop-link
invariant-loop-link l = l.out ≡ l.initial.out ++ flat_map (to_le_bytes w16) (take l.link-index l.links)

abbrev pub invariant-loop-seal : goal.invariant-loop-seal
invariant-loop-seal l = l.out ≡ l.initial.out ++ flat_map (λ seal. seal_bytes (arc_value seal)) (take l.seal-index l.seals)
