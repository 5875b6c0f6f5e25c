use Rattle.std.proofs.Common.{◌≡◌, map, take}
use Rattle.std.specs.Arc.{arc_value}
use Rattle.resolve.proofs.entries.copied.Given as goal

abbrev pub invariant-loop-seal : goal.invariant-loop-seal
invariant-loop-seal l = map (λ seal. arc_value seal) l.copies.items ≡ map (λ seal. arc_value seal) (take l.seal-index l.seal-items)
