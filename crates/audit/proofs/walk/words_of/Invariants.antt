use Rattle.std.proofs.Common.{◌≡◌, map, take}
use Rattle.std.specs.Arc.{arc_value}
use Rattle.receipt_types.specs.Seals as plain
use Rattle.audit.proofs.walk.words_of.Given as goal

abbrev pub invariant-loop-seal : goal.invariant-loop-seal
invariant-loop-seal l = l.words.items ≡ plain.words_of (map (λ seal. arc_value seal) (take l.seal-index l.seals))
