use Rattle.std.proofs.Common.{◌≡◌, ◌++◌, ℕ, List, take}
use Rattle.std.specs.List.{flat_map}
use Rattle.guest_gen.specs.Assembly.{word, AreLines}
use Rattle.guest_gen.proofs.assembling.put_lines.Given as goal

abbrev pub invariant-loop-line : goal.invariant-loop-line
invariant-loop-line l = (words : List ℕ) × AreLines (take l.line-index l.lines) words × (l.out ≡ l.initial.out ++ flat_map word words)
