use Rattle.std.proofs.Common.{◌≡◌, take}
use Rattle.resolve.proofs.entries.first_entry.Given as goal

abbrev pub invariant-loop-number : goal.invariant-loop-number
invariant-loop-number g l = l.links.items ≡ take l.number-index l.numbers
