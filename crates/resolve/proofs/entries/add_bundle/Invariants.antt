use Rattle.std.proofs.Common.{◌≡◌, ◌++◌, length, map, take}
use Rattle.resolve.specs.Bundling.{raised_entry}
use Rattle.resolve.proofs.entries.add_bundle.Given as goal

abbrev pub invariant-loop-entry : goal.invariant-loop-entry
invariant-loop-entry l = l.entries.items ≡ l.initial.entries.items ++ map (raised_entry (length l.initial.entries.items)) (take l.entry-index l.entry-items)
