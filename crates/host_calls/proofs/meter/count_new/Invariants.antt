use Rattle.std.proofs.Common.{◌≡◌, ◌+◌, ◌≤◌, ◌++◌, drop, length}
use Rattle.page_core.specs.Memory.{ascending}
use Rattle.host_calls.proofs.meter.count_new.Given as goal

abbrev pub invariant-loop-at : goal.invariant-loop-at
invariant-loop-at l = (l.count ≤ l.at) × (l.count + length (ascending (drop l.at l.pages ++ l.touched)) ≡ length (ascending (l.pages ++ l.touched)))
