use Rattle.std.proofs.Common.{◌-◌}
use Rattle.flat_machine.proofs.Layered.{IsLifted}
use Rattle.flat_machine.proofs.memory.copy_pages.Given as goal

abbrev pub invariant-loop-number : goal.invariant-loop-number
invariant-loop-number l = IsLifted l.least (record { above = l.fn.above; below = l.below }) (record { above = l.above; below = l.below })

abbrev pub decreases-loop-number : goal.decreases-loop-number
decreases-loop-number l = 262144 - l.least
