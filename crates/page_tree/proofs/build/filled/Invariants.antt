use Rattle.std.proofs.Common.{◌-◌, ◌<◌}
use Rattle.std.specs.Prelude.{IfSome}
use Rattle.page_core.specs.Stored.{IsStoredFrom}
use Rattle.page_tree.proofs.Filled.{bound, IsFilled}
use Rattle.page_tree.proofs.build.filled.Given as goal

-- the pages before the next number are put
abbrev pub invariant-loop-next : goal.invariant-loop-next
invariant-loop-next g l = record {
  stored : IsStoredFrom 0 l.map;
  low : IfSome l.next (λ n. n < 262144);
  filled : IsFilled (bound l.next) l.tree l.map;
}

abbrev pub decreases-loop-next : goal.decreases-loop-next
decreases-loop-next g l = 262144 - bound l.next
