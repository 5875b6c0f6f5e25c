use Rattle.std.proofs.Common.{length}
use Rattle.zk_rows.proofs.memory_tree.+do_ascend.Given as goal

-- the numbers that are left
abbrev pub decreases-do_ascend : goal.decreases-do_ascend
decreases-do_ascend l = length l.numbers.now
