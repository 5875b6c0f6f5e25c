use Rattle.std.proofs.Common.{length}
use Rattle.zk_rows.proofs.memory_tree.+pages_ascend.Given as goal

-- the pages that are left
abbrev pub decreases-pages_ascend : goal.decreases-pages_ascend
decreases-pages_ascend l = length l.pages.now
