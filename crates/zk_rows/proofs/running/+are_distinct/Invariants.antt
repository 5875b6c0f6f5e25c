use Rattle.std.proofs.Common.{length}
use Rattle.zk_rows.proofs.running.+are_distinct.Given as goal

-- the files that are left
abbrev pub decreases-are_distinct : goal.decreases-are_distinct
decreases-are_distinct l = length l.files.now
