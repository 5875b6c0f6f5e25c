use Rattle.std.proofs.Common.{length}
use Rattle.zk_rows.proofs.elf.+are_valid.Given as goal

-- the lines that are left
abbrev pub decreases-are_valid : goal.decreases-are_valid
decreases-are_valid l = length l.lines.now
