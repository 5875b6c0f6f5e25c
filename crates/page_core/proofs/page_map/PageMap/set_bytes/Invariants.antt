use Rattle.std.proofs.Common.{length}
use Rattle.page_core.proofs.Ranges.{IsPutUpTo}
use Rattle.page_core.proofs.page_map.PageMap.set_bytes.Given as goal

abbrev pub invariant-loop-rest : goal.invariant-loop-rest
invariant-loop-rest l = IsPutUpTo l.initial.self l.self l.address l.bytes l.at l.rest

abbrev pub decreases-loop-rest : goal.decreases-loop-rest
decreases-loop-rest l = length l.rest
