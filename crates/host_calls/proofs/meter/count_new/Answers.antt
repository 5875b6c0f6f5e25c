use Rattle.std.proofs.Common.{◌≡◌, ◌+◌, ◌++◌, cond, length, drop, arith}
use Rattle.page_core.specs.Memory.{ascending}
use Rattle.host_calls.proofs.Metering.{count_next}
use Rattle.host_calls.proofs.meter.count_new.Goals as goal
use Rattle.host_calls.proofs.meter.count_new.Goals.{then-is_new, else-is_new}

pub loop-at-preserved : goal.loop-at-preserved
loop-at-preserved c =
    let total = length (ascending (c.args.pages.now ++ c.args.touched.now)) in
    let next : c.loop-at.count + cond c.is_new.result 1 0 + length (ascending (drop (c.loop-at.at + 1) c.args.pages.now ++ c.args.touched.now)) ≡ total =
    count_next _ _ _ _ _ c.is_new.result c.loop-at-test.true c.is_new.ensures c.loop-at.invariant.1 in
    elim c.if-is_new.branch [
      | then-is_new w ↦ grind (arith, next)
      | else-is_new w ↦ grind (arith, next)
    ]
