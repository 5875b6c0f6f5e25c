use Rattle.std.proofs.Common.{◌∙◌, arith}
use Rattle.host_calls.proofs.Metering.{next_placed}
use Rattle.page_core.proofs.Ascending.{ascending-place}
use Rattle.host_calls.proofs.meter.put_all.Goals as goal

pub loop-page-preserved : goal.loop-page-preserved
loop-page-preserved c = record {
  ascends = rw c.put.ensures.items (ascending-place _ _ c.loop-page.invariant.ascends);
  room = omega (arith, c.put.ensures.len, c.put.ensures.capacity);
  placed = rw c.put.ensures.items (next_placed _ _ _ c.loop-page-test.true c.loop-page.invariant.ascends ∙ c.loop-page.invariant.placed);
}
