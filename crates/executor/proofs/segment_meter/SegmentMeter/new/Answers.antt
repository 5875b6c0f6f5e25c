use Rattle.std.proofs.Common.{ap, arith}
use Rattle.host_calls.specs.Meters.{Metered}
use Rattle.executor.proofs.MarkedPages.{none_marked}
use Rattle.executor.proofs.segment_meter.SegmentMeter.new.Goals as goal

pub invariant_of-result : goal.invariant_of-result
invariant_of-result c = record {
  within = omega arith;
  free = ap (λ (m : Metered). m.cost) c.new-2.ensures;
  marks_are = none_marked _ _ (ap (λ (m : Metered). m.touched) c.new-2.ensures) c.in_ok-marks.ensures;
}
