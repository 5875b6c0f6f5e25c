use Rattle.std.proofs.Common.{ap, arith}
use Rattle.host_calls.specs.Meters.{Metered}
use Rattle.executor.proofs.MarkedPages.{none_marked}
use Rattle.executor.proofs.segment_meter.SegmentMeter.clear.Goals as goal

pub invariant_of-self : goal.invariant_of-self
invariant_of-self c = record {
  within = omega arith;
  free = ap (λ (m : Metered). m.cost) c.clear.ensures;
  marks_are = none_marked _ _ (ap (λ (m : Metered). m.touched) c.clear.ensures) c.in_ok-self-inside.ensures;
}
