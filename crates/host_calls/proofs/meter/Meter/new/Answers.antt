use Rattle.host_calls.proofs.Metering.{unused_within}
use Rattle.page_core.proofs.Ascending.{ascending-none}
use Rattle.host_calls.proofs.meter.Meter.new.Goals as goal

pub invariant_of-result : goal.invariant_of-result
invariant_of-result c = rw c.new.ensures.items (ascending-none, unused_within c.args.cycles c.args.pages)
