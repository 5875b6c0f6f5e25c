use Rattle.std.proofs.Common.{arith}
use Rattle.std.proofs.lemmas.Bool.Decides.{nat_tests}
use Rattle.page_core.proofs.Ascending.{ascending-none}
use Rattle.host_calls.proofs.meter.Meter.clear.Goals as goal

pub invariant_of-self : goal.invariant_of-self
invariant_of-self c = rw c.clear.ensures.items (ascending-none, grind (arith, nat_tests, c.self.invariant.1))
