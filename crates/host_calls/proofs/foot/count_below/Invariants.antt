use Rattle.std.proofs.Common.{◌≡◌, ◌+◌, drop}
use Rattle.host_calls.specs.Foots.{below}
use Rattle.host_calls.proofs.foot.count_below.Given as goal

abbrev pub invariant-loop-count : goal.invariant-loop-count
invariant-loop-count l = below l.page l.pages ≡ l.count + below l.page (drop l.count l.pages)
