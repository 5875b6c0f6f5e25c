use Rattle.std.proofs.Common.{◌≡◌, take, None}
use Rattle.rv_step.specs.Machine.{first_closed}
use Rattle.rv_step.proofs.stepping.first_missing.Given as goal

abbrev pub invariant-loop-page : goal.invariant-loop-page
invariant-loop-page g l = first_closed (g.B.Bus.opens l.bus) (take l.page-index l.pages) ≡ None
