use Rattle.std.proofs.Common.{arith}
use Rattle.std.proofs.lemmas.Result.{IfOk-weaker}
use Rattle.executor.proofs.executor.Executor.advance.Goals as goal

pub returns-clause-stands : goal.returns-clause-stands
returns-clause-stands g c image words stands = c.go_on.ensures.stands image words (c.go_quickly.ensures.stands image words stands)

pub returns-clause-went : goal.returns-clause-went
returns-clause-went g c = IfOk-weaker c.go_on.result _ _ (λ went h yes. (omega (arith, c.go_quickly.ensures.more, (h yes).0), (h yes).1)) c.go_on.ensures.went
