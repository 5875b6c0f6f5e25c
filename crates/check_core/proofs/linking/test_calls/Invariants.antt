use Rattle.std.proofs.Common.{◌≡◌, length, drop}
use Rattle.receipt_types.specs.Bundles.{Bundle}
use Rattle.check_core.specs.Judgement.{calls_stop}
use Rattle.check_core.specs.Checking.{TellDigests}
use Rattle.check_core.proofs.linking.test_calls.Given as goal

abbrev pub invariant-loop-call : goal.invariant-loop-call
invariant-loop-call g l =
    (l.place ≡ length l.yielded)
    × ((B : Bundle) → TellDigests g.D.Digester.digest_of B l.reports
    → calls_stop g.D.Digester.digest_of B l.fn.number 0 l.calls l.links ≡ calls_stop g.D.Digester.digest_of B l.fn.number l.place (drop l.place l.calls) (drop l.place l.links))
