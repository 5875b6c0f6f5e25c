use Rattle.std.proofs.Common.{◌≡◌, length, drop}
use Rattle.receipt_types.specs.Bundles.{Bundle}
use Rattle.check_core.specs.Auditing.{calls_pair}
use Rattle.audit.specs.Places.{calls_place}
use Rattle.audit.specs.Walking.{TellClaims}
use Rattle.audit.proofs.linked.first_linked.Given as goal

abbrev pub invariant-loop-call : goal.invariant-loop-call
invariant-loop-call g l =
    (l.number ≡ length l.yielded)
    × ((B : Bundle) → TellClaims g.D.Digester.digest_of B l.claims
    → (calls_pair g.D.Digester.digest_of B l.calls l.links ≡ calls_pair g.D.Digester.digest_of B (drop l.number l.calls) (drop l.number l.links))
    × (calls_place g.D.Digester.digest_of B 0 l.calls l.links ≡ calls_place g.D.Digester.digest_of B l.number (drop l.number l.calls) (drop l.number l.links)))
