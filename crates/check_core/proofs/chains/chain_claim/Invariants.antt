use Rattle.std.proofs.Common.{◌≡◌, map}
use Rattle.std.specs.Arc.{arc_value}
use Rattle.check_core.proofs.Chaining.{HasChained}
use Rattle.check_core.proofs.chains.chain_claim.Given as goal

abbrev pub invariant-loop-seal : goal.invariant-loop-seal
invariant-loop-seal g l = (l.place ≡ l.seal-index) × HasChained g.D.Digester.digest_of l.number (map (λ seal. arc_value seal) l.seals) l.place l.chain
