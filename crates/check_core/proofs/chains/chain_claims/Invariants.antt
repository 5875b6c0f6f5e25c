use Rattle.std.proofs.Common.{◌≡◌}
use Rattle.check_core.proofs.Claims.{HasClaims}
use Rattle.check_core.proofs.chains.chain_claims.Given as goal

abbrev pub invariant-loop-entry : goal.invariant-loop-entry
invariant-loop-entry g l = (l.number ≡ l.entry-index) × HasClaims g.D.Digester.digest_of l.entry-items l.number l.claims.items
