use Rattle.std.proofs.Common.{◌≡◌}
use Rattle.resolve.specs.Parts.{digests_of}
use Rattle.resolve.proofs.Placed.{placed_of}
use Rattle.resolve.proofs.finding.claims_of.Given as goal

abbrev pub invariant-loop-other : goal.invariant-loop-other
invariant-loop-other g l = l.claims.items ≡ digests_of g.D.Digester.digest_of (placed_of l.others l.other-index)
