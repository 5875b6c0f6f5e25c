use Rattle.std.proofs.Common.{◌≡◌, ◌≤◌, length, drop}
use Rattle.claim_types.specs.Claims.{assumptions_of}
use Rattle.claim_types.proofs.digests.conditional_digest.Given as goal

abbrev pub invariant-loop-at : goal.invariant-loop-at
invariant-loop-at g l = record {
  low : l.at ≤ length l.calls;
  so_far : l.assumptions ≡ assumptions_of g.D.Digester.digest_of (drop l.at l.calls);
}

abbrev pub decreases-loop-at : goal.decreases-loop-at
decreases-loop-at g l = l.at
