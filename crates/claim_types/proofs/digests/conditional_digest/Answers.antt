use Rattle.std.proofs.Common.{arith, ◌∙◌}
use Rattle.claim_types.specs.Claims.{assumptions_tag}
use Rattle.claim_types.proofs.Assumptions.{one_more}
use Rattle.claim_types.proofs.digests.conditional_digest.Goals as goal

pub loop-at-preserved : goal.loop-at-preserved
unfolding assumptions_tag
loop-at-preserved g c = record {
  low = omega arith;
  so_far =
      c.tagged-assumptions.ensures
      ∙ one_more g.D.Digester.digest_of c.as_slice-calls.result.now c.loop-at.at c.index-calls-at.result c.ok_claim_digest-ok.result c.loop-at.assumptions
      (omega arith) c.loop-at.invariant.low c.index-calls-at.is c.ok_claim_digest-ok.ensures c.loop-at.invariant.so_far;
}
