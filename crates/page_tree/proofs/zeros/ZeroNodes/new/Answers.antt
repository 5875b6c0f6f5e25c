use Rattle.std.proofs.Common.{◌<◌, length, arith}
use Rattle.std.proofs.Math.ListN.{length-set, replicate}
use Rattle.page_core.specs.Pages.{zero_page}
use Rattle.page_tree.proofs.Unstored.{zero_first, zero_more}
use Rattle.page_tree.proofs.zeros.ZeroNodes.new.Goals as goal

-- the first digest is that of a page of zeros
pub loop-height-init : goal.loop-height-init
unfolding zero_page
loop-height-init g c =
    record { first = omega arith; long = omega arith; known = zero_first g.D.Digester.digest_of c.hash-page.result (replicate 18 c.hash-page.result) c.hash-page.ensures }

-- each digest is that of two of the digest before it
pub loop-height-preserved : goal.loop-height-preserved
loop-height-preserved g c =
    let digests = c.loop-height.digests in
    let invariant = c.loop-height.invariant in
    let within : c.loop-height.height < length digests = omega arith in
    record {
      first = omega arith;
      long = omega (arith, length-set digests c.loop-height.height c.node.result);
      known = zero_more g.D.Digester.digest_of digests c.loop-height.height c.node.result c.index-digests-height.result invariant.first within invariant.known c.node.ensures;
    }

-- the table has the digests of all heights
pub invariant_of-result : goal.invariant_of-result
invariant_of-result g c =
    record { are = λ h low. c.loop-height.invariant.known h (omega arith) }
