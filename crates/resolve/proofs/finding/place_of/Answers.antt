use Rattle.std.proofs.Common.{sym, ◌∙◌}
use Rattle.resolve.proofs.Places.{place_found, place_passed}
use Rattle.resolve.proofs.finding.place_of.Goals as goal

pub returns-then-eq : goal.returns-then-eq
returns-then-eq c =
    let digest = c.index-claims-place.result in
    sym (c.loop-place.invariant
    ∙ place_found c.args.wanted.now c.args.claims.now c.loop-place.place digest digest c.eq.result c.loop-place-test.true c.index-claims-place.is c.eq.ensures c.if-eq.true)

pub loop-place-preserved : goal.loop-place-preserved
loop-place-preserved c =
    let digest = c.index-claims-place.result in
    c.loop-place.invariant
    ∙ place_passed c.args.wanted.now c.args.claims.now c.loop-place.place digest digest c.eq.result c.loop-place-test.true c.index-claims-place.is c.eq.ensures c.if-eq.false
