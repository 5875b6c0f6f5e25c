use Rattle.std.proofs.Common.{◌≡◌, ℕ, ap, ◌∙◌}
use Rattle.check_core.specs.Reports.{Report}
use Rattle.resolve.specs.Parts.{digests_of}
use Rattle.resolve.proofs.Placed.{placed_all, claims_next}
use Rattle.resolve.proofs.finding.claims_of.Goals as goal

pub loop-other-preserved : goal.loop-other-preserved
loop-other-preserved g c =
    let other = c.other-item.result in
    let i : ℕ = c.loop-other.other-index in
    let reports : c.as_slice.result.now ≡ other.report.entries = c.as_slice.ensures ∙ ap (λ (r : Report). r.entries) (c.behind-other.view_is ∙ c.report.ensures.value) in
    claims_next g.D.Digester.digest_of c.args.others.now i other other c.loop-other-test.true c.other-item.is c.report.ensures.checked.is_report
    c.loop-other.claims.items c.add_claims.new.claims.items c.as_slice.result.now c.loop-other.invariant reports c.in_ok-add_claims.ensures

pub returns : goal.returns
returns g c = c.loop-other.invariant ∙ ap (digests_of g.D.Digester.digest_of) (placed_all c.args.others.now c.loop-other.other-index c.loop-other-test.false)
