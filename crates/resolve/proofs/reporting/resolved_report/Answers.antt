use Rattle.std.proofs.Common.{◌≡◌, ◌<◌, [], ◌∷◌, ◌++◌, ℕ, length, Some, sym, ap, subst, ◌∙◌, arith}
use Rattle.std.specs.List.{All}
use Rattle.std.proofs.lemmas.List.Elements.{All-weaker}
use Rattle.byte_cursor.specs.Growing.{Growing}
use Rattle.claim_types.specs.Claims.{SpanClaim}
use Rattle.receipt_types.specs.Bundles.{Bundle, item}
use Rattle.check_core.specs.Reports.{EntryReport, Report, entry_report}
use Rattle.check_core.proofs.Linked.{item_is}
use Rattle.resolve.proofs.Placed.{told_reports, links_below}
use Rattle.resolve.proofs.Reported.{ReportsSoFar, one_reported, few_so_far, next_reported, all_reported}
use Rattle.resolve.proofs.reporting.resolved_report.Goals as goal

pub loop-other-init : goal.loop-other-init
loop-other-init g c =
    let H = g.D.Digester.digest_of in
    let first = c.in-Some.first.now in
    let entries = c.as_slice.result.now in
    let found = c.in-Some.ensures.item in
    let at : item c.args.bundle.now 0 ≡ Some first =
    ap (λ (C : Bundle). item C 0) (sym (c.as_slice.ensures ∙ c.bundle.view_is)) ∙ item_is entries 0 first found.3.0 ∙ ap Some (sym found.1) in
    let reports : c.push.new.self.items ≡ c.in_ok-entry_report.field-0 ∷ [] =
    c.in_ok-push.ensures.ok ∙ ap (λ (l : Growing EntryReport). l.items ++ c.in_ok-entry_report.field-0 ∷ []) c.new-entries.ensures in
    subst (ReportsSoFar H c.args.bundle.now c.args.others.now 0) (sym reports)
    (one_reported H c.args.joined.now c.args.others.now c.args.bundle.now c.requires.resolved c.in_ok-entry_report.field-0 first at c.claim.ensures.chain
    (c.in_ok-entry_report.ensures ∙ ap (entry_report H first) c.claim.ensures.value))

pub add_reports-requires-clause-few : goal.add_reports-requires-clause-few
add_reports-requires-clause-few g c =
    let other = c.other-item.result in
    few_so_far g.D.Digester.digest_of c.args.joined.now c.args.others.now c.args.bundle.now c.requires.resolved c.loop-other.other-index c.loop-other.entries.items c.loop-other.invariant
    other other c.loop-other-test.true c.other-item.is

pub add_reports-requires-clause-links : goal.add_reports-requires-clause-links
add_reports-requires-clause-links g c =
    let H = g.D.Digester.digest_of in
    let other = c.other-item.result in
    let checked = c.report.ensures.checked in
    let n : ℕ = length other.bundle in
    let few = checked.limits.few_entries in
    let reports : c.as_slice-in-loop-other.result.now ≡ other.report.entries =
    c.as_slice-in-loop-other.ensures ∙ ap (λ (r : Report). r.entries) (c.behind-other.view_is ∙ c.report.ensures.value) in
    let below = links_below H 0 n other.bundle other.report.entries checked.limits.entries (told_reports H other.bundle other.report checked.is_report) in
    subst (All (λ (report : EntryReport). All (λ link. link < 256) report.links)) (sym reports)
    (All-weaker (λ (report : EntryReport). All (λ link. link < n) report.links) (λ report. All (λ link. link < 256) report.links)
    (λ report h. All-weaker (λ link. link < n) (λ link. link < 256) (λ link l. omega (arith, l, few)) report.links h) other.report.entries below)

pub loop-other-preserved : goal.loop-other-preserved
loop-other-preserved g c =
    let other = c.other-item.result in
    let reports : c.as_slice-in-loop-other.result.now ≡ other.report.entries =
    c.as_slice-in-loop-other.ensures ∙ ap (λ (r : Report). r.entries) (c.behind-other.view_is ∙ c.report.ensures.value) in
    next_reported g.D.Digester.digest_of c.args.joined.now c.args.others.now c.args.bundle.now c.requires.resolved c.loop-other.other-index c.loop-other.entries.items c.loop-other.invariant
    other other c.loop-other-test.true c.other-item.is c.report.ensures.checked.is_report
    c.add_reports.new.entries.items c.as_slice-in-loop-other.result.now reports c.in_ok-add_reports.ensures

pub returns : goal.returns
returns g c =
    let H = g.D.Digester.digest_of in
    let claim : SpanClaim = c.args.joined.now.claim in
    let journal : c.extend.new.self.items ≡ claim.journal =
    c.in_ok-extend.ensures.ok ∙ ap (λ (l : Growing ℕ). l.items ++ c.as_slice-2.result.now) c.new-journal.ensures ∙ c.as_slice-2.ensures
    ∙ ap (λ (x : SpanClaim). x.journal) (c.behind-joined.view_is ∙ c.claim-2.ensures.value) in
    all_reported H c.args.joined.now c.args.others.now c.args.bundle.now c.requires.resolved c.loop-other.other-index c.loop-other.entries.items c.loop-other.invariant
    c.extend.new.self.items c.loop-other-test.false c.claim.ensures.chain journal
