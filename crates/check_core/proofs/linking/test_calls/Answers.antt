use Rattle.std.proofs.Common.{rules, ◌≡◌, ◌≢◌, ◌+◌, ◌<◌, ◌∙◌, ℕ, List, Some, length, get_or, sym, ap, ap₂, subst, arith}
use Rattle.std.proofs.lemmas.List.{length_push}
use Rattle.std.proofs.lemmas.Slice.Zip.{zip_turn}
use Rattle.std.specs.Slice.Iter.{iter_rest}
use Rattle.std.specs.Iterator.Adapters.{zip_first, zip_second}
use Rattle.claim_types.specs.Claims.{ok_digest}
use Rattle.receipt_types.specs.Bundles.{Bundle}
use Rattle.check_core.specs.declared.stop.CheckStop.TheVariants.{BadLink}
use Rattle.check_core.specs.Entries.{digest_in}
use Rattle.check_core.specs.Reports.{EntryReport}
use Rattle.check_core.specs.Checking.{reported_digest, TellDigests}
use Rattle.check_core.proofs.Linked.{same_digests, other_digests, item_is, call_answered, call_refused}
use Rattle.check_core.proofs.linking.test_calls.Goals as goal

pub returns-then-ne-clause-stop : goal.returns-then-ne-clause-stop
returns-then-ne-clause-stop g c B tell =
    let calls = c.args.calls.now in
    let links = c.args.links.now in
    let first : iter_rest (zip_first c.into_iter-call-iterator.result) ≡ calls = search rules in
    let second : iter_rest (zip_second c.into_iter-call-iterator.result) ≡ links = search rules in
    let (low, low_link, is, is_link) =
    zip_turn calls links c.loop-call.yielded c.into_iter-call-iterator.result c.loop-call.call-iterator c.next.new.self c.next.result first second c.loop-call.yielded_by
    (c.in-Some.call, c.in-Some.link) c.in-Some.is c.next.ensures.steps in
    let k : ℕ = c.loop-call.place in
    let (same, so_far) = c.loop-call.invariant in
    let at : k < length calls = omega (arith, same, low) in
    let at_link : k < length links = omega (arith, same, low_link) in
    let here : c.in-Some.call.now ≡ get_or calls k c.in-Some.call.now = is c.in-Some.call.now ∙ ap (λ (n : ℕ). get_or calls n c.in-Some.call.now) (sym same) in
    let link_here : c.in-Some.link.now ≡ get_or links k c.in-Some.link.now = is_link c.in-Some.link.now ∙ ap (λ (n : ℕ). get_or links n c.in-Some.link.now) (sym same) in
    let H = g.D.Digester.digest_of in
    let reports = c.args.reports.now in
    let link : ℕ = c.in-Some.link.now in
    let wanted : c.ok_claim_digest-wanted.result ≡ ok_digest H c.in-Some.call.now = c.ok_claim_digest-wanted.ensures in
    let inside : link < length reports = subst (λ (n : ℕ). n < length reports) (sym link_here) (c.requires.links k link at_link) in
    let report : c.index-reports-from.result ≡ get_or reports link c.index-reports-from.result =
    c.index-reports-from.is ∙ ap (λ (n : ℕ). get_or reports n c.index-reports-from.result) c.from.ensures in
    let claimed : (B : Bundle) → TellDigests H B reports → c.report.inside.claim ≡ digest_in H B link =
    λ B tell.
    ap (λ (r : EntryReport). r.claim) (c.report.view_is ∙ report)
    ∙ sym (tell link ∙ ap reported_digest (item_is reports link c.index-reports-from.result inside)) in
    let found : c.report.inside.claim ≡ digest_in H B link = claimed B tell in
    let other : ok_digest H c.in-Some.call.now ≢ digest_in H B link =
    λ e. other_digests c.ok_claim_digest-wanted.result c.report.inside.claim c.ne.result c.ne.ensures c.if-ne.true (wanted ∙ e ∙ sym found) in
    so_far B tell ∙ call_refused H B c.args.number k calls links c.in-Some.call.now c.in-Some.call.now link link at at_link here link_here other
    ∙ ap₂ (λ (w f : List ℕ). Some (BadLink c.args.number k w f)) (sym wanted) (sym found)

pub loop-call-preserved : goal.loop-call-preserved
loop-call-preserved g c =
    let calls = c.args.calls.now in
    let links = c.args.links.now in
    let first : iter_rest (zip_first c.into_iter-call-iterator.result) ≡ calls = search rules in
    let second : iter_rest (zip_second c.into_iter-call-iterator.result) ≡ links = search rules in
    let (low, low_link, is, is_link) =
    zip_turn calls links c.loop-call.yielded c.into_iter-call-iterator.result c.loop-call.call-iterator c.next.new.self c.next.result first second c.loop-call.yielded_by
    (c.in-Some.call, c.in-Some.link) c.in-Some.is c.next.ensures.steps in
    let k : ℕ = c.loop-call.place in
    let (same, so_far) = c.loop-call.invariant in
    let at : k < length calls = omega (arith, same, low) in
    let at_link : k < length links = omega (arith, same, low_link) in
    let here : c.in-Some.call.now ≡ get_or calls k c.in-Some.call.now = is c.in-Some.call.now ∙ ap (λ (n : ℕ). get_or calls n c.in-Some.call.now) (sym same) in
    let link_here : c.in-Some.link.now ≡ get_or links k c.in-Some.link.now = is_link c.in-Some.link.now ∙ ap (λ (n : ℕ). get_or links n c.in-Some.link.now) (sym same) in
    let H = g.D.Digester.digest_of in
    let reports = c.args.reports.now in
    let link : ℕ = c.in-Some.link.now in
    let wanted : c.ok_claim_digest-wanted.result ≡ ok_digest H c.in-Some.call.now = c.ok_claim_digest-wanted.ensures in
    let inside : link < length reports = subst (λ (n : ℕ). n < length reports) (sym link_here) (c.requires.links k link at_link) in
    let report : c.index-reports-from.result ≡ get_or reports link c.index-reports-from.result =
    c.index-reports-from.is ∙ ap (λ (n : ℕ). get_or reports n c.index-reports-from.result) c.from.ensures in
    let claimed : (B : Bundle) → TellDigests H B reports → c.report.inside.claim ≡ digest_in H B link =
    λ B tell.
    ap (λ (r : EntryReport). r.claim) (c.report.view_is ∙ report)
    ∙ sym (tell link ∙ ap reported_digest (item_is reports link c.index-reports-from.result inside)) in (
      ap (λ (n : ℕ). n + 1) same ∙ sym (length_push c.loop-call.yielded (c.in-Some.call, c.in-Some.link)),
      λ B tell.
          let found : c.report.inside.claim ≡ digest_in H B link = claimed B tell in
          let answered : ok_digest H c.in-Some.call.now ≡ digest_in H B link =
          sym wanted ∙ same_digests c.ok_claim_digest-wanted.result c.report.inside.claim c.ne.result c.ne.ensures c.if-ne.false ∙ found in
          so_far B tell ∙ call_answered H B c.args.number k calls links c.in-Some.call.now c.in-Some.call.now link link at at_link here link_here answered,
    )
