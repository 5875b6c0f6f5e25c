use Rattle.std.proofs.Common.{rules, ◌≡◌, ◌≤◌, ◌∙◌, ℕ, [], ◌∷◌, ◌++◌, Some, length, take, refl, sym, ap, arith}
use Rattle.std.proofs.lemmas.List.{take_more, take_all, length_push}
use Rattle.std.proofs.lemmas.Slice.Zip.{zip_turn, zip_end, AllZip-long}
use Rattle.std.specs.Slice.Iter.{iter_rest}
use Rattle.std.specs.Iterator.Adapters.{zip_first, zip_second}
use Rattle.receipt_types.specs.Bundles.{Entry}
use Rattle.receipt_codec.proofs.Written.{entry_limits}
use Rattle.lift_join.specs.Joins.{chain_of}
use Rattle.check_core.specs.Reports.{EntryReport, entry_reports as reports_of}
use Rattle.check_core.proofs.Claims.{claim_at, one_more_reported}
use Rattle.check_core.proofs.reporting.entry_reports.Goals as goal

pub entry_report-requires-clause-few : goal.entry_report-requires-clause-few
entry_report-requires-clause-few g c κs within =
    let entries = c.args.bundle.now in
    let first : iter_rest (zip_first c.into_iter-entry-iterator.result) ≡ entries = search rules in
    let second : iter_rest (zip_second c.into_iter-entry-iterator.result) ≡ c.args.claims.now = search rules in
    let (low, low_claim, is, is_claim) =
    zip_turn entries c.args.claims.now c.loop-entry.yielded c.into_iter-entry-iterator.result c.loop-entry.entry-iterator c.next.new.self c.next.result first second c.loop-entry.yielded_by
    (c.in-Some.entry, c.in-Some.claim) c.in-Some.is c.next.ensures.steps in
    let (at, limits) = entry_limits entries entries (length c.loop-entry.yielded) c.in-Some.entry.now c.requires.limits refl low (is c.in-Some.entry.now) in
    limits.few_seals

pub entry_report-requires-clause-limits : goal.entry_report-requires-clause-limits
entry_report-requires-clause-limits g c κs within =
    let entries = c.args.bundle.now in
    let first : iter_rest (zip_first c.into_iter-entry-iterator.result) ≡ entries = search rules in
    let second : iter_rest (zip_second c.into_iter-entry-iterator.result) ≡ c.args.claims.now = search rules in
    let (low, low_claim, is, is_claim) =
    zip_turn entries c.args.claims.now c.loop-entry.yielded c.into_iter-entry-iterator.result c.loop-entry.entry-iterator c.next.new.self c.next.result first second c.loop-entry.yielded_by
    (c.in-Some.entry, c.in-Some.claim) c.in-Some.is c.next.ensures.steps in
    let (at, limits) = entry_limits entries entries (length c.loop-entry.yielded) c.in-Some.entry.now c.requires.limits refl low (is c.in-Some.entry.now) in
    limits.seals

pub loop-entry-preserved : goal.loop-entry-preserved
loop-entry-preserved g c =
    let entries = c.args.bundle.now in
    let first : iter_rest (zip_first c.into_iter-entry-iterator.result) ≡ entries = search rules in
    let second : iter_rest (zip_second c.into_iter-entry-iterator.result) ≡ c.args.claims.now = search rules in
    let (low, low_claim, is, is_claim) =
    zip_turn entries c.args.claims.now c.loop-entry.yielded c.into_iter-entry-iterator.result c.loop-entry.entry-iterator c.next.new.self c.next.result first second c.loop-entry.yielded_by
    (c.in-Some.entry, c.in-Some.claim) c.in-Some.is c.next.ensures.steps in
    let H = g.D.Digester.digest_of in
    let k = length c.loop-entry.yielded in
    let chain : chain_of g.D.Digester.digest_of c.in-Some.entry.now.seals ≡ Some c.in-Some.claim.now =
    ap (λ (e : Entry). chain_of g.D.Digester.digest_of e.seals) (is c.in-Some.entry.now)
    ∙ claim_at g.D.Digester.digest_of entries c.args.claims.now k c.in-Some.entry.now c.in-Some.claim.now c.requires.claims low
    ∙ ap Some (sym (is_claim c.in-Some.claim.now)) in
    let next : take (length (c.loop-entry.yielded ++ (c.in-Some.entry, c.in-Some.claim) ∷ [])) entries ≡ take k entries ++ c.in-Some.entry.now ∷ [] =
    ap (λ (n : ℕ). take n entries) (length_push c.loop-entry.yielded (c.in-Some.entry, c.in-Some.claim)) ∙ take_more entries k c.in-Some.entry.now low
    ∙ ap (λ (e : Entry). take k entries ++ e ∷ []) (sym (is c.in-Some.entry.now)) in
    ap (reports_of H) next
    ∙ one_more_reported H (take k entries) c.loop-entry.reports.items c.in-Some.entry.now c.in-Some.claim.now c.loop-entry.invariant chain
    ∙ ap (λ (r : EntryReport). Some (c.loop-entry.reports.items ++ r ∷ [])) (sym c.in_ok-entry_report.ensures)
    ∙ ap Some (sym c.in_ok-push.ensures.ok)

pub returns : goal.returns
returns g c =
    let entries = c.args.bundle.now in
    let first : iter_rest (zip_first c.into_iter-entry-iterator.result) ≡ entries = search rules in
    let second : iter_rest (zip_second c.into_iter-entry-iterator.result) ≡ c.args.claims.now = search rules in
    let turns = zip_end entries c.args.claims.now c.loop-entry.yielded c.into_iter-entry-iterator.result c.loop-entry.entry-iterator c.next.new.self c.next.result first second c.loop-entry.yielded_by c.in-None.is c.next.ensures.steps in
    let long = AllZip-long (λ entry claim. chain_of g.D.Digester.digest_of entry.seals ≡ Some claim) entries c.args.claims.now c.requires.claims in
    let all : length entries ≤ length c.loop-entry.yielded = omega (arith, turns, long) in
    ap (reports_of g.D.Digester.digest_of) (sym (take_all (length c.loop-entry.yielded) entries all)) ∙ c.loop-entry.invariant
