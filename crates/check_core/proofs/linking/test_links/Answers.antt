use Rattle.std.proofs.Common.{rules, ◌≡◌, ◌+◌, ◌≤◌, ◌<◌, ◌∙◌, ℕ, Some, Err, length, get_or, refl, sym, ap, subst, arith}
use Rattle.std.proofs.lemmas.List.{length_push}
use Rattle.std.proofs.lemmas.Slice.Zip.{zip_turn, zip_end, AllZip-long}
use Rattle.std.specs.Slice.Iter.{iter_rest}
use Rattle.std.specs.Iterator.Adapters.{zip_first, zip_second}
use Rattle.receipt_types.specs.Bundles.{Entry}
use Rattle.receipt_codec.proofs.Written.{entry_limits}
use Rattle.lift_join.specs.Joins.{chain_of}
use Rattle.check_core.proofs.Claims.{claim_at, reports_tell, reports_long}
use Rattle.check_core.proofs.Linked.{entry_linked, entry_refused, links_over}
use Rattle.check_core.proofs.linking.test_links.Goals as goal

pub test_entry-requires-clause-few : goal.test_entry-requires-clause-few
test_entry-requires-clause-few g c κs within =
    let entries = c.args.bundle.now in
    let first : iter_rest (zip_first c.into_iter-entry-iterator.result) ≡ entries = search rules in
    let second : iter_rest (zip_second c.into_iter-entry-iterator.result) ≡ c.args.claims.now = search rules in
    let (low, low_claim, is, is_claim) =
    zip_turn entries c.args.claims.now c.loop-entry.yielded c.into_iter-entry-iterator.result c.loop-entry.entry-iterator c.next.new.self c.next.result first second c.loop-entry.yielded_by
    (c.in-Some.entry, c.in-Some.claim) c.in-Some.is c.next.ensures.steps in
    let (at, limits) = entry_limits entries entries (length c.loop-entry.yielded) c.in-Some.entry.now c.requires.limits refl low (is c.in-Some.entry.now) in
    limits.few_links

pub test_entry-requires-clause-links : goal.test_entry-requires-clause-links
test_entry-requires-clause-links g c κs within i d inside =
    let entries = c.args.bundle.now in
    let first : iter_rest (zip_first c.into_iter-entry-iterator.result) ≡ entries = search rules in
    let second : iter_rest (zip_second c.into_iter-entry-iterator.result) ≡ c.args.claims.now = search rules in
    let (low, low_claim, is, is_claim) =
    zip_turn entries c.args.claims.now c.loop-entry.yielded c.into_iter-entry-iterator.result c.loop-entry.entry-iterator c.next.new.self c.next.result first second c.loop-entry.yielded_by
    (c.in-Some.entry, c.in-Some.claim) c.in-Some.is c.next.ensures.steps in
    let (at, limits) = entry_limits entries entries (length c.loop-entry.yielded) c.in-Some.entry.now c.requires.limits refl low (is c.in-Some.entry.now) in
    let long = reports_long g.D.Digester.digest_of entries c.args.reports.now c.requires.reports in
    let (above, below) = limits.links i d inside in
    subst (λ (n : ℕ). get_or c.in-Some.entry.now.links i d < n) (sym long) below

pub returns-in_err-test_entry-clause-stop : goal.returns-in_err-test_entry-clause-stop
returns-in_err-test_entry-clause-stop g c =
    let entries = c.args.bundle.now in
    let first : iter_rest (zip_first c.into_iter-entry-iterator.result) ≡ entries = search rules in
    let second : iter_rest (zip_second c.into_iter-entry-iterator.result) ≡ c.args.claims.now = search rules in
    let (low, low_claim, is, is_claim) =
    zip_turn entries c.args.claims.now c.loop-entry.yielded c.into_iter-entry-iterator.result c.loop-entry.entry-iterator c.next.new.self c.next.result first second c.loop-entry.yielded_by
    (c.in-Some.entry, c.in-Some.claim) c.in-Some.is c.next.ensures.steps in
    let H = g.D.Digester.digest_of in
    let k : ℕ = c.loop-entry.number in
    let (same, so_far) = c.loop-entry.invariant in
    let stop = c.in_err-test_entry.field-0.0 in
    let at : k < length entries = omega (arith, same, low) in
    let here : c.in-Some.entry.now ≡ get_or entries k c.in-Some.entry.now = is c.in-Some.entry.now ∙ ap (λ (n : ℕ). get_or entries n c.in-Some.entry.now) (sym same) in
    let chain : chain_of H c.in-Some.entry.now.seals ≡ Some c.in-Some.claim.now =
    ap (λ (e : Entry). chain_of H e.seals) here
    ∙ claim_at H entries c.args.claims.now k c.in-Some.entry.now c.in-Some.claim.now c.requires.claims at
    ∙ ap (λ (n : ℕ). Some (get_or c.args.claims.now n c.in-Some.claim.now)) same ∙ ap Some (sym (is_claim c.in-Some.claim.now)) in
    let stops = c.in_err-test_entry.ensures.stop entries (reports_tell H entries c.args.reports.now c.requires.reports) in
    let err : c.from_residual.result ≡ Err stop = search rules in
    rw err (so_far ∙ entry_refused H entries k entries c.in-Some.entry.now c.in-Some.entry.now c.in-Some.claim.now at here chain stop stops)

pub loop-entry-preserved : goal.loop-entry-preserved
loop-entry-preserved g c =
    let entries = c.args.bundle.now in
    let first : iter_rest (zip_first c.into_iter-entry-iterator.result) ≡ entries = search rules in
    let second : iter_rest (zip_second c.into_iter-entry-iterator.result) ≡ c.args.claims.now = search rules in
    let (low, low_claim, is, is_claim) =
    zip_turn entries c.args.claims.now c.loop-entry.yielded c.into_iter-entry-iterator.result c.loop-entry.entry-iterator c.next.new.self c.next.result first second c.loop-entry.yielded_by
    (c.in-Some.entry, c.in-Some.claim) c.in-Some.is c.next.ensures.steps in
    let H = g.D.Digester.digest_of in
    let k : ℕ = c.loop-entry.number in
    let (same, so_far) = c.loop-entry.invariant in
    let at : k < length entries = omega (arith, same, low) in
    let here : c.in-Some.entry.now ≡ get_or entries k c.in-Some.entry.now = is c.in-Some.entry.now ∙ ap (λ (n : ℕ). get_or entries n c.in-Some.entry.now) (sym same) in
    let chain : chain_of H c.in-Some.entry.now.seals ≡ Some c.in-Some.claim.now =
    ap (λ (e : Entry). chain_of H e.seals) here
    ∙ claim_at H entries c.args.claims.now k c.in-Some.entry.now c.in-Some.claim.now c.requires.claims at
    ∙ ap (λ (n : ℕ). Some (get_or c.args.claims.now n c.in-Some.claim.now)) same ∙ ap Some (sym (is_claim c.in-Some.claim.now)) in
    let none = c.in_ok-test_entry.ensures.ok entries (reports_tell H entries c.args.reports.now c.requires.reports) in (
      ap (λ (n : ℕ). n + 1) same ∙ sym (length_push c.loop-entry.yielded (c.in-Some.entry, c.in-Some.claim)),
      so_far ∙ entry_linked H entries k entries c.in-Some.entry.now c.in-Some.entry.now c.in-Some.claim.now at here chain none,
    )

pub returns-clause-ok : goal.returns-clause-ok
returns-clause-ok g c =
    let entries = c.args.bundle.now in
    let first : iter_rest (zip_first c.into_iter-entry-iterator.result) ≡ entries = search rules in
    let second : iter_rest (zip_second c.into_iter-entry-iterator.result) ≡ c.args.claims.now = search rules in
    let turns = zip_end entries c.args.claims.now c.loop-entry.yielded c.into_iter-entry-iterator.result c.loop-entry.entry-iterator c.next.new.self c.next.result first second c.loop-entry.yielded_by c.in-None.is c.next.ensures.steps in
    let long = AllZip-long (λ entry claim. chain_of g.D.Digester.digest_of entry.seals ≡ Some claim) entries c.args.claims.now c.requires.claims in
    let (same, so_far) = c.loop-entry.invariant in
    let all : length entries ≤ c.loop-entry.number = omega (arith, turns, long, same) in
    so_far ∙ links_over g.D.Digester.digest_of entries c.loop-entry.number entries all
