use Rattle.std.proofs.Common.{◌≡◌, ◌+◌, ◌≤◌, ◌∷◌, ◌++◌, ℕ, List, length, map, Some, sym, ap, ◌∙◌, arith}
use Rattle.claim_types.specs.Claims.{SpanClaim}
use Rattle.receipt_types.specs.Bundles.{Entry, Bundle}
use Rattle.receipt_types.specs.Limits.{KeepsLimits}
use Rattle.check_core.specs.Checked.{IsAccepted}
use Rattle.resolve.specs.Bundling.{raised_entry, placed_entries, links_for}
use Rattle.resolve.specs.Resolving.{bundles_of}
use Rattle.resolve.proofs.Links.{all_answered}
use Rattle.resolve.proofs.Placed.{placed_all}
use Rattle.resolve.proofs.Gathered.{claims_long, room_for_next, gathered_more, all_more, all_of}
use Rattle.resolve.proofs.Accepted.{entry_zero, parts_resolved, resolved_accepted}
use Rattle.resolve.proofs.Keeping.{resolved_keeps}
use Rattle.resolve.proofs.resolving.resolve.Goals as goal

pub returns-then-count-clause-stop : goal.returns-then-count-clause-stop
returns-then-count-clause-stop g c =
    let H = g.D.Digester.digest_of in
    let entries = placed_entries 1 (bundles_of c.args.others.now) in
    let calls : c.as_slice.result.now ≡ c.args.joined.now.claim.calls = c.as_slice.ensures ∙ ap (λ (x : SpanClaim). x.calls) (c.behind-joined.view_is ∙ c.claim.ensures.value) in
    let linked : links_for H entries c.args.joined.now.claim.calls ≡ Some c.in_ok-links.links.items =
    ap (links_for H entries) (sym calls) ∙ c.in_ok-links.ensures.links entries (c.as_slice-2.ensures ∙ c.in_ok-claims.ensures) in
    let size = claims_long H c.in_ok-claims.claims.items entries c.in_ok-claims.ensures in (
      all_answered H entries 0 c.args.joined.now.claim.calls c.in_ok-links.links.items linked,
      ap (λ (n : ℕ). n + 1) (c.len-count.ensures ∙ size),
      c.if-count.true,
    )

pub add_bundle-requires-clause-few : goal.add_bundle-requires-clause-few
add_bundle-requires-clause-few g c =
    let H = g.D.Digester.digest_of in
    let other = c.other-item.result in
    let size = claims_long H c.in_ok-claims.claims.items (placed_entries 1 (bundles_of c.args.others.now)) c.in_ok-claims.ensures in
    let count = c.len-count.ensures in
    let low = c.if-count.false in
    let few : length (placed_entries 1 (bundles_of c.args.others.now)) + 1 ≤ 256 = omega (arith, size, count, low) in
    let room = room_for_next c.args.others.now c.loop-other.other-index other other c.loop-other-test.true c.other-item.is
    (record { links = c.in_ok-links.links.items; seals = c.args.joined.now.seals }) c.loop-other.entries.items 256 c.loop-other.invariant.0 few in
    let same = ap length c.bundle.ensures.value in
    omega (arith, room, same)

pub loop-other-preserved : goal.loop-other-preserved
loop-other-preserved g c =
    let H = g.D.Digester.digest_of in
    let other = c.other-item.result in
    let old = c.loop-other.entries.items in
    let i = c.loop-other.other-index in
    let first : Entry = record { links = c.in_ok-links.links.items; seals = c.args.joined.now.seals } in
    let here = c.loop-other-test.true in (
      c.in_ok-add_bundle.ensures ∙ ap (λ (B : Bundle). old ++ map (raised_entry (length old)) B) c.bundle.ensures.value
          ∙ gathered_more c.args.others.now i other other here c.other-item.is first old c.loop-other.invariant.0,
      all_more c.args.others.now i other other here c.other-item.is (λ B. IsAccepted H B) c.loop-other.invariant.1 c.bundle.ensures.checked.accepted,
      all_more c.args.others.now i other other here c.other-item.is (λ B. KeepsLimits B) c.loop-other.invariant.2 c.bundle.ensures.checked.limits,
    )

pub returns-clause-accepted : goal.returns-clause-accepted
returns-clause-accepted g c =
    let H = g.D.Digester.digest_of in
    let others = bundles_of c.args.others.now in
    let (code, halted) = c.requires.halted in
    let calls : c.as_slice.result.now ≡ c.args.joined.now.claim.calls = c.as_slice.ensures ∙ ap (λ (x : SpanClaim). x.calls) (c.behind-joined.view_is ∙ c.claim.ensures.value) in
    let linked : links_for H (placed_entries 1 others) c.args.joined.now.claim.calls ≡ Some c.in_ok-links.links.items =
    ap (links_for H (placed_entries 1 others)) (sym calls) ∙ c.in_ok-links.ensures.links (placed_entries 1 others) (c.as_slice-2.ensures ∙ c.in_ok-claims.ensures) in
    let whole : c.loop-other.entries.items ≡ entry_zero c.args.joined.now c.in_ok-links.links.items ∷ placed_entries 1 others =
    c.loop-other.invariant.0
    ∙ ap (λ (es : List Entry). entry_zero c.args.joined.now c.in_ok-links.links.items ∷ es) (placed_all c.args.others.now c.loop-other.other-index c.loop-other-test.false) in
    resolved_accepted H g.D.Digester.is_digest c.args.joined.now others c.loop-other.entries.items code c.claim.ensures.chain halted
    (all_of (λ B. IsAccepted H B) c.args.others.now c.loop-other.other-index c.loop-other-test.false c.loop-other.invariant.1)
    (parts_resolved H c.args.joined.now others c.loop-other.entries.items c.in_ok-links.links.items linked whole)

pub returns-clause-limits : goal.returns-clause-limits
returns-clause-limits g c = λ seals some_seals few_seals few_calls.
    let H = g.D.Digester.digest_of in
    let others = bundles_of c.args.others.now in
    let calls : c.as_slice.result.now ≡ c.args.joined.now.claim.calls = c.as_slice.ensures ∙ ap (λ (x : SpanClaim). x.calls) (c.behind-joined.view_is ∙ c.claim.ensures.value) in
    let linked : links_for H (placed_entries 1 others) c.args.joined.now.claim.calls ≡ Some c.in_ok-links.links.items =
    ap (links_for H (placed_entries 1 others)) (sym calls) ∙ c.in_ok-links.ensures.links (placed_entries 1 others) (c.as_slice-2.ensures ∙ c.in_ok-claims.ensures) in
    let whole : c.loop-other.entries.items ≡ entry_zero c.args.joined.now c.in_ok-links.links.items ∷ placed_entries 1 others =
    c.loop-other.invariant.0
    ∙ ap (λ (es : List Entry). entry_zero c.args.joined.now c.in_ok-links.links.items ∷ es) (placed_all c.args.others.now c.loop-other.other-index c.loop-other-test.false) in
    let size = claims_long H c.in_ok-claims.claims.items (placed_entries 1 others) c.in_ok-claims.ensures in
    let count = c.len-count.ensures in
    let low = c.if-count.false in
    let long = ap length whole in
    resolved_keeps H c.args.joined.now others c.loop-other.entries.items seals some_seals few_seals few_calls
    (all_of (λ B. KeepsLimits B) c.args.others.now c.loop-other.other-index c.loop-other-test.false c.loop-other.invariant.2)
    (record { is = parts_resolved H c.args.joined.now others c.loop-other.entries.items c.in_ok-links.links.items linked whole; few = omega (arith, size, count, low, long) })
