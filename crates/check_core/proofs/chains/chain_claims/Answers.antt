use Rattle.std.proofs.Common.{rules, ◌≡◌, ◌∙◌, ◌+◌, ◌<◌, ◌++◌, ℕ, List, [], ◌∷◌, length, get_or, sym, ap, subst, arith}
use Rattle.claim_types.specs.Claims.{SpanClaim}
use Rattle.receipt_codec.proofs.Written.{entry_limits}
use Rattle.check_core.proofs.Claims.{HasClaims, entry_claimed}
use Rattle.check_core.proofs.chains.chain_claims.Goals as goal

pub chain_claim-requires-clause-some : goal.chain_claim-requires-clause-some
chain_claim-requires-clause-some g c κs within e =
    let entry = c.entry-item.result in
    let (at, limits) = entry_limits c.args.bundle.now c.as_slice-entry-items.result.now c.loop-entry.entry-index entry c.requires (c.as_slice-entry-items.ensures ∙ c.bundle.view_is) c.loop-entry-test.true c.entry-item.is in
    let none : length entry.seals ≡ 0 = ap length e in
    omega (arith, none, limits.some_seals)

pub chain_claim-requires-clause-few : goal.chain_claim-requires-clause-few
chain_claim-requires-clause-few g c κs within =
    let (at, limits) = entry_limits c.args.bundle.now c.as_slice-entry-items.result.now c.loop-entry.entry-index c.entry-item.result c.requires (c.as_slice-entry-items.ensures ∙ c.bundle.view_is) c.loop-entry-test.true c.entry-item.is in
    limits.few_seals

pub chain_claim-requires-clause-limits : goal.chain_claim-requires-clause-limits
chain_claim-requires-clause-limits g c κs within =
    let (at, limits) = entry_limits c.args.bundle.now c.as_slice-entry-items.result.now c.loop-entry.entry-index c.entry-item.result c.requires (c.as_slice-entry-items.ensures ∙ c.bundle.view_is) c.loop-entry-test.true c.entry-item.is in
    limits.seals

pub loop-entry-preserved : goal.loop-entry-preserved
loop-entry-preserved g c =
    let H = g.D.Digester.digest_of in
    let items = c.as_slice-entry-items.result.now in
    let entry = c.entry-item.result in
    let (same, so_far) = c.loop-entry.invariant in
    let low : c.loop-entry.number < length items = omega (arith, same, c.loop-entry-test.true) in
    let here : entry ≡ get_or items c.loop-entry.number entry = c.entry-item.is ∙ ap (λ (n : ℕ). get_or items n entry) (sym same) in
    let pushed : c.push.new.self.items ≡ c.loop-entry.claims.items ++ c.in_ok-claim.claim ∷ [] = search rules in (
      ap (λ (n : ℕ). n + 1) same,
      subst (λ (claims : List SpanClaim). HasClaims H items (c.loop-entry.number + 1) claims) (sym pushed)
          (entry_claimed H items c.loop-entry.number c.loop-entry.claims.items so_far entry entry low here c.in_ok-claim.claim c.in_ok-claim.ensures.unstopped c.in_ok-claim.ensures.chain),
    )
