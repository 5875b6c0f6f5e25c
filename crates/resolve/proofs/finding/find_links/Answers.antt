use Rattle.std.proofs.Common.{rules, ◌≡◌, ℕ, ◌+◌, List, [], ◌∷◌, ◌++◌, Some, sym, ap, subst, ◌∙◌, arith}
use Rattle.byte_cursor.specs.Growing.{Growing}
use Rattle.resolve.proofs.Places.{place_low}
use Rattle.resolve.proofs.Links.{LinksSoFar, none_linked, call_missed, call_linked}
use Rattle.resolve.proofs.finding.find_links.Goals as goal

pub loop-call-init : goal.loop-call-init
loop-call-init g c =
    let none : c.new-links.result.items ≡ [] = ap (λ (l : Growing ℕ). l.items) c.new-links.ensures in
    subst (λ (links : List ℕ). LinksSoFar g.D.Digester.digest_of c.args.claims.now c.args.calls.now 0 links) (sym none) (none_linked g.D.Digester.digest_of c.args.claims.now c.args.calls.now)

pub returns-in_default-clause-stop : goal.returns-in_default-clause-stop
returns-in_default-clause-stop g c entries same =
    let H = g.D.Digester.digest_of in
    let call = c.call-item.result in
    call_missed H c.args.claims.now c.args.calls.now c.loop-call.call-index c.loop-call.links.items c.loop-call.invariant call call c.ok_claim_digest-wanted.result c.place_of.result
    c.loop-call-test.true c.call-item.is c.ok_claim_digest-wanted.ensures c.place_of.ensures c.in_default.is entries same
    ∙ ap Some (sym (c.len.ensures ∙ c.loop-call.invariant.count))

pub overflow_add-place : goal.overflow_add-place
overflow_add-place g c =
    let below = place_low c.ok_claim_digest-wanted.result 0 c.args.claims.now c.in-Some.place (sym c.place_of.ensures ∙ c.in-Some.is) in
    let fits = c.well_formed.1.1.0.0 in
    omega (arith, below, fits)

pub loop-call-preserved : goal.loop-call-preserved
loop-call-preserved g c =
    let H = g.D.Digester.digest_of in
    let call = c.call-item.result in
    let pushed : c.push.new.self.items ≡ c.loop-call.links.items ++ (c.in-Some.place + 1) ∷ [] = search rules in
    subst (λ (links : List ℕ). LinksSoFar H c.args.claims.now c.args.calls.now (c.loop-call.call-index + 1) links) (sym pushed)
    (call_linked H c.args.claims.now c.args.calls.now c.loop-call.call-index c.loop-call.links.items c.loop-call.invariant call call c.ok_claim_digest-wanted.result c.place_of.result
    c.loop-call-test.true c.call-item.is c.ok_claim_digest-wanted.ensures c.place_of.ensures c.in-Some.place c.in-Some.is)
