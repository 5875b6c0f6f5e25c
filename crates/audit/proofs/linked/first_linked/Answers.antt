use Rattle.std.proofs.Common.{rules, ◌≡◌, ◌+◌, ◌<◌, ◌∙◌, ℕ, Some, length, get_or, sym, ap, subst, arith}
use Rattle.std.specs.Prelude.{option_map}
use Rattle.std.proofs.lemmas.List.{length_push}
use Rattle.std.proofs.lemmas.Slice.Zip.{zip_turn}
use Rattle.std.specs.Slice.Iter.{iter_rest}
use Rattle.std.specs.Iterator.Adapters.{zip_first, zip_second}
use Rattle.host_calls.specs.declared.call.AssumeCall.{AssumeCall}
use Rattle.claim_types.specs.Claims.{SpanClaim}
use Rattle.check_core.specs.Entries.{claim_in}
use Rattle.check_core.proofs.Linked.{item_is}
use Rattle.audit.specs.declared.disagreement.Disagreement.{Disagreement}
use Rattle.audit.proofs.Calls.{pair_linked, pair_same, place_linked, place_same}
use Rattle.audit.proofs.linked.first_linked.Goals as goal

pub returns-in-Some-2-clause-pair : goal.returns-in-Some-2-clause-pair
returns-in-Some-2-clause-pair g c B tell =
    let calls = c.args.calls.now in
    let links = c.args.links.now in
    let first : iter_rest (zip_first c.into_iter-call-iterator.result) ≡ calls = search rules in
    let second : iter_rest (zip_second c.into_iter-call-iterator.result) ≡ links = search rules in
    let (low, low_link, is, is_link) =
    zip_turn calls links c.loop-call.yielded c.into_iter-call-iterator.result c.loop-call.call-iterator c.next.new.self c.next.result first second c.loop-call.yielded_by
    (c.in-Some.call, c.in-Some.link) c.in-Some.is c.next.ensures.steps in
    let k : ℕ = c.loop-call.number in
    let (same, so_far) = c.loop-call.invariant in
    let at : k < length calls = omega (arith, same, low) in
    let at_link : k < length links = omega (arith, same, low_link) in
    let call : AssumeCall = c.in-Some.call.now in
    let link : ℕ = c.in-Some.link.now in
    let here : call ≡ get_or calls k call = is call ∙ ap (λ (n : ℕ). get_or calls n call) (sym same) in
    let link_here : link ≡ get_or links k link = is_link link ∙ ap (λ (n : ℕ). get_or links n link) (sym same) in
    let H = g.D.Digester.digest_of in
    let claims = c.args.claims.now in
    let inside : link < length claims = subst (λ (n : ℕ). n < length claims) (sym link_here) (c.requires.links k link at_link) in
    let claim : SpanClaim = c.index-claims-from.result in
    let is_claim : claim ≡ get_or claims link claim = c.index-claims-from.is ∙ ap (λ (n : ℕ). get_or claims n claim) c.from.ensures in
    let claimed : claim_in H B link ≡ Some claim = tell link ∙ item_is claims link claim inside ∙ ap Some (sym is_claim) in
    sym ((so_far B tell).0
    ∙ pair_linked H B k calls links call call link link claim at at_link here link_here claimed c.in-Some-2.found.pair
    (sym c.in_ok-found.ensures.pair ∙ ap (option_map (λ (f : Disagreement). f.pair)) c.in-Some-2.is))

pub returns-in-Some-2-clause-place : goal.returns-in-Some-2-clause-place
returns-in-Some-2-clause-place g c B tell =
    let calls = c.args.calls.now in
    let links = c.args.links.now in
    let first : iter_rest (zip_first c.into_iter-call-iterator.result) ≡ calls = search rules in
    let second : iter_rest (zip_second c.into_iter-call-iterator.result) ≡ links = search rules in
    let (low, low_link, is, is_link) =
    zip_turn calls links c.loop-call.yielded c.into_iter-call-iterator.result c.loop-call.call-iterator c.next.new.self c.next.result first second c.loop-call.yielded_by
    (c.in-Some.call, c.in-Some.link) c.in-Some.is c.next.ensures.steps in
    let k : ℕ = c.loop-call.number in
    let (same, so_far) = c.loop-call.invariant in
    let at : k < length calls = omega (arith, same, low) in
    let at_link : k < length links = omega (arith, same, low_link) in
    let call : AssumeCall = c.in-Some.call.now in
    let link : ℕ = c.in-Some.link.now in
    let here : call ≡ get_or calls k call = is call ∙ ap (λ (n : ℕ). get_or calls n call) (sym same) in
    let link_here : link ≡ get_or links k link = is_link link ∙ ap (λ (n : ℕ). get_or links n link) (sym same) in
    let H = g.D.Digester.digest_of in
    let claims = c.args.claims.now in
    let inside : link < length claims = subst (λ (n : ℕ). n < length claims) (sym link_here) (c.requires.links k link at_link) in
    let claim : SpanClaim = c.index-claims-from.result in
    let is_claim : claim ≡ get_or claims link claim = c.index-claims-from.is ∙ ap (λ (n : ℕ). get_or claims n claim) c.from.ensures in
    let claimed : claim_in H B link ≡ Some claim = tell link ∙ item_is claims link claim inside ∙ ap Some (sym is_claim) in
    sym ((so_far B tell).1
    ∙ place_linked H B k calls links call call link link claim at at_link here link_here claimed c.in-Some-2.found.place
    (sym c.in_ok-found.ensures.place ∙ ap (option_map (λ (f : Disagreement). f.place)) c.in-Some-2.is))

pub loop-call-preserved : goal.loop-call-preserved
loop-call-preserved g c =
    let calls = c.args.calls.now in
    let links = c.args.links.now in
    let first : iter_rest (zip_first c.into_iter-call-iterator.result) ≡ calls = search rules in
    let second : iter_rest (zip_second c.into_iter-call-iterator.result) ≡ links = search rules in
    let (low, low_link, is, is_link) =
    zip_turn calls links c.loop-call.yielded c.into_iter-call-iterator.result c.loop-call.call-iterator c.next.new.self c.next.result first second c.loop-call.yielded_by
    (c.in-Some.call, c.in-Some.link) c.in-Some.is c.next.ensures.steps in
    let k : ℕ = c.loop-call.number in
    let (same, so_far) = c.loop-call.invariant in
    let at : k < length calls = omega (arith, same, low) in
    let at_link : k < length links = omega (arith, same, low_link) in
    let call : AssumeCall = c.in-Some.call.now in
    let link : ℕ = c.in-Some.link.now in
    let here : call ≡ get_or calls k call = is call ∙ ap (λ (n : ℕ). get_or calls n call) (sym same) in
    let link_here : link ≡ get_or links k link = is_link link ∙ ap (λ (n : ℕ). get_or links n link) (sym same) in
    let H = g.D.Digester.digest_of in
    let claims = c.args.claims.now in
    let inside : link < length claims = subst (λ (n : ℕ). n < length claims) (sym link_here) (c.requires.links k link at_link) in
    let claim : SpanClaim = c.index-claims-from.result in
    let is_claim : claim ≡ get_or claims link claim = c.index-claims-from.is ∙ ap (λ (n : ℕ). get_or claims n claim) c.from.ensures in (
      ap (λ (n : ℕ). n + 1) same ∙ sym (length_push c.loop-call.yielded (c.in-Some.call, c.in-Some.link)),
      λ B tell.
          let claimed : claim_in H B link ≡ Some claim = tell link ∙ item_is claims link claim inside ∙ ap Some (sym is_claim) in (
            (so_far B tell).0
                ∙ pair_same H B k calls links call call link link claim at at_link here link_here claimed
                (sym c.in_ok-found.ensures.pair ∙ ap (option_map (λ (f : Disagreement). f.pair)) c.in_default.is),
            (so_far B tell).1
                ∙ place_same H B k calls links call call link link claim at at_link here link_here claimed
                (sym c.in_ok-found.ensures.place ∙ ap (option_map (λ (f : Disagreement). f.place)) c.in_default.is),
          ),
    )
