use Rattle.std.proofs.Common.{rules, ◌≡◌, ℕ, ◌<◌, List, [], length, get_or, Some, Err, refl, sym, ap, ap₂, ◌∙◌, arith}
use Rattle.std.specs.Prelude.{option_map}
use Rattle.std.proofs.lemmas.Slice.Zip.{AllZip-long}
use Rattle.page_core.specs.Images.{Image}
use Rattle.elf_image.specs.Loaded.{image_of}
use Rattle.claim_types.specs.Claims.{SpanClaim}
use Rattle.claim_types.specs.States.{state_digest, image_id}
use Rattle.receipt_types.specs.Bundles.{Entry, Bundle}
use Rattle.lift_join.specs.Joins.{chain_of}
use Rattle.check_core.specs.Checked.{IsAccepted}
use Rattle.check_core.specs.Entries.{first_at}
use Rattle.check_core.proofs.Linked.{same_digests, other_digests}
use Rattle.audit.specs.Answers.{stop_of_check}
use Rattle.audit.proofs.Compared.{known, first_known, map_bytes}
use Rattle.audit.proofs.Refused.{stopped}
use Rattle.audit.proofs.auditing.first_disagreement.Goals as goal

pub returns-in_err-judged-clause-stop : goal.returns-in_err-judged-clause-stop
returns-in_err-judged-clause-stop g c =
    let stop = c.in_err-judged.field-0.0 in
    let is : c.from_residual.result ≡ Err (stop_of_check stop) = search rules in
    rw is (stopped g.D.Digester.digest_of c.args.bundle.now c.args.entry (image_of c.args.image.now) c.first_id.result stop c.first_id.ensures c.in_err-judged.ensures.stop)

pub returns-then-place-claims-clause-stop : goal.returns-then-place-claims-clause-stop
returns-then-place-claims-clause-stop g c =
    let H = g.D.Digester.digest_of in
    let B : Bundle = c.args.bundle.now in
    let e : ℕ = c.args.entry in
    let image : Image = image_of c.args.image.now in
    let claims : List SpanClaim = c.in_ok-judged.judged.claims.items in
    let accepted : IsAccepted H B = (c.first_id.result, c.in_ok-judged.ensures.accepted) in
    let all : c.as_slice-claims.result.now ≡ claims = c.as_slice-claims.ensures.value in
    let long : length claims ≡ length B = AllZip-long (λ entry claim. chain_of H entry.seals ≡ Some claim) B claims c.in_ok-judged.ensures.claims in
    record {
      accepted = accepted;
      count_is = ap length all ∙ long;
      none = omega (arith, c.from-place.ensures, c.if-place-claims.true);
    }

pub returns-then-ne-clause-stop : goal.returns-then-ne-clause-stop
returns-then-ne-clause-stop g c =
    let H = g.D.Digester.digest_of in
    let B : Bundle = c.args.bundle.now in
    let e : ℕ = c.args.entry in
    let image : Image = image_of c.args.image.now in
    let claims : List SpanClaim = c.in_ok-judged.judged.claims.items in
    let accepted : IsAccepted H B = (c.first_id.result, c.in_ok-judged.ensures.accepted) in
    let all : c.as_slice-claims.result.now ≡ claims = c.as_slice-claims.ensures.value in
    let long : length claims ≡ length B = AllZip-long (λ entry claim. chain_of H entry.seals ≡ Some claim) B claims c.in_ok-judged.ensures.claims in
    let low : e < length B = omega (arith, long, ap length all, c.from-place.ensures, c.if-place-claims.false) in
    let claim : SpanClaim = c.index-claims-place.result in
    let is_claim : claim ≡ get_or claims e claim = c.index-claims-place.is ∙ ap₂ (λ (xs : List SpanClaim) (n : ℕ). get_or xs n claim) all c.from-place.ensures in
    let none : Entry = record { links = []; seals = [] } in
    let k = known H g.D.Digester.is_digest B e (get_or B e none) none claim claim claims c.requires accepted c.in_ok-judged.ensures.claims low refl is_claim in
    let first : first_at H B e ≡ Some claim.before = first_known H g.D.Digester.is_digest B e (get_or B e none) claim claims image k in
    let found : c.state_digest-found.result ≡ state_digest H claim.before = c.state_digest-found.ensures ∙ ap (λ (x : SpanClaim). state_digest H x.before) c.claim.view_is in
    let wanted : c.state_digest-wanted.result ≡ image_id H image = c.state_digest-wanted.ensures ∙ ap (state_digest H) c.first_state.ensures in
    record {
      accepted = accepted;
      wanted_is = wanted;
      found_is = ap (option_map (state_digest H)) first ∙ ap Some (sym found);
      other = other_digests c.state_digest-wanted.result c.state_digest-found.result c.ne.result c.ne.ensures c.if-ne.true;
    }

pub compare_entry-requires-clause-some : goal.compare_entry-requires-clause-some
compare_entry-requires-clause-some g c κs within =
    let H = g.D.Digester.digest_of in
    let B : Bundle = c.args.bundle.now in
    let e : ℕ = c.args.entry in
    let image : Image = image_of c.args.image.now in
    let claims : List SpanClaim = c.in_ok-judged.judged.claims.items in
    let accepted : IsAccepted H B = (c.first_id.result, c.in_ok-judged.ensures.accepted) in
    let all : c.as_slice-claims.result.now ≡ claims = c.as_slice-claims.ensures.value in
    let long : length claims ≡ length B = AllZip-long (λ entry claim. chain_of H entry.seals ≡ Some claim) B claims c.in_ok-judged.ensures.claims in
    let low : e < length B = omega (arith, long, ap length all, c.from-place.ensures, c.if-place-claims.false) in
    low

pub returns-clause-auditable : goal.returns-clause-auditable
returns-clause-auditable g c =
    let H = g.D.Digester.digest_of in
    let B : Bundle = c.args.bundle.now in
    let e : ℕ = c.args.entry in
    let image : Image = image_of c.args.image.now in
    let claims : List SpanClaim = c.in_ok-judged.judged.claims.items in
    let accepted : IsAccepted H B = (c.first_id.result, c.in_ok-judged.ensures.accepted) in
    let all : c.as_slice-claims.result.now ≡ claims = c.as_slice-claims.ensures.value in
    let long : length claims ≡ length B = AllZip-long (λ entry claim. chain_of H entry.seals ≡ Some claim) B claims c.in_ok-judged.ensures.claims in
    let low : e < length B = omega (arith, long, ap length all, c.from-place.ensures, c.if-place-claims.false) in
    let claim : SpanClaim = c.index-claims-place.result in
    let is_claim : claim ≡ get_or claims e claim = c.index-claims-place.is ∙ ap₂ (λ (xs : List SpanClaim) (n : ℕ). get_or xs n claim) all c.from-place.ensures in
    let none : Entry = record { links = []; seals = [] } in
    let k = known H g.D.Digester.is_digest B e (get_or B e none) none claim claim claims c.requires accepted c.in_ok-judged.ensures.claims low refl is_claim in
    let first : first_at H B e ≡ Some claim.before = first_known H g.D.Digester.is_digest B e (get_or B e none) claim claims image k in
    let found : c.state_digest-found.result ≡ state_digest H claim.before = c.state_digest-found.ensures ∙ ap (λ (x : SpanClaim). state_digest H x.before) c.claim.view_is in
    let wanted : c.state_digest-wanted.result ≡ image_id H image = c.state_digest-wanted.ensures ∙ ap (state_digest H) c.first_state.ensures in
    record {
      accepted = accepted;
      first = claim.before;
      is_first = first;
      same_id = sym found ∙ sym (same_digests c.state_digest-wanted.result c.state_digest-found.result c.ne.result c.ne.ensures c.if-ne.false) ∙ wanted;
    }

pub returns-clause-image : goal.returns-clause-image
returns-clause-image g c = record {
  aligned = c.args.image.now.aligned;
  below = c.args.image.now.below;
  bytes = map_bytes c.args.image.now.map c.in_ok-tree.ensures.numbers;
  rest = c.args.image.now.rest;
}
