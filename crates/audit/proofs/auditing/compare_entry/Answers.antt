use Rattle.std.proofs.Common.{◌≡◌, ℕ, ◌≤◌, ◌<◌, List, false, length, get_or, map, Option, Some, None, sym, ap, ap₂, ◌∙◌, subst, arith}
use Rattle.std.specs.Arc.{arc_value}
use Rattle.std.specs.Option.{option_or}
use Rattle.std.specs.Prelude.{All, is_some, option_map}
use Rattle.std.proofs.lemmas.Slice.Zip.{AllZip-long}
use Rattle.page_core.specs.Images.{Image, IsImage}
use Rattle.part_tree.specs.Splits.{Pair, differ}
use Rattle.rv_step.specs.Runs.{start}
use Rattle.elf_image.specs.Loaded.{image_of}
use Rattle.claim_types.specs.Claims.{SpanClaim}
use Rattle.claim_types.specs.States.{state_string, image_state, image_string}
use Rattle.receipt_types.specs.Bundles.{Entry, Bundle}
use Rattle.receipt_types.specs.Limits.{AllSealLimits}
use Rattle.receipt_types.specs.Seals.{Seal, words_of}
use Rattle.lift_join.specs.Joins.{chain_of}
use Rattle.check_core.specs.Auditing.{seals_pair, calls_pair, audit_pair}
use Rattle.check_core.specs.Entries.{first_of}
use Rattle.check_core.specs.Judgement.{ChainHalts}
use Rattle.audit.specs.declared.disagreement.Disagreement.{Disagreement}
use Rattle.audit.specs.declared.disagreement.Place.{Place}
use Rattle.audit.specs.declared.disagreement.Place.TheVariants.{State}
use Rattle.audit.specs.Places.{place_if, seals_place, calls_place, place_in}
use Rattle.audit.specs.Walking.{TellClaims}
use Rattle.audit.proofs.Calls.{tell_claims}
use Rattle.audit.proofs.Compared.{known, whole_pair, whole_place, begins, map_bytes}
use Rattle.audit.proofs.Earlier.{found_first, found_none, if_ok}
use Rattle.audit.proofs.Steps.{within_long}
use Rattle.audit.proofs.auditing.compare_entry.Goals as goal

pub bounds-claims-from : goal.bounds-claims-from
bounds-claims-from g c =
    let long = AllZip-long (λ entry claim. chain_of g.D.Digester.digest_of entry.seals ≡ Some claim) c.args.bundle.now c.args.claims.now c.requires.claims in
    omega (arith, long, c.from-2.ensures, c.requires.some)

pub returns-then-is_some-clause-pair : goal.returns-then-is_some-clause-pair
returns-then-is_some-clause-pair g c =
    let H = g.D.Digester.digest_of in
    let is_digest = g.D.Digester.is_digest in
    let B : Bundle = c.args.bundle.now in
    let e : ℕ = c.args.entry in
    let image : Image = image_of c.args.image.now in
    let claims : List SpanClaim = c.args.claims.now in
    let entry : Entry = c.index-as_slice-from.result in
    let claim : SpanClaim = c.index-claims-from.result in
    let is_entry : entry ≡ get_or B e entry = c.index-as_slice-from.is ∙ ap₂ (λ (xs : List Entry) (n : ℕ). get_or xs n entry) (c.as_slice.ensures ∙ c.bundle.view_is) c.from.ensures in
    let is_claim : claim ≡ get_or claims e claim = c.index-claims-from.is ∙ ap (λ (n : ℕ). get_or claims n claim) c.from-2.ensures in
    let k = known H is_digest B e entry entry claim claim claims c.requires.limits c.requires.accepted c.requires.claims c.requires.some is_entry is_claim in
    let strings : differ c.in_ok-left.left.items c.in_ok-right.right.items ≡ differ (state_string H claim.before) (image_string H image) =
    ap₂ differ (c.in_ok-left.ensures ∙ ap (λ (x : SpanClaim). state_string H x.before) c.claim.view_is) (c.in_ok-right.ensures ∙ ap (state_string H) c.first_state.ensures) in
    let pair = c.compare-found.ensures.pair ∙ strings in
    let place = c.compare-found.ensures.place ∙ ap (place_if State) strings in
    found_first (λ (f : Disagreement). f.pair) c.compare-found.result (differ (state_string H claim.before) (image_string H image)) (option_or (seals_pair H (Some (start image (words_of entry.seals))) entry.seals) (calls_pair H B claim.calls entry.links)) pair (sym c.is_some.ensures ∙ c.if-is_some.true)
    ∙ sym (whole_pair H is_digest B e entry claim claims image k)

pub returns-then-is_some-clause-place : goal.returns-then-is_some-clause-place
returns-then-is_some-clause-place g c =
    let H = g.D.Digester.digest_of in
    let is_digest = g.D.Digester.is_digest in
    let B : Bundle = c.args.bundle.now in
    let e : ℕ = c.args.entry in
    let image : Image = image_of c.args.image.now in
    let claims : List SpanClaim = c.args.claims.now in
    let entry : Entry = c.index-as_slice-from.result in
    let claim : SpanClaim = c.index-claims-from.result in
    let is_entry : entry ≡ get_or B e entry = c.index-as_slice-from.is ∙ ap₂ (λ (xs : List Entry) (n : ℕ). get_or xs n entry) (c.as_slice.ensures ∙ c.bundle.view_is) c.from.ensures in
    let is_claim : claim ≡ get_or claims e claim = c.index-claims-from.is ∙ ap (λ (n : ℕ). get_or claims n claim) c.from-2.ensures in
    let k = known H is_digest B e entry entry claim claim claims c.requires.limits c.requires.accepted c.requires.claims c.requires.some is_entry is_claim in
    let strings : differ c.in_ok-left.left.items c.in_ok-right.right.items ≡ differ (state_string H claim.before) (image_string H image) =
    ap₂ differ (c.in_ok-left.ensures ∙ ap (λ (x : SpanClaim). state_string H x.before) c.claim.view_is) (c.in_ok-right.ensures ∙ ap (state_string H) c.first_state.ensures) in
    let pair = c.compare-found.ensures.pair ∙ strings in
    let place = c.compare-found.ensures.place ∙ ap (place_if State) strings in
    found_first (λ (f : Disagreement). f.place) c.compare-found.result (place_if State (differ (state_string H claim.before) (image_string H image))) (option_or (seals_place H 0 (Some (start image (words_of entry.seals))) entry.seals) (calls_place H B 0 claim.calls entry.links)) place (sym c.is_some.ensures ∙ c.if-is_some.true)
    ∙ sym (whole_place H is_digest B e entry claim claims image k)

pub first_split_seal-requires-clause-few : goal.first_split_seal-requires-clause-few
first_split_seal-requires-clause-few g c κs within =
    let H = g.D.Digester.digest_of in
    let is_digest = g.D.Digester.is_digest in
    let B : Bundle = c.args.bundle.now in
    let e : ℕ = c.args.entry in
    let image : Image = image_of c.args.image.now in
    let claims : List SpanClaim = c.args.claims.now in
    let entry : Entry = c.index-as_slice-from.result in
    let claim : SpanClaim = c.index-claims-from.result in
    let is_entry : entry ≡ get_or B e entry = c.index-as_slice-from.is ∙ ap₂ (λ (xs : List Entry) (n : ℕ). get_or xs n entry) (c.as_slice.ensures ∙ c.bundle.view_is) c.from.ensures in
    let is_claim : claim ≡ get_or claims e claim = c.index-claims-from.is ∙ ap (λ (n : ℕ). get_or claims n claim) c.from-2.ensures in
    let k = known H is_digest B e entry entry claim claim claims c.requires.limits c.requires.accepted c.requires.claims c.requires.some is_entry is_claim in
    let seals : map (λ seal. arc_value seal) c.as_slice-2.result.now ≡ entry.seals =
    ap (map (λ seal. arc_value seal)) c.as_slice-2.ensures ∙ ap (λ (x : Entry). x.seals) c.asked.view_is in
    within_long (λ seal. arc_value seal) c.as_slice-2.result.now 65535 (subst (λ (xs : List Seal). length xs ≤ 65535) (sym seals) k.limits.few_seals)

pub first_split_seal-requires-clause-limits : goal.first_split_seal-requires-clause-limits
first_split_seal-requires-clause-limits g c κs within =
    let H = g.D.Digester.digest_of in
    let is_digest = g.D.Digester.is_digest in
    let B : Bundle = c.args.bundle.now in
    let e : ℕ = c.args.entry in
    let image : Image = image_of c.args.image.now in
    let claims : List SpanClaim = c.args.claims.now in
    let entry : Entry = c.index-as_slice-from.result in
    let claim : SpanClaim = c.index-claims-from.result in
    let is_entry : entry ≡ get_or B e entry = c.index-as_slice-from.is ∙ ap₂ (λ (xs : List Entry) (n : ℕ). get_or xs n entry) (c.as_slice.ensures ∙ c.bundle.view_is) c.from.ensures in
    let is_claim : claim ≡ get_or claims e claim = c.index-claims-from.is ∙ ap (λ (n : ℕ). get_or claims n claim) c.from-2.ensures in
    let k = known H is_digest B e entry entry claim claim claims c.requires.limits c.requires.accepted c.requires.claims c.requires.some is_entry is_claim in
    let seals : map (λ seal. arc_value seal) c.as_slice-2.result.now ≡ entry.seals =
    ap (map (λ seal. arc_value seal)) c.as_slice-2.ensures ∙ ap (λ (x : Entry). x.seals) c.asked.view_is in
    subst AllSealLimits (sym seals) k.limits.seals

pub first_split_seal-requires-clause-halts : goal.first_split_seal-requires-clause-halts
first_split_seal-requires-clause-halts g c κs within =
    let H = g.D.Digester.digest_of in
    let is_digest = g.D.Digester.is_digest in
    let B : Bundle = c.args.bundle.now in
    let e : ℕ = c.args.entry in
    let image : Image = image_of c.args.image.now in
    let claims : List SpanClaim = c.args.claims.now in
    let entry : Entry = c.index-as_slice-from.result in
    let claim : SpanClaim = c.index-claims-from.result in
    let is_entry : entry ≡ get_or B e entry = c.index-as_slice-from.is ∙ ap₂ (λ (xs : List Entry) (n : ℕ). get_or xs n entry) (c.as_slice.ensures ∙ c.bundle.view_is) c.from.ensures in
    let is_claim : claim ≡ get_or claims e claim = c.index-claims-from.is ∙ ap (λ (n : ℕ). get_or claims n claim) c.from-2.ensures in
    let k = known H is_digest B e entry entry claim claim claims c.requires.limits c.requires.accepted c.requires.claims c.requires.some is_entry is_claim in
    let seals : map (λ seal. arc_value seal) c.as_slice-2.result.now ≡ entry.seals =
    ap (map (λ seal. arc_value seal)) c.as_slice-2.ensures ∙ ap (λ (x : Entry). x.seals) c.asked.view_is in
    subst (ChainHalts H) (sym seals) k.halts

pub first_split_seal-requires-clause-first : goal.first_split_seal-requires-clause-first
first_split_seal-requires-clause-first g c κs within =
    let H = g.D.Digester.digest_of in
    let is_digest = g.D.Digester.is_digest in
    let B : Bundle = c.args.bundle.now in
    let e : ℕ = c.args.entry in
    let image : Image = image_of c.args.image.now in
    let claims : List SpanClaim = c.args.claims.now in
    let entry : Entry = c.index-as_slice-from.result in
    let claim : SpanClaim = c.index-claims-from.result in
    let is_entry : entry ≡ get_or B e entry = c.index-as_slice-from.is ∙ ap₂ (λ (xs : List Entry) (n : ℕ). get_or xs n entry) (c.as_slice.ensures ∙ c.bundle.view_is) c.from.ensures in
    let is_claim : claim ≡ get_or claims e claim = c.index-claims-from.is ∙ ap (λ (n : ℕ). get_or claims n claim) c.from-2.ensures in
    let k = known H is_digest B e entry entry claim claim claims c.requires.limits c.requires.accepted c.requires.claims c.requires.some is_entry is_claim in
    let strings : differ c.in_ok-left.left.items c.in_ok-right.right.items ≡ differ (state_string H claim.before) (image_string H image) =
    ap₂ differ (c.in_ok-left.ensures ∙ ap (λ (x : SpanClaim). state_string H x.before) c.claim.view_is) (c.in_ok-right.ensures ∙ ap (state_string H) c.first_state.ensures) in
    let pair = c.compare-found.ensures.pair ∙ strings in
    let place = c.compare-found.ensures.place ∙ ap (place_if State) strings in
    let none : is_some c.compare-found.result ≡ false = sym c.is_some.ensures ∙ c.if-is_some.false in
    let no_pair : differ (state_string H claim.before) (image_string H image) ≡ None =
    found_none (λ (f : Disagreement). f.pair) c.compare-found.result (differ (state_string H claim.before) (image_string H image)) pair none in
    let seals : map (λ seal. arc_value seal) c.as_slice-2.result.now ≡ entry.seals =
    ap (map (λ seal. arc_value seal)) c.as_slice-2.ensures ∙ ap (λ (x : Entry). x.seals) c.asked.view_is in
    let is_image : IsImage image = record {
      aligned = c.args.image.now.aligned;
      below = c.args.image.now.below;
      bytes = map_bytes c.args.image.now.map c.requires.stored;
      rest = c.args.image.now.rest;
    } in
    subst (λ (xs : List Seal). first_of H xs ≡ Some (image_state H image)) (sym seals) (begins H is_digest B e entry claim claims image k c.requires.limits is_image no_pair)

pub returns-then-is_some-2-clause-pair : goal.returns-then-is_some-2-clause-pair
returns-then-is_some-2-clause-pair g c =
    let H = g.D.Digester.digest_of in
    let is_digest = g.D.Digester.is_digest in
    let B : Bundle = c.args.bundle.now in
    let e : ℕ = c.args.entry in
    let image : Image = image_of c.args.image.now in
    let claims : List SpanClaim = c.args.claims.now in
    let entry : Entry = c.index-as_slice-from.result in
    let claim : SpanClaim = c.index-claims-from.result in
    let is_entry : entry ≡ get_or B e entry = c.index-as_slice-from.is ∙ ap₂ (λ (xs : List Entry) (n : ℕ). get_or xs n entry) (c.as_slice.ensures ∙ c.bundle.view_is) c.from.ensures in
    let is_claim : claim ≡ get_or claims e claim = c.index-claims-from.is ∙ ap (λ (n : ℕ). get_or claims n claim) c.from-2.ensures in
    let k = known H is_digest B e entry entry claim claim claims c.requires.limits c.requires.accepted c.requires.claims c.requires.some is_entry is_claim in
    let strings : differ c.in_ok-left.left.items c.in_ok-right.right.items ≡ differ (state_string H claim.before) (image_string H image) =
    ap₂ differ (c.in_ok-left.ensures ∙ ap (λ (x : SpanClaim). state_string H x.before) c.claim.view_is) (c.in_ok-right.ensures ∙ ap (state_string H) c.first_state.ensures) in
    let pair = c.compare-found.ensures.pair ∙ strings in
    let place = c.compare-found.ensures.place ∙ ap (place_if State) strings in
    let none : is_some c.compare-found.result ≡ false = sym c.is_some.ensures ∙ c.if-is_some.false in
    let no_pair : differ (state_string H claim.before) (image_string H image) ≡ None =
    found_none (λ (f : Disagreement). f.pair) c.compare-found.result (differ (state_string H claim.before) (image_string H image)) pair none in
    let seals : map (λ seal. arc_value seal) c.as_slice-2.result.now ≡ entry.seals =
    ap (map (λ seal. arc_value seal)) c.as_slice-2.ensures ∙ ap (λ (x : Entry). x.seals) c.asked.view_is in
    let seals_found = c.in_ok-found.ensures.pair ∙ ap (λ (xs : List Seal). seals_pair H (Some (start image (words_of xs))) xs) seals in
    let seals_place_found = c.in_ok-found.ensures.place ∙ ap (λ (xs : List Seal). seals_place H 0 (Some (start image (words_of xs))) xs) seals in
    found_first (λ (f : Disagreement). f.pair) c.in_ok-found.found (seals_pair H (Some (start image (words_of entry.seals))) entry.seals) (calls_pair H B claim.calls entry.links) seals_found (sym c.is_some-2.ensures ∙ c.if-is_some-2.true)
    ∙ sym (whole_pair H is_digest B e entry claim claims image k ∙ ap (λ (o : Option Pair). option_or o (option_or (seals_pair H (Some (start image (words_of entry.seals))) entry.seals) (calls_pair H B claim.calls entry.links))) no_pair)

pub returns-then-is_some-2-clause-place : goal.returns-then-is_some-2-clause-place
returns-then-is_some-2-clause-place g c =
    let H = g.D.Digester.digest_of in
    let is_digest = g.D.Digester.is_digest in
    let B : Bundle = c.args.bundle.now in
    let e : ℕ = c.args.entry in
    let image : Image = image_of c.args.image.now in
    let claims : List SpanClaim = c.args.claims.now in
    let entry : Entry = c.index-as_slice-from.result in
    let claim : SpanClaim = c.index-claims-from.result in
    let is_entry : entry ≡ get_or B e entry = c.index-as_slice-from.is ∙ ap₂ (λ (xs : List Entry) (n : ℕ). get_or xs n entry) (c.as_slice.ensures ∙ c.bundle.view_is) c.from.ensures in
    let is_claim : claim ≡ get_or claims e claim = c.index-claims-from.is ∙ ap (λ (n : ℕ). get_or claims n claim) c.from-2.ensures in
    let k = known H is_digest B e entry entry claim claim claims c.requires.limits c.requires.accepted c.requires.claims c.requires.some is_entry is_claim in
    let strings : differ c.in_ok-left.left.items c.in_ok-right.right.items ≡ differ (state_string H claim.before) (image_string H image) =
    ap₂ differ (c.in_ok-left.ensures ∙ ap (λ (x : SpanClaim). state_string H x.before) c.claim.view_is) (c.in_ok-right.ensures ∙ ap (state_string H) c.first_state.ensures) in
    let pair = c.compare-found.ensures.pair ∙ strings in
    let place = c.compare-found.ensures.place ∙ ap (place_if State) strings in
    let none : is_some c.compare-found.result ≡ false = sym c.is_some.ensures ∙ c.if-is_some.false in
    let no_pair : differ (state_string H claim.before) (image_string H image) ≡ None =
    found_none (λ (f : Disagreement). f.pair) c.compare-found.result (differ (state_string H claim.before) (image_string H image)) pair none in
    let no_place : place_if State (differ (state_string H claim.before) (image_string H image)) ≡ None = ap (place_if State) no_pair in
    let seals : map (λ seal. arc_value seal) c.as_slice-2.result.now ≡ entry.seals =
    ap (map (λ seal. arc_value seal)) c.as_slice-2.ensures ∙ ap (λ (x : Entry). x.seals) c.asked.view_is in
    let seals_found = c.in_ok-found.ensures.pair ∙ ap (λ (xs : List Seal). seals_pair H (Some (start image (words_of xs))) xs) seals in
    let seals_place_found = c.in_ok-found.ensures.place ∙ ap (λ (xs : List Seal). seals_place H 0 (Some (start image (words_of xs))) xs) seals in
    found_first (λ (f : Disagreement). f.place) c.in_ok-found.found (seals_place H 0 (Some (start image (words_of entry.seals))) entry.seals) (calls_place H B 0 claim.calls entry.links) seals_place_found (sym c.is_some-2.ensures ∙ c.if-is_some-2.true)
    ∙ sym (whole_place H is_digest B e entry claim claims image k ∙ ap (λ (o : Option Place). option_or o (option_or (seals_place H 0 (Some (start image (words_of entry.seals))) entry.seals) (calls_place H B 0 claim.calls entry.links))) no_place)

pub first_linked-requires-clause-same : goal.first_linked-requires-clause-same
first_linked-requires-clause-same g c κs within =
    let H = g.D.Digester.digest_of in
    let is_digest = g.D.Digester.is_digest in
    let B : Bundle = c.args.bundle.now in
    let e : ℕ = c.args.entry in
    let image : Image = image_of c.args.image.now in
    let claims : List SpanClaim = c.args.claims.now in
    let entry : Entry = c.index-as_slice-from.result in
    let claim : SpanClaim = c.index-claims-from.result in
    let is_entry : entry ≡ get_or B e entry = c.index-as_slice-from.is ∙ ap₂ (λ (xs : List Entry) (n : ℕ). get_or xs n entry) (c.as_slice.ensures ∙ c.bundle.view_is) c.from.ensures in
    let is_claim : claim ≡ get_or claims e claim = c.index-claims-from.is ∙ ap (λ (n : ℕ). get_or claims n claim) c.from-2.ensures in
    let k = known H is_digest B e entry entry claim claim claims c.requires.limits c.requires.accepted c.requires.claims c.requires.some is_entry is_claim in
    let calls : c.as_slice-3.result.now ≡ claim.calls = c.as_slice-3.ensures ∙ ap (λ (x : SpanClaim). x.calls) c.claim.view_is in
    let links : c.as_slice-4.result.now ≡ entry.links = c.as_slice-4.ensures ∙ ap (λ (x : Entry). x.links) c.asked.view_is in
    ap length calls ∙ k.calls_long ∙ sym (ap length links)

pub first_linked-requires-clause-few : goal.first_linked-requires-clause-few
first_linked-requires-clause-few g c κs within =
    let H = g.D.Digester.digest_of in
    let is_digest = g.D.Digester.is_digest in
    let B : Bundle = c.args.bundle.now in
    let e : ℕ = c.args.entry in
    let image : Image = image_of c.args.image.now in
    let claims : List SpanClaim = c.args.claims.now in
    let entry : Entry = c.index-as_slice-from.result in
    let claim : SpanClaim = c.index-claims-from.result in
    let is_entry : entry ≡ get_or B e entry = c.index-as_slice-from.is ∙ ap₂ (λ (xs : List Entry) (n : ℕ). get_or xs n entry) (c.as_slice.ensures ∙ c.bundle.view_is) c.from.ensures in
    let is_claim : claim ≡ get_or claims e claim = c.index-claims-from.is ∙ ap (λ (n : ℕ). get_or claims n claim) c.from-2.ensures in
    let k = known H is_digest B e entry entry claim claim claims c.requires.limits c.requires.accepted c.requires.claims c.requires.some is_entry is_claim in
    let calls : c.as_slice-3.result.now ≡ claim.calls = c.as_slice-3.ensures ∙ ap (λ (x : SpanClaim). x.calls) c.claim.view_is in
    let links : c.as_slice-4.result.now ≡ entry.links = c.as_slice-4.ensures ∙ ap (λ (x : Entry). x.links) c.asked.view_is in
    subst (λ (xs : List ℕ). length xs ≤ 16777216) (sym links) k.limits.few_links

pub first_linked-requires-clause-links : goal.first_linked-requires-clause-links
first_linked-requires-clause-links g c κs within =
    let H = g.D.Digester.digest_of in
    let is_digest = g.D.Digester.is_digest in
    let B : Bundle = c.args.bundle.now in
    let e : ℕ = c.args.entry in
    let image : Image = image_of c.args.image.now in
    let claims : List SpanClaim = c.args.claims.now in
    let entry : Entry = c.index-as_slice-from.result in
    let claim : SpanClaim = c.index-claims-from.result in
    let is_entry : entry ≡ get_or B e entry = c.index-as_slice-from.is ∙ ap₂ (λ (xs : List Entry) (n : ℕ). get_or xs n entry) (c.as_slice.ensures ∙ c.bundle.view_is) c.from.ensures in
    let is_claim : claim ≡ get_or claims e claim = c.index-claims-from.is ∙ ap (λ (n : ℕ). get_or claims n claim) c.from-2.ensures in
    let k = known H is_digest B e entry entry claim claim claims c.requires.limits c.requires.accepted c.requires.claims c.requires.some is_entry is_claim in
    let calls : c.as_slice-3.result.now ≡ claim.calls = c.as_slice-3.ensures ∙ ap (λ (x : SpanClaim). x.calls) c.claim.view_is in
    let links : c.as_slice-4.result.now ≡ entry.links = c.as_slice-4.ensures ∙ ap (λ (x : Entry). x.links) c.asked.view_is in
    subst (λ (xs : List ℕ). All (λ link. link < length claims) xs) (sym links) k.links

pub returns-clause-pair : goal.returns-clause-pair
returns-clause-pair g c =
    let H = g.D.Digester.digest_of in
    let is_digest = g.D.Digester.is_digest in
    let B : Bundle = c.args.bundle.now in
    let e : ℕ = c.args.entry in
    let image : Image = image_of c.args.image.now in
    let claims : List SpanClaim = c.args.claims.now in
    let entry : Entry = c.index-as_slice-from.result in
    let claim : SpanClaim = c.index-claims-from.result in
    let is_entry : entry ≡ get_or B e entry = c.index-as_slice-from.is ∙ ap₂ (λ (xs : List Entry) (n : ℕ). get_or xs n entry) (c.as_slice.ensures ∙ c.bundle.view_is) c.from.ensures in
    let is_claim : claim ≡ get_or claims e claim = c.index-claims-from.is ∙ ap (λ (n : ℕ). get_or claims n claim) c.from-2.ensures in
    let k = known H is_digest B e entry entry claim claim claims c.requires.limits c.requires.accepted c.requires.claims c.requires.some is_entry is_claim in
    let strings : differ c.in_ok-left.left.items c.in_ok-right.right.items ≡ differ (state_string H claim.before) (image_string H image) =
    ap₂ differ (c.in_ok-left.ensures ∙ ap (λ (x : SpanClaim). state_string H x.before) c.claim.view_is) (c.in_ok-right.ensures ∙ ap (state_string H) c.first_state.ensures) in
    let pair = c.compare-found.ensures.pair ∙ strings in
    let place = c.compare-found.ensures.place ∙ ap (place_if State) strings in
    let none : is_some c.compare-found.result ≡ false = sym c.is_some.ensures ∙ c.if-is_some.false in
    let no_pair : differ (state_string H claim.before) (image_string H image) ≡ None =
    found_none (λ (f : Disagreement). f.pair) c.compare-found.result (differ (state_string H claim.before) (image_string H image)) pair none in
    let seals : map (λ seal. arc_value seal) c.as_slice-2.result.now ≡ entry.seals =
    ap (map (λ seal. arc_value seal)) c.as_slice-2.ensures ∙ ap (λ (x : Entry). x.seals) c.asked.view_is in
    let seals_found = c.in_ok-found.ensures.pair ∙ ap (λ (xs : List Seal). seals_pair H (Some (start image (words_of xs))) xs) seals in
    let seals_place_found = c.in_ok-found.ensures.place ∙ ap (λ (xs : List Seal). seals_place H 0 (Some (start image (words_of xs))) xs) seals in
    let calls : c.as_slice-3.result.now ≡ claim.calls = c.as_slice-3.ensures ∙ ap (λ (x : SpanClaim). x.calls) c.claim.view_is in
    let links : c.as_slice-4.result.now ≡ entry.links = c.as_slice-4.ensures ∙ ap (λ (x : Entry). x.links) c.asked.view_is in
    let none_too : is_some c.in_ok-found.found ≡ false = sym c.is_some-2.ensures ∙ c.if-is_some-2.false in
    let no_split : seals_pair H (Some (start image (words_of entry.seals))) entry.seals ≡ None = found_none (λ (f : Disagreement). f.pair) c.in_ok-found.found (seals_pair H (Some (start image (words_of entry.seals))) entry.seals) seals_found none_too in
    if_ok c.first_linked.result (λ found. (B : Bundle) → TellClaims H B claims → option_map (λ (f : Disagreement). f.pair) found ≡ calls_pair H B c.as_slice-3.result.now c.as_slice-4.result.now)
    (λ found. option_map (λ (f : Disagreement). f.pair) found ≡ audit_pair H B e image)
    (λ found is. is B (tell_claims H B claims c.requires.claims)
    ∙ ap₂ (calls_pair H B) calls links
    ∙ sym (whole_pair H is_digest B e entry claim claims image k ∙ ap₂ (λ (o p : Option Pair). option_or o (option_or p (calls_pair H B claim.calls entry.links))) no_pair no_split))
    c.first_linked.ensures.pair

pub returns-clause-place : goal.returns-clause-place
returns-clause-place g c =
    let H = g.D.Digester.digest_of in
    let is_digest = g.D.Digester.is_digest in
    let B : Bundle = c.args.bundle.now in
    let e : ℕ = c.args.entry in
    let image : Image = image_of c.args.image.now in
    let claims : List SpanClaim = c.args.claims.now in
    let entry : Entry = c.index-as_slice-from.result in
    let claim : SpanClaim = c.index-claims-from.result in
    let is_entry : entry ≡ get_or B e entry = c.index-as_slice-from.is ∙ ap₂ (λ (xs : List Entry) (n : ℕ). get_or xs n entry) (c.as_slice.ensures ∙ c.bundle.view_is) c.from.ensures in
    let is_claim : claim ≡ get_or claims e claim = c.index-claims-from.is ∙ ap (λ (n : ℕ). get_or claims n claim) c.from-2.ensures in
    let k = known H is_digest B e entry entry claim claim claims c.requires.limits c.requires.accepted c.requires.claims c.requires.some is_entry is_claim in
    let strings : differ c.in_ok-left.left.items c.in_ok-right.right.items ≡ differ (state_string H claim.before) (image_string H image) =
    ap₂ differ (c.in_ok-left.ensures ∙ ap (λ (x : SpanClaim). state_string H x.before) c.claim.view_is) (c.in_ok-right.ensures ∙ ap (state_string H) c.first_state.ensures) in
    let pair = c.compare-found.ensures.pair ∙ strings in
    let place = c.compare-found.ensures.place ∙ ap (place_if State) strings in
    let none : is_some c.compare-found.result ≡ false = sym c.is_some.ensures ∙ c.if-is_some.false in
    let no_pair : differ (state_string H claim.before) (image_string H image) ≡ None =
    found_none (λ (f : Disagreement). f.pair) c.compare-found.result (differ (state_string H claim.before) (image_string H image)) pair none in
    let no_place : place_if State (differ (state_string H claim.before) (image_string H image)) ≡ None = ap (place_if State) no_pair in
    let seals : map (λ seal. arc_value seal) c.as_slice-2.result.now ≡ entry.seals =
    ap (map (λ seal. arc_value seal)) c.as_slice-2.ensures ∙ ap (λ (x : Entry). x.seals) c.asked.view_is in
    let seals_found = c.in_ok-found.ensures.pair ∙ ap (λ (xs : List Seal). seals_pair H (Some (start image (words_of xs))) xs) seals in
    let seals_place_found = c.in_ok-found.ensures.place ∙ ap (λ (xs : List Seal). seals_place H 0 (Some (start image (words_of xs))) xs) seals in
    let calls : c.as_slice-3.result.now ≡ claim.calls = c.as_slice-3.ensures ∙ ap (λ (x : SpanClaim). x.calls) c.claim.view_is in
    let links : c.as_slice-4.result.now ≡ entry.links = c.as_slice-4.ensures ∙ ap (λ (x : Entry). x.links) c.asked.view_is in
    let none_too : is_some c.in_ok-found.found ≡ false = sym c.is_some-2.ensures ∙ c.if-is_some-2.false in
    let no_split : seals_place H 0 (Some (start image (words_of entry.seals))) entry.seals ≡ None = found_none (λ (f : Disagreement). f.place) c.in_ok-found.found (seals_place H 0 (Some (start image (words_of entry.seals))) entry.seals) seals_place_found none_too in
    if_ok c.first_linked.result (λ found. (B : Bundle) → TellClaims H B claims → option_map (λ (f : Disagreement). f.place) found ≡ calls_place H B 0 c.as_slice-3.result.now c.as_slice-4.result.now)
    (λ found. option_map (λ (f : Disagreement). f.place) found ≡ place_in H B e image)
    (λ found is. is B (tell_claims H B claims c.requires.claims)
    ∙ ap₂ (calls_place H B 0) calls links
    ∙ sym (whole_place H is_digest B e entry claim claims image k ∙ ap₂ (λ (o p : Option Place). option_or o (option_or p (calls_place H B 0 claim.calls entry.links))) no_place no_split))
    c.first_linked.ensures.place
