-- An entry of an accepted bundle, compared with an image's uncut run. H is the digest function.
use Rattle.std.proofs.Common.{◌≡◌, ℕ, zero, suc, ◌/◌, ◌%◌, ◌^◌, ◌<◌, Bool, true, false, cond, List, [], ◌∷◌, length, get_or, Option, Some, None, refl, sym, ap, ap₂, ◌∙◌, arith}
use Rattle.std.specs.Prelude.{All, option_map, option_and_then}
use Rattle.std.specs.Option.{option_or}
use Rattle.std.specs.Str.{bytes_eq}
use Rattle.std.proofs.lemmas.Option.{same_Some}
use Rattle.std.proofs.lemmas.Slice.Eq.{bytes_eq-Decides}
use Rattle.std.proofs.lemmas.Slice.Zip.{AllZip-long}
use Rattle.digest_core.specs.Digests.{IsDigest}
use Rattle.host_calls.specs.declared.call.AssumeCall.{AssumeCall}
use Rattle.rv_step.specs.Runs.{start}
use Rattle.page_core.specs.Images.{Image, IsImage}
use Rattle.page_core.specs.Memories.{page_of, flat}
use Rattle.page_core.specs.Pages.{ArePages}
use Rattle.page_core.specs.Stored.{Stored, stored_pages, memory_of, IsStoredFrom}
use Rattle.page_core.proofs.Zeros.{pages_are}
use Rattle.part_tree.specs.Splits.{Pair, differ}
use Rattle.part_tree.specs.Tree.{node_string}
use Rattle.claim_types.specs.declared.state.State.{State as SystemState}
use Rattle.claim_types.specs.Claims.{SpanClaim}
use Rattle.claim_types.specs.States.{state_string, image_state, image_string}
use Rattle.receipt_types.specs.Bundles.{Entry, Bundle, item}
use Rattle.receipt_types.specs.Limits.{EntryLimits, KeepsLimits}
use Rattle.receipt_types.specs.Seals.{words_of}
use Rattle.receipt_types.proofs.Form.{limits_give_form}
use Rattle.receipt_codec.proofs.Written.{entry_limits}
use Rattle.lift_join.specs.Joins.{chain_of}
use Rattle.check_core.specs.Auditing.{seals_pair, calls_pair, first_pair, claim_pair, entry_pair, audit_pair}
use Rattle.check_core.specs.Checked.{IsAccepted}
use Rattle.check_core.specs.Checking.{AreClaims}
use Rattle.check_core.specs.Entries.{first_of, first_at}
use Rattle.check_core.specs.Judgement.{Answered, ChainHalts}
use Rattle.check_core.specs.Vouching.{Faithful}
use Rattle.check_core.proofs.Claims.{claim_at}
use Rattle.check_core.proofs.Firsts.{first_is, accepted_at}
use Rattle.check_core.proofs.Linked.{item_is}
use Rattle.check_core.proofs.Members.{first_entry, entry_at, compared_are_hashed}
use Rattle.check_core.proofs.Strings.{state_parts}
use Rattle.check_core.proofs.Vouched.{first_fits, faithful_vouches, audit_is_exact}
use Rattle.audit.specs.Answers.{IsAuditable, IsSound, IsFirstPair}
use Rattle.audit.specs.declared.disagreement.Place.TheVariants.{State}
use Rattle.audit.specs.Places.{place_if, seals_place, calls_place, claim_place, entry_place, place_in}

-- strings between which there is no difference are the same
pub differ_none : (x y : List ℕ) → differ x y ≡ None → x ≡ y
differ_none x y none = go (bytes_eq x y) refl none
  where
    go : (b : Bool) → bytes_eq x y ≡ b → cond {A = Option Pair} b None (Some (record { left = x; right = y })) ≡ None → x ≡ y
    go true same h = (bytes_eq-Decides x y).0 same
    go false same h = absurd (cc)

-- an image's map has bytes
pub map_bytes : (map : Stored) → IsStoredFrom 0 map → (a : ℕ) → memory_of map a < 2 ^ 8
map_bytes map are a = byte_of (stored_pages map) (pages_are map 0 are) a
  where
    byte_of : (pages : ℕ → List ℕ) → ArePages pages → (a : ℕ) → flat pages a < 2 ^ 8
    byte_of pages good a = (good (a / 1024)).1 (a % 1024) 0 (omega (arith, (good (a / 1024)).0))

-- as many links as calls
answered_long : (H : List ℕ → List ℕ) (B : Bundle) (calls : List AssumeCall) (links : List ℕ) → Answered H B calls links → length calls ≡ length links
answered_long H B [] [] all = refl
answered_long H B [] (link ∷ links) all = absurd all
answered_long H B (call ∷ calls) [] all = absurd all
answered_long H B (call ∷ calls) (link ∷ links) all = ap suc (answered_long H B calls links all.1)

module _ (H : List ℕ → List ℕ) (is_digest : (x : List ℕ) → IsDigest (H x)) where
  -- ---- what is known of an entry of an accepted bundle
  pub record IsKnown (B : Bundle) (e : ℕ) (entry : Entry) (claim : SpanClaim) (claims : List SpanClaim) : Type 0 where
    pub is_entry : item B e ≡ Some entry
    pub chain : chain_of H entry.seals ≡ Some claim
    pub halts : ChainHalts H entry.seals
    pub first : first_of H entry.seals ≡ Some claim.before
    pub calls_long : length claim.calls ≡ length entry.links
    pub place : ℕ
    pub limits : EntryLimits place (length B) entry
    pub links : All (λ link. link < length claims) entry.links

  pub known : (B : Bundle) (e : ℕ) (entry d : Entry) (claim c : SpanClaim) (claims : List SpanClaim) → KeepsLimits B → IsAccepted H B → AreClaims H B claims → e < length B
      → entry ≡ get_or B e d → claim ≡ get_or claims e c → IsKnown B e entry claim claims
  known B e entry d claim c claims keeps (id, accepts) are low is_entry is_claim =
      let here : item B e ≡ Some entry = item_is B e d low ∙ ap Some (sym is_entry) in
      let ok = accepted_at H B B e entry accepts.entries here in
      let chain : chain_of H entry.seals ≡ Some claim =
      ap (λ (x : Entry). chain_of H x.seals) is_entry ∙ claim_at H B claims e d c are low ∙ ap Some (sym is_claim) in
      let same : ok.halts.claim ≡ claim = same_Some ok.halts.claim claim (sym ok.halts.chain ∙ chain) in
      let long = AllZip-long (λ entry claim. chain_of H entry.seals ≡ Some claim) B claims are in
      let (place, limits) = entry_limits B B e entry keeps refl low (same_Some entry (get_or B e entry) (sym here ∙ item_is B e entry low)) in
      record {
        is_entry = here;
        chain = chain;
        halts = ok.halts;
        first = first_is H entry.seals claim chain;
        calls_long = ap (λ (x : SpanClaim). length x.calls) (sym same) ∙ answered_long H B ok.halts.claim.calls entry.links ok.answered;
        place = place;
        limits = limits;
        links = λ i d inside. let both = limits.links i d inside in omega (arith, both.1, long);
      }

  module _ (B : Bundle) (e : ℕ) (entry : Entry) (claim : SpanClaim) (claims : List SpanClaim) (image : Image) (k : IsKnown B e entry claim claims) where
    pub first_known : first_at H B e ≡ Some claim.before
    first_known = ap (option_and_then (λ (x : Entry). first_of H x.seals)) k.is_entry ∙ k.first

    -- ---- the three parts of the comparison
    pub whole_pair : audit_pair H B e image
        ≡ option_or (differ (state_string H claim.before) (image_string H image)) (option_or (seals_pair H (Some (start image (words_of entry.seals))) entry.seals) (calls_pair H B claim.calls entry.links))
    whole_pair =
        ap (option_and_then (λ (x : Entry). entry_pair H B x image)) k.is_entry
        ∙ ap₂ (λ (o : Option SystemState) (p : Option SpanClaim). option_or (first_pair H o image) (option_or (seals_pair H (Some (start image (words_of entry.seals))) entry.seals) (claim_pair H B p entry.links))) k.first k.chain

    pub whole_place : place_in H B e image
        ≡ option_or (place_if State (differ (state_string H claim.before) (image_string H image)))
        (option_or (seals_place H 0 (Some (start image (words_of entry.seals))) entry.seals) (calls_place H B 0 claim.calls entry.links))
    whole_place =
        ap (option_and_then (λ (x : Entry). entry_place H B x image)) k.is_entry
        ∙ ap₂ (λ (o : Option SystemState) (p : Option SpanClaim). option_or (place_if State (first_pair H o image)) (option_or (seals_place H 0 (Some (start image (words_of entry.seals))) entry.seals) (claim_place H B p entry.links))) k.first k.chain

    -- the first state is the image's, where their strings are
    pub begins : KeepsLimits B → IsImage image → differ (state_string H claim.before) (image_string H image) ≡ None → first_of H entry.seals ≡ Some (image_state H image)
    begins keeps is_image none =
        let form = limits_give_form B keeps in
        let fits = first_fits H is_digest entry.seals claim.before (entry_at B e entry form.entries k.is_entry).seals k.first in
        let small : image.entry < 2 ^ 32 = let below = is_image.below in omega (arith, below) in
        k.first ∙ ap Some (state_parts H claim.before (image_state H image) (fits.1 ∙ sym (is_digest (node_string H (page_of image.memory) 18 0)).0) fits.0 small
        (differ_none (state_string H claim.before) (image_string H image) none))

  -- an entry with a first state is one of the bundle's
  item_low : {A : Type 0} (xs : List A) (n : ℕ) (x : A) → item xs n ≡ Some x → n < length xs
  item_low [] n x is = absurd (cc)
  item_low (y ∷ xs) zero x is = omega arith
  item_low (y ∷ xs) (suc n) x is = omega (arith, item_low xs n x is)

  pub entry_low : (B : Bundle) (e : ℕ) (first : SystemState) → first_at H B e ≡ Some first → e < length B
  entry_low B e first is = let (entry, is_entry, of_entry) = first_entry H B e first is in item_low B e entry is_entry

  -- ---- what is found
  module _ (B : Bundle) (e : ℕ) (image : Image) (keeps : KeepsLimits B) (is_image : IsImage image) (can : IsAuditable H B e image) where
    pub agrees : audit_pair H B e image ≡ None → Faithful H B e image
    agrees none =
        let (id, accepts) = can.accepted in
        (audit_is_exact H is_digest B id e can.first image (limits_give_form B keeps) is_image accepts can.is_first can.same_id).0.0 none

    pub sound : (words : List ℕ) → audit_pair H B e image ≡ None → option_map (λ (entry : Entry). words_of entry.seals) (item B e) ≡ Some words → IsSound H B e image words
    sound words none are =
        let (id, accepts) = can.accepted in
        record { none = none; faithful = agrees none; vouches = faithful_vouches H B id e image (limits_give_form B keeps) is_image accepts (agrees none); are_words = are }

    pub first_pair_is : (pair : Pair) → audit_pair H B e image ≡ Some pair → IsFirstPair H B e image pair
    first_pair_is pair found =
        let (id, accepts) = can.accepted in
        let form = limits_give_form B keeps in
        let exact = audit_is_exact H is_digest B id e can.first image form is_image accepts can.is_first can.same_id in
        let collision = exact.1 pair found in
        record {
          first = found;
          collision = record {
            in_left = compared_are_hashed H B image pair.left collision.in_left;
            in_right = compared_are_hashed H B image pair.right collision.in_right;
            bytes_left = collision.bytes_left;
            bytes_right = collision.bytes_right;
            differ = collision.differ;
            same_digest = collision.same_digest;
          };
          unfaithful = λ f. let none = exact.0.1 f in let both : None ≡ Some pair = sym none ∙ found in cc;
        }
