-- An accepted entry vouches for the image of its first state, or two hashed strings collide.
use Rattle.std.proofs.Common.{◌≡◌, ◌⊎◌, inl, inr, ℕ, ◌^◌, ◌<◌, List, [], ◌∷◌, length, Option, Some, None, refl, sym, ap, ap₂, ◌∙◌, subst, arith}
use Rattle.std.proofs.lemmas.Option.{none-some, same_Some}
use Rattle.std.specs.Prelude.{Contains, option_and_then}
use Rattle.digest_core.specs.Digests.{IsDigest}
use Rattle.part_tree.specs.Tree.{node_string}
use Rattle.page_core.proofs.Options.{both_none}
use Rattle.part_tree.proofs.Splits.{length-root_of, differ_same, first_shown, then_shown, same_or_shown}
use Rattle.rv_step.specs.Machine.{State}
use Rattle.page_core.specs.Images.{Image, IsImage}
use Rattle.rv_step.specs.Runs.{start, after}
use Rattle.claim_types.specs.declared.claim.Exit.TheVariants.{Halted as HaltedWith}
use Rattle.std.specs.Option.{option_or}
use Rattle.seal_replay.proofs.Chains.{start_ready}
use Rattle.page_core.specs.Memories.{page_of}
use Rattle.claim_types.specs.declared.state.State.{State as SystemState}
use Rattle.claim_types.specs.States.{state_string, state_digest, image_state, image_string, image_id}
use Rattle.claim_types.specs.Claims.{SpanClaim}
use Rattle.receipt_types.specs.Seals.{Seal, words_of}
use Rattle.lift_join.specs.Joins.{chain_of}
use Rattle.receipt_types.specs.Bundles.{Entry, Bundle, item, AreSeals, IsBundle}
use Rattle.check_core.specs.Entries.{first_of, first_at}
use Rattle.check_core.specs.Judgement.{Accepts}
use Rattle.check_core.specs.Hashed.{hashed_strings, compared_strings}
use Rattle.check_core.specs.Vouching.{SealsAgree, Faithful}
use Rattle.digest_core.specs.Collisions.{Collides, IsCollision}
use Rattle.check_core.specs.Laws.{FaithfulVouches, FaithfulOrCollides, Headline, AuditIsExact}
use Rattle.part_tree.specs.Splits.{Pair, differ, Exhibits}
use Rattle.check_core.specs.Auditing.{seals_pair, calls_pair, first_pair, claim_pair, entry_pair, audit_pair}
use Rattle.check_core.proofs.Carries.{carries}
use Rattle.check_core.proofs.Hashes.{hashed_are_bytes}
use Rattle.check_core.proofs.Images.{start_root, start_strings}
use Rattle.check_core.proofs.Induction.{agree_all, agree_unpaired}
use Rattle.check_core.proofs.Firsts.{first_is, accepted_at}
use Rattle.check_core.proofs.Links.{all_linked, all_unpaired}
use Rattle.check_core.proofs.Made.{chain_made}
use Rattle.check_core.proofs.Members.{first_entry, entry_at, tree_in, image_in, seals_in, before_in, oks_in, compared_are_hashed}
use Rattle.check_core.proofs.Strings.{state_parts}

pub faithful_vouches : (H : List ℕ → List ℕ) → FaithfulVouches H
faithful_vouches H B id e image good is_image accepts f =
    let ok = (accepted_at H B B e f.entry accepts.entries f.is_entry).halts in
    let same : ok.claim ≡ f.claim = same_Some ok.claim f.claim (sym ok.chain ∙ f.is_claim) in
    let exit : f.claim.exit ≡ HaltedWith ok.code = sym (ap (λ (c : SpanClaim). c.exit) same) ∙ ok.exit in
    record {
      entry = f.entry;
      is_entry = f.is_entry;
      claim = f.claim;
      is_claim = f.is_claim;
      code = ok.code;
      exit = exit;
      run = carries H image f.entry.seals f.claim ok.code is_image (entry_at B e f.entry good.entries f.is_entry).seals f.is_claim exit f.seals;
      linked = f.linked;
    }

module _ (H : List ℕ → List ℕ) (is_digest : (x : List ℕ) → IsDigest (H x)) where
  -- the first state of seals has a word and a digest
  pub first_fits : (seals : List Seal) (first : SystemState) → AreSeals seals → first_of H seals ≡ Some first → (first.pc < 2 ^ 32) × (length first.root ≡ 32)
  first_fits [] first good h = absurd (cc)
  first_fits (seal ∷ seals) first good h =
      subst (λ (s : SystemState). (s.pc < 2 ^ 32) × (length s.root ≡ 32)) (same_Some _ first h)
      (good.0.is_word, length-root_of H is_digest 18 seal.tree good.0.shape)

  module _ (B : Bundle) (id : List ℕ) (e : ℕ) (image : Image) (good : IsBundle B) (is_image : IsImage image) (accepts : Accepts H B id) where
    -- where the first state is the image's, the seals agree with the run or a pair is shown
    seals_agree : (entry : Entry) (is_entry : item B e ≡ Some entry) (claim : SpanClaim) (code : ℕ) (chain : chain_of H entry.seals ≡ Some claim) (exit : claim.exit ≡ HaltedWith code)
        → claim.before ≡ image_state H image → SealsAgree H (start image (words_of entry.seals)) 0 entry.seals ⊎ Exhibits H (compared_strings H B image) (seals_pair H (Some (start image (words_of entry.seals))) entry.seals)
    unfolding after
    seals_agree entry is_entry claim code chain exit begins =
        let s : State = start image (words_of entry.seals) in
        agree_all H is_digest (compared_strings H B image) s s 0 entry.seals claim code chain exit (entry_at B e entry good.entries is_entry).seals
        refl (start_ready image (words_of entry.seals) is_image) refl
        (ap (λ (x : SystemState). x.pc) begins)
        (ap (λ (x : SystemState). x.root) begins ∙ sym (start_root H image (words_of entry.seals) is_image.rest))
        (λ x c. tree_in H B image x (subst (λ (l : List (List ℕ)). Contains l x) (start_strings H image (words_of entry.seals) is_image.rest) c))
        (seals_in H B image e entry is_entry)

    run_unpaired : (entry : Entry) → SealsAgree H (start image (words_of entry.seals)) 0 entry.seals → seals_pair H (Some (start image (words_of entry.seals))) entry.seals ≡ None
    unfolding after
    run_unpaired entry agree = agree_unpaired H (start image (words_of entry.seals)) (start image (words_of entry.seals)) 0 entry.seals refl agree

    entry_is : (entry : Entry) (first : SystemState) (claim : SpanClaim) → item B e ≡ Some entry → first_of H entry.seals ≡ Some first → chain_of H entry.seals ≡ Some claim
        → audit_pair H B e image ≡ option_or (differ (state_string H first) (image_string H image)) (option_or (seals_pair H (Some (start image (words_of entry.seals))) entry.seals) (calls_pair H B claim.calls entry.links))
    entry_is entry first claim is_entry is_first chain =
        ap (option_and_then (λ (x : Entry). entry_pair H B x image)) is_entry
        ∙ ap₂ (λ (o : Option SystemState) (p : Option SpanClaim). option_or (first_pair H o image) (option_or (seals_pair H (Some (start image (words_of entry.seals))) entry.seals) (claim_pair H B p entry.links))) is_first chain

    pub faithful_or_shown : (first : SystemState) → first_at H B e ≡ Some first → state_digest H first ≡ image_id H image → Faithful H B e image ⊎ Exhibits H (compared_strings H B image) (audit_pair H B e image)
    faithful_or_shown first is_first same_id =
        let (entry, is_entry, of_entry) = first_entry H B e first is_first in
        let ok = accepted_at H B B e entry accepts.entries is_entry in
        let claim = ok.halts.claim in
        let chain = ok.halts.chain in
        let seals = (entry_at B e entry good.entries is_entry).seals in
        let begin : first_of H entry.seals ≡ Some claim.before = first_is H entry.seals claim chain in
        let before : first ≡ claim.before = same_Some first claim.before (sym of_entry ∙ begin) in
        let fits = first_fits entry.seals claim.before seals begin in
        let same_digest : H (state_string H claim.before) ≡ H (image_string H image) = sym (ap (λ (x : SystemState). state_digest H x) before) ∙ same_id in
        let one : Option Pair = differ (state_string H claim.before) (image_string H image) in
        let two : Option Pair = seals_pair H (Some (start image (words_of entry.seals))) entry.seals in
        let three : Option Pair = calls_pair H B claim.calls entry.links in
        let whole : Exhibits H (compared_strings H B image) (option_or one (option_or two three)) → Exhibits H (compared_strings H B image) (audit_pair H B e image) =
        λ x. subst (λ (o : Option Pair). Exhibits H (compared_strings H B image) o) (sym (entry_is entry claim.before claim is_entry begin chain)) x in
        elim (same_or_shown H (compared_strings H B image) (state_string H claim.before) (image_string H image) (before_in H B image e entry is_entry claim chain) (image_in H B image) same_digest) [
          | inl same ↦
              let none_first : one ≡ None = differ_same (state_string H claim.before) (image_string H image) same in
              let small : image.entry < 2 ^ 32 = let below = is_image.below in omega (arith, below) in
              let begins : claim.before ≡ image_state H image = state_parts H claim.before (image_state H image) (fits.1 ∙ sym (is_digest (node_string H (page_of image.memory) 18 0)).0) fits.0 small same in
              elim (seals_agree entry is_entry claim ok.halts.code chain ok.halts.exit begins) [
                | inl agree ↦ elim (all_linked H is_digest B image good accepts.entries claim.calls entry.links (chain_made H entry.seals claim seals chain).calls (oks_in H B image e entry is_entry claim chain) ok.answered) [
                  | inl linked ↦ inl (record {
                    entry = entry;
                    is_entry = is_entry;
                    first = of_entry ∙ ap (λ (x : SystemState). Some x) (before ∙ begins);
                    seals = agree;
                    claim = claim;
                    is_claim = chain;
                    linked = linked;
                  })
                  | inr x ↦ inr (whole (then_shown H (compared_strings H B image) one (option_or two three) none_first
                      (then_shown H (compared_strings H B image) two three (run_unpaired entry agree) x)))
                ]
                | inr x ↦ inr (whole (then_shown H (compared_strings H B image) one (option_or two three) none_first (first_shown H (compared_strings H B image) two three x)))
              ]
          | inr x ↦ inr (whole (first_shown H (compared_strings H B image) one (option_or two three) x))
        ]

    -- an entry that agrees shows no pair
    pub faithful_unpaired : Faithful H B e image → audit_pair H B e image ≡ None
    faithful_unpaired f =
        entry_is f.entry (image_state H image) f.claim f.is_entry f.first f.is_claim
        ∙ both_none (differ (image_string H image) (image_string H image)) (option_or (seals_pair H (Some (start image (words_of f.entry.seals))) f.entry.seals) (calls_pair H B f.claim.calls f.entry.links)) (differ_same (image_string H image) (image_string H image) refl)
        (both_none (seals_pair H (Some (start image (words_of f.entry.seals))) f.entry.seals) (calls_pair H B f.claim.calls f.entry.links) (run_unpaired f.entry f.seals) (all_unpaired H B f.claim.calls f.entry.links f.linked))

  -- with what is said of the strings of a collision
  is_collision : (B : Bundle) (image : Image) → IsBundle B → IsImage image → (o : Option Pair) → (x : Exhibits H (compared_strings H B image) o) → IsCollision H (compared_strings H B image) x.pair.left x.pair.right
  is_collision B image good is_image o x = record {
    in_left = x.in_left;
    in_right = x.in_right;
    bytes_left = hashed_are_bytes H is_digest B image x.pair.left good is_image (compared_are_hashed H B image x.pair.left x.in_left);
    bytes_right = hashed_are_bytes H is_digest B image x.pair.right good is_image (compared_are_hashed H B image x.pair.right x.in_right);
    differ = x.differs;
    same_digest = x.same_digest;
  }

  collides : (B : Bundle) (image : Image) (pair : Pair) → IsCollision H (compared_strings H B image) pair.left pair.right → Collides H (hashed_strings H B image)
  collides B image pair c = record {
    left = pair.left;
    right = pair.right;
    is = record {
      in_left = compared_are_hashed H B image pair.left c.in_left;
      in_right = compared_are_hashed H B image pair.right c.in_right;
      bytes_left = c.bytes_left;
      bytes_right = c.bytes_right;
      differ = c.differ;
      same_digest = c.same_digest;
    };
  }

  pub faithful_or_collides : FaithfulOrCollides H
  faithful_or_collides B id e first image good is_image accepts is_first same_id =
      elim (faithful_or_shown B id e image good is_image accepts first is_first same_id) [
        | inl f ↦ inl f
        | inr x ↦ inr (collides B image x.pair (is_collision B image good is_image (audit_pair H B e image) x))
      ]

  pub headline : Headline H
  headline B id e first image good is_image accepts is_first same_id =
      elim (faithful_or_collides B id e first image good is_image accepts is_first same_id) [ inl f ↦ inl (faithful_vouches H B id e image good is_image accepts f) | inr c ↦ inr c ]

  pub audit_is_exact : AuditIsExact H
  audit_is_exact B id e first image good is_image accepts is_first same_id =
      let both = faithful_or_shown B id e image good is_image accepts first is_first same_id in (
        (
          λ none. elim both [ inl f ↦ f | inr x ↦ absurd (none-some x.pair (sym none ∙ x.is)) ],
          λ f. faithful_unpaired B id e image good is_image accepts f,
        ),
        λ pair found. elim both [
          | inl f ↦ absurd (none-some pair (sym (faithful_unpaired B id e image good is_image accepts f) ∙ found))
          | inr x ↦ subst (λ (p : Pair). IsCollision H (compared_strings H B image) p.left p.right) (same_Some x.pair pair (sym x.is ∙ found)) (is_collision B image good is_image (audit_pair H B e image) x)
        ],
      )
