-- Links of an accepted bundle lead to the entries that the calls name, or the audit shows a pair.
use Rattle.std.proofs.Common.{◌≡◌, ◌⊎◌, inl, inr, ℕ, ◌^◌, ◌<◌, List, [], ◌∷◌, length, Option, Some, None, refl, sym, ap, ◌∙◌, subst, arith}
use Rattle.std.specs.Prelude.{Contains}
use Rattle.std.specs.List.{flat_map}
use Rattle.std.proofs.lemmas.List.Elements.{Contains-append_left, Contains-append_right}
use Rattle.digest_core.specs.Digests.{IsDigest}
use Rattle.host_calls.specs.declared.call.AssumeCall.{AssumeCall}
use Rattle.page_core.specs.Images.{Image}
use Rattle.claim_types.specs.declared.claim.Exit.{Exit}
use Rattle.claim_types.specs.declared.claim.Exit.TheVariants.{Halted as HaltedWith}
use Rattle.std.specs.Option.{option_or}
use Rattle.std.proofs.lemmas.Option.{same_Some}
use Rattle.claim_types.specs.States.{state_string, state_digest, zero_digest, halted_state}
use Rattle.claim_types.specs.Claims.{SpanClaim, output_string, claim_string_of, resolved_output, claim_string, ok_output, ok_string, ok_digest}
use Rattle.receipt_types.specs.Seals.{Seal}
use Rattle.seal_replay.specs.Claiming.{claim_at, claim_of}
use Rattle.lift_join.specs.Joins.{chain_of}
use Rattle.receipt_types.specs.Bundles.{Entry, Bundle, item, IsBundle}
use Rattle.check_core.specs.Entries.{claim_in, digest_or_none, digest_in}
use Rattle.check_core.specs.Judgement.{Answered, AllAccepted}
use Rattle.check_core.specs.Hashed.{compared_oks, compared_strings}
use Rattle.check_core.specs.Vouching.{LinkedTo, Linked}
use Rattle.part_tree.specs.Splits.{Pair, differ, Exhibits}
use Rattle.check_core.specs.Auditing.{link_pair, calls_pair}
use Rattle.page_core.proofs.Options.{both_none}
use Rattle.part_tree.proofs.Splits.{differ_same, first_shown, then_shown, same_or_shown}
use Rattle.check_core.proofs.Codes.{chain_code}
use Rattle.lift_join.proofs.Inversion.{has_claim, joins}
use Rattle.check_core.proofs.Firsts.{accepted_at}
use Rattle.rv_step.specs.Acts.{AreCalls}
use Rattle.check_core.proofs.Members.{claim_entry, entry_at, output_in, string_in}
use Rattle.check_core.proofs.Strings.{output_parts, claim_parts, exit_bytes, code_zero}

-- a claim that halts leaves the fixed state
halted_after : (H : List ℕ → List ℕ) (seals : List Seal) (claim : SpanClaim) (code : ℕ) → chain_of H seals ≡ Some claim → claim.exit ≡ HaltedWith code → claim.after ≡ halted_state
halted_after H [] claim code chain exit = absurd (cc)
halted_after H (seal ∷ []) claim code chain exit =
    let h = has_claim H seal claim chain in
    ap (λ (c : SpanClaim). c.after) h.is ∙ ap (λ (x : Exit). (claim_at H seal (x, h.state)).after) (sym (ap (λ (c : SpanClaim). c.exit) h.is) ∙ exit)
halted_after H (seal ∷ next ∷ seals) claim code chain exit =
    let j = joins (claim_of H seal) (chain_of H (next ∷ seals)) claim chain in
    ap (λ (c : SpanClaim). c.after) j.is ∙ halted_after H (next ∷ seals) j.right code j.is_right (sym (ap (λ (c : SpanClaim). c.exit) j.is) ∙ exit)

-- a call whose entry is the one that it names shows no pair
pub linked_unpaired : (H : List ℕ → List ℕ) (B : Bundle) (call : AssumeCall) (link : ℕ) → LinkedTo H B call link → link_pair H (claim_in H B link) call ≡ None
linked_unpaired H B call link l =
    let (entry, is_entry, chain) = claim_entry H B link l.claim l.is_claim in
    let output : resolved_output H l.claim ≡ ok_output H call = ap (λ (j : List ℕ). output_string H j zero_digest) l.journal in
    let after : state_digest H l.claim.after ≡ state_digest H halted_state = ap (state_digest H) (halted_after H entry.seals l.claim 0 chain l.exit) in
    let string : claim_string H l.claim ≡ ok_string H call =
    ap (λ (b : List ℕ). claim_string_of H b (state_digest H l.claim.after) (H (resolved_output H l.claim)) l.claim.exit) l.image
    ∙ ap (λ (a : List ℕ). claim_string_of H call.image a (H (resolved_output H l.claim)) l.claim.exit) after
    ∙ ap (λ (o : List ℕ). claim_string_of H call.image (state_digest H halted_state) (H o) l.claim.exit) output
    ∙ ap (λ (x : Exit). claim_string_of H call.image (state_digest H halted_state) (H (ok_output H call)) x) l.exit in
    ap (λ (o : Option SpanClaim). link_pair H o call) l.is_claim
    ∙ both_none (differ (claim_string H l.claim) (ok_string H call)) (differ (resolved_output H l.claim) (ok_output H call)) (differ_same (claim_string H l.claim) (ok_string H call) string) (differ_same (resolved_output H l.claim) (ok_output H call) output)

pub all_unpaired : (H : List ℕ → List ℕ) (B : Bundle) (calls : List AssumeCall) (links : List ℕ) → Linked H B calls links → calls_pair H B calls links ≡ None
all_unpaired H B [] links linked = refl
all_unpaired H B (call ∷ calls) [] linked = absurd linked
all_unpaired H B (call ∷ calls) (link ∷ links) linked =
    both_none (link_pair H (claim_in H B link) call) (calls_pair H B calls links) (linked_unpaired H B call link linked.0) (all_unpaired H B calls links linked.1)

module _ (H : List ℕ → List ℕ) (is_digest : (x : List ℕ) → IsDigest (H x)) (B : Bundle) (image : Image) (good : IsBundle B) (accepted : AllAccepted H B B) where
  -- a digest is that of an entry
  found : (digest : List ℕ) (o : Option SpanClaim) → length digest ≡ 32 → digest ≡ digest_or_none H o → (claim : SpanClaim) × (o ≡ Some claim) × (digest ≡ H (claim_string H claim))
  found digest (Some claim) size e = (claim, refl, e)
  found digest None size e = let none : length digest ≡ 0 = ap length e in absurd (omega (arith, none))

  -- the exit of an accepted entry's claim with the exit pair of an ok claim
  exit_zero : (entry : Entry) (claim : SpanClaim) → (l : ℕ) → item B l ≡ Some entry → chain_of H entry.seals ≡ Some claim → exit_bytes claim.exit ≡ exit_bytes (HaltedWith 0) → claim.exit ≡ HaltedWith 0
  exit_zero entry claim l is_entry chain e =
      let ok = (accepted_at H B B l entry accepted is_entry).halts in
      let same : ok.claim ≡ claim = same_Some ok.claim claim (sym ok.chain ∙ chain) in
      let halted : claim.exit ≡ HaltedWith ok.code = sym (ap (λ (c : SpanClaim). c.exit) same) ∙ ok.exit in
      let small : ok.code < 2 ^ 32 = chain_code H entry.seals claim ok.code (entry_at B l entry good.entries is_entry).seals chain halted in
      let zero_code : ok.code ≡ 0 = code_zero ok.code small (ap exit_bytes (sym halted) ∙ e) in
      halted ∙ ap HaltedWith zero_code

  linked_to : (call : AssumeCall) (link : ℕ) → IsDigest call.image → IsDigest call.journal → Contains (compared_strings H B image) (ok_string H call) → Contains (compared_strings H B image) (ok_output H call)
      → ok_digest H call ≡ digest_in H B link → LinkedTo H B call link ⊎ Exhibits H (compared_strings H B image) (link_pair H (claim_in H B link) call)
  linked_to call link is_image is_journal ok_in out_in e =
      let (claim, is_claim, same_digest) = found (ok_digest H call) (claim_in H B link) (is_digest (ok_string H call)).0 e in
      let (entry, is_entry, chain) = claim_entry H B link claim is_claim in
      let one : Option Pair = differ (claim_string H claim) (ok_string H call) in
      let two : Option Pair = differ (resolved_output H claim) (ok_output H call) in
      let here : Exhibits H (compared_strings H B image) (option_or one two) → Exhibits H (compared_strings H B image) (link_pair H (claim_in H B link) call) =
      λ x. subst (λ (o : Option SpanClaim). Exhibits H (compared_strings H B image) (link_pair H o call)) (sym is_claim) x in
      elim (same_or_shown H (compared_strings H B image) (claim_string H claim) (ok_string H call) (string_in H B image link entry is_entry claim chain) ok_in (sym same_digest)) [
        | inl same ↦
            let parts =
            claim_parts H (state_digest H claim.before) (state_digest H claim.after) (H (resolved_output H claim)) call.image (state_digest H halted_state) (H (ok_output H call)) claim.exit (HaltedWith 0)
            ((is_digest (state_string H claim.before)).0 ∙ sym is_image.0)
            ((is_digest (state_string H claim.after)).0 ∙ sym (is_digest (state_string H halted_state)).0)
            ((is_digest (resolved_output H claim)).0 ∙ sym (is_digest (ok_output H call)).0) same in
            elim (same_or_shown H (compared_strings H B image) (resolved_output H claim) (ok_output H call) (output_in H B image link entry is_entry claim chain) out_in parts.2) [
              | inl out ↦ inl (record {
                claim = claim;
                is_claim = is_claim;
                image = parts.0;
                exit = exit_zero entry claim link is_entry chain parts.3;
                journal = (output_parts H (H claim.journal) zero_digest call.journal zero_digest ((is_digest claim.journal).0 ∙ sym is_journal.0) refl out).0;
              })
              | inr x ↦ inr (here (then_shown H (compared_strings H B image) one two (differ_same (claim_string H claim) (ok_string H call) same) x))
            ]
        | inr x ↦ inr (here (first_shown H (compared_strings H B image) one two x))
      ]

  pub all_linked : (calls : List AssumeCall) (links : List ℕ) → AreCalls calls → ((x : List ℕ) → Contains (flat_map (compared_oks H) calls) x → Contains (compared_strings H B image) x)
      → Answered H B calls links → Linked H B calls links ⊎ Exhibits H (compared_strings H B image) (calls_pair H B calls links)
  all_linked [] [] are held answered = inl tt
  all_linked [] (link ∷ links) are held answered = absurd answered
  all_linked (call ∷ calls) [] are held answered = absurd answered
  all_linked (call ∷ calls) (link ∷ links) are held answered =
      let mine : (x : List ℕ) → Contains (compared_oks H call) x → Contains (compared_strings H B image) x =
      λ x c. held x (Contains-append_left (compared_oks H call) (flat_map (compared_oks H) calls) x c) in
      elim (linked_to call link are.0.0 are.0.1 (mine (ok_string H call) (1, omega arith, refl)) (mine (ok_output H call) (0, omega arith, refl)) answered.0) [
        | inl one ↦ elim (all_linked calls links are.1 (λ x c. held x (Contains-append_right (compared_oks H call) (flat_map (compared_oks H) calls) x c)) answered.1) [
          | inl rest ↦ inl (one, rest)
          | inr x ↦ inr (then_shown H (compared_strings H B image) (link_pair H (claim_in H B link) call) (calls_pair H B calls links) (linked_unpaired H B call link one) x)
        ]
        | inr x ↦ inr (first_shown H (compared_strings H B image) (link_pair H (claim_in H B link) call) (calls_pair H B calls links) x)
      ]
