-- What the calls of an accepted bundle say of other images.
use Rattle.std.proofs.Common.{◌≡◌, inl, inr, ℕ, List, Option, Some, sym, ap, ◌∙◌}
use Rattle.seal_replay.proofs.Chains.{code_same}
use Rattle.std.specs.Prelude.{option_and_then}
use Rattle.digest_core.specs.Digests.{IsDigest}
use Rattle.page_core.specs.Images.{Image}
use Rattle.std.proofs.lemmas.Option.{same_Some}
use Rattle.claim_types.specs.Claims.{SpanClaim}
use Rattle.lift_join.specs.Joins.{chain_of}
use Rattle.receipt_types.specs.Bundles.{Entry, Bundle}
use Rattle.check_core.specs.Entries.{first_of, first_at, claim_in}
use Rattle.check_core.specs.Vouching.{Vouches}
use Rattle.check_core.specs.Laws.{CallsHold}
use Rattle.check_core.proofs.Firsts.{first_is}
use Rattle.check_core.proofs.Members.{claim_entry}
use Rattle.check_core.proofs.Vouched.{headline}

-- an entry with a claim has its first state
claim_first : (H : List ℕ → List ℕ) (B : Bundle) (e : ℕ) (claim : SpanClaim) → claim_in H B e ≡ Some claim → first_at H B e ≡ Some claim.before
claim_first H B e claim h =
    let (entry, is_entry, chain) = claim_entry H B e claim h in
    ap (λ (o : Option Entry). option_and_then (λ (x : Entry). first_of H x.seals) o) is_entry ∙ first_is H entry.seals claim chain

-- the claim that an entry vouches with is the entry's
vouched_claim : (H : List ℕ → List ℕ) (B : Bundle) (e : ℕ) (image : Image) (v : Vouches H B e image) → claim_in H B e ≡ Some v.claim
vouched_claim H B e image v = ap (λ (o : Option Entry). option_and_then (λ (x : Entry). chain_of H x.seals) o) v.is_entry ∙ v.is_claim

pub calls_hold : (H : List ℕ → List ℕ) → ((x : List ℕ) → IsDigest (H x)) → CallsHold H
calls_hold H is_digest B id call link image good is_image accepts linked same_id =
    elim (headline H is_digest B id link linked.claim.before image good is_image accepts (claim_first H B link linked.claim linked.is_claim) (linked.image ∙ sym same_id)) [
      | inl v ↦
          let same : v.claim ≡ linked.claim = same_Some v.claim linked.claim (sym (vouched_claim H B link image v) ∙ linked.is_claim) in
          inl (record {
            vouches = v;
            code = code_same v.code 0 (sym v.exit ∙ ap (λ (c : SpanClaim). c.exit) same ∙ linked.exit);
            journal = ap (λ (c : SpanClaim). H c.journal) same ∙ linked.journal;
          })
      | inr c ↦ inr c
    ]
