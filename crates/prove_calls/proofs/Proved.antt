-- What is proved of an image's run is its proof: put together with others, its bundle is accepted under the image's id. H is the digest function.
use Rattle.std.proofs.Common.{◌≡◌, ℕ, ◌+◌, ◌*◌, ◌<◌, ◌≤◌, inl, inr, List, [], ◌∷◌, length, Option, Some, None, refl, sym, ap, ◌∙◌, subst, arith}
use Rattle.std.specs.Prelude.{option_and_then}
use Rattle.page_core.specs.Memory.{top}
use Rattle.page_core.specs.Images.{Image}
use Rattle.host_calls.specs.declared.call.AssumeCall.{AssumeCall}
use Rattle.rv_step.specs.Machine.{State}
use Rattle.rv_step.specs.Runs.{start, after}
use Rattle.rv_step.specs.declared.outcome.Outcome.TheVariants.{Halted, Faulted, OverLimit}
use Rattle.claim_types.specs.declared.claim.Exit.TheVariants.{Halted as HaltedWith}
use Rattle.claim_types.specs.Claims.{SpanClaim}
use Rattle.claim_types.specs.States.{state_digest, image_state}
use Rattle.receipt_types.specs.Seals.{Seal}
use Rattle.receipt_types.specs.Bundles.{Bundle}
use Rattle.lift_join.specs.Joins.{chain_of}
use Rattle.lift_join.specs.Chained.{Chained}
use Rattle.lift_join.proofs.Inversion.{states_same}
use Rattle.check_core.specs.Judgement.{Accepts}
use Rattle.check_core.proofs.Images.{start_root}
use Rattle.executor.specs.Segments.{Limits, lengths}
use Rattle.executor.specs.Laws.{AreLimits}
use Rattle.executor.specs.Proving.{system_state, seals_from, cut_seals}
use Rattle.session.specs.Proved.{IsProved, StopsSession}
use Rattle.session.specs.declared.stop.SessionStop.{SessionStop}
use Rattle.session.specs.declared.stop.SessionStop.TheVariants as Session
use Rattle.cli_text.specs.declared.status.Status.{Status}
use Rattle.command_frame.specs.Ends.{Kept}
use Rattle.prove_calls.specs.declared.proof.Proof.{Proof}
use Rattle.prove_calls.specs.Prove.{Run, beginning, bundle_with, IsReceipt, IsUnresolved, StopsRun}
use Rattle.prove_calls.specs.Proofs.{run_of, IsProofOf, IsBundled, TellsSession}
use Rattle.prove_calls.proofs.Calls.{calls_within}

-- no more seals than segments
few_seals : (H : List ℕ → List ℕ) (o : Option State) (ns : List ℕ) → length (seals_from H o ns) ≤ length ns
few_seals H o [] = omega arith
few_seals H None (n ∷ ns) = omega arith
few_seals H (Some s) (n ∷ ns) = let rest = few_seals H (after s n) ns in omega (arith, rest)

some_seals : (H : List ℕ → List ℕ) (seals : List Seal) (claim : SpanClaim) → chain_of H seals ≡ Some claim → 0 < length seals
some_seals H [] claim h = absurd (cc)
some_seals H (seal ∷ seals) claim h = omega arith

-- ---- a session
-- one that stops
pub session_stops : (H : List ℕ → List ℕ) (run : Run) (stop : SessionStop) → StopsSession run.limits (beginning run) stop → (status : Status) (lines : List ℕ) (kept : Option Kept)
    → TellsSession stop status lines kept → StopsRun H run status lines kept
session_stops H run Session.TooManySeals many status lines kept tells = inl (record { many = many; told = tells })
session_stops H run (Session.Faulted fault pc step) stops status lines kept tells = inr (record { few = stops.0; outcome = Faulted fault pc step; ends = stops.1; tells = tells })
session_stops H run (Session.OverLimit step) stops status lines kept tells = inr (record { few = stops.0; outcome = OverLimit step; ends = stops.1; tells = tells })
session_stops H run Session.Memory stops status lines kept tells = absurd tells

-- one that is proved
module _ (H : List ℕ → List ℕ) (l : Limits) (image : Image) (words : List ℕ) (proved : Chained) (p : IsProved H l (start image words) proved) where
  pub proved_halted : (code : ℕ) × (proved.claim.exit ≡ HaltedWith code)
  proved_halted = (p.code, p.claims.exit_is)

  pub proved_some : 0 < length proved.seals
  proved_some = some_seals H proved.seals proved.claim p.chained

  pub proved_few : length proved.seals ≤ 65535
  proved_few =
      let same : length proved.seals ≡ length (cut_seals H l (start image words)) = ap length p.seals in
      omega (arith, same, p.few, few_seals H (Some (start image words)) (lengths l (start image words)))

  -- each call costs at least 4 of the limit
  pub proved_calls : AreLimits l → length proved.claim.calls ≤ 16777216
  proved_calls are =
      let most : l.limit ≤ 67108864 = are.most_limit in
      let same : length proved.claim.calls ≡ length p.ends.state.calls = ap length p.claims.calls in
      let within : 4 * length p.ends.state.calls ≤ 0 + l.limit = calls_within (start image words) l.limit (Halted p.code) p.ends in
      omega (arith, most, same, within)

  module _ (others : List Bundle) where
    -- others that don't answer its calls
    pub proved_unresolved : (status : Status) (lines : List ℕ) (kept : Option Kept) → IsUnresolved H proved.claim.calls others status lines kept → StopsRun H (run_of image words l others) status lines kept
    proved_unresolved status lines kept unresolved = inr (record {
      few = p.few;
      outcome = Halted p.code;
      ends = p.ends;
      tells = subst (λ (calls : List AssumeCall). IsUnresolved H calls others status lines kept) p.claims.calls unresolved;
    })

    -- and others that do
    module _ (rest : (a : ℕ) → top ≤ a → image.memory a ≡ 0) (proof : Proof) (bundled : IsBundled H proved others proof) where
      chain : chain_of H (cut_seals H l (start image words)) ≡ Some proved.claim
      chain = ap (chain_of H) (sym p.seals) ∙ p.chained

      same_state : proved.claim.before ≡ image_state H image
      same_state = p.claims.before ∙ states_same (system_state H (start image words)) (image_state H image) refl (start_root H image words rest)

      receipt_of : IsReceipt H (run_of image words l others) p.code p.ends proof.receipt.items
      receipt_of = record {
        bundle = bundled.bundle;
        is_bundle =
            ap (option_and_then (bundle_with H (cut_seals H l (start image words)) others)) chain
            ∙ ap (λ (seals : List Seal). bundle_with H seals others proved.claim) (sym p.seals)
            ∙ bundled.is_bundle;
        spells = bundled.spells;
        claim = proved.claim;
        chain = chain;
        claims = p.claims;
        before = same_state;
        accepted = subst (λ (id : List ℕ). Accepts H bundled.bundle id) (ap (state_digest H) same_state) bundled.accepted;
      }

      pub proof_of : IsProofOf H (run_of image words l others) proof
      unfolding receipt_of
      proof_of = record {
        proves = record {
          few = p.few;
          code = p.code;
          ends = p.ends;
          bytes = proof.receipt.items;
          is_receipt = receipt_of;
          report = proof.report;
          reports = bundled.reports;
        };
        bytes_are = refl;
        report_is = refl;
      }
