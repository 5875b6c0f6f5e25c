-- Claims on a span of a run, and their digests. H is the digest function.
use Rattle.std.specs.Prelude.{ℕ, List, [], ◌∷◌, map, codes}
use Rattle.digest_core.specs.Tagged.{tag_string, list_digest}
use Rattle.host_calls.specs.declared.call.AssumeCall.{AssumeCall}
use Rattle.claim_types.specs.declared.claim.Exit.{Exit}
use Rattle.claim_types.specs.declared.claim.Exit.TheVariants.{Split, Halted as HaltedWith}
use Rattle.claim_types.specs.declared.state.State.{State as SystemState}
use Rattle.claim_types.specs.States.{state_digest, zero_digest, halted_state}

-- what is claimed of a span of a run
pub record SpanClaim : Type 0 where
  pub before : SystemState
  pub after : SystemState
  pub exit : Exit
  pub journal : List ℕ
  pub calls : List AssumeCall

unfoldable pub output_tag : List ℕ
output_tag = codes "seal.Output"

unfoldable pub assumptions_tag : List ℕ
assumptions_tag = codes "seal.Assumptions"

unfoldable pub claim_tag : List ℕ
claim_tag = codes "seal.ReceiptClaim"

-- system exit and user exit
abbrev pub exit_pair : Exit → List ℕ
exit_pair Split = 2 ∷ 0 ∷ []
exit_pair (HaltedWith code) = 0 ∷ code ∷ []

-- what is hashed for an output: a journal's digest and that of the assumptions
abbrev pub output_string : (List ℕ → List ℕ) → List ℕ → List ℕ → List ℕ
output_string H journal assumptions = tag_string H output_tag (journal ∷ assumptions ∷ []) []

-- what is hashed for a claim, from the digests of its two states and its output
abbrev pub claim_string_of : (List ℕ → List ℕ) → List ℕ → List ℕ → List ℕ → Exit → List ℕ
claim_string_of H before after output exit = tag_string H claim_tag (zero_digest ∷ before ∷ after ∷ output ∷ []) (exit_pair exit)

abbrev pub claim_string_with : (List ℕ → List ℕ) → SpanClaim → List ℕ → List ℕ
claim_string_with H claim output = claim_string_of H (state_digest H claim.before) (state_digest H claim.after) (H output) claim.exit

-- ---- resolved: with no assumptions
abbrev pub resolved_output : (List ℕ → List ℕ) → SpanClaim → List ℕ
resolved_output H claim = output_string H (H claim.journal) zero_digest

abbrev pub claim_string : (List ℕ → List ℕ) → SpanClaim → List ℕ
claim_string H claim = claim_string_with H claim (resolved_output H claim)

abbrev pub claim_digest : (List ℕ → List ℕ) → SpanClaim → List ℕ
claim_digest H claim = H (claim_string H claim)

-- ---- ok: the resolved claim of an image that halts with code 0 and a journal
abbrev pub ok_output : (List ℕ → List ℕ) → AssumeCall → List ℕ
ok_output H call = output_string H call.journal zero_digest

abbrev pub ok_string : (List ℕ → List ℕ) → AssumeCall → List ℕ
ok_string H call = claim_string_of H call.image (state_digest H halted_state) (H (ok_output H call)) (HaltedWith 0)

abbrev pub ok_digest : (List ℕ → List ℕ) → AssumeCall → List ℕ
ok_digest H call = H (ok_string H call)

-- ---- conditional: with the calls as assumptions
abbrev pub assumptions_of : (List ℕ → List ℕ) → List AssumeCall → List ℕ
assumptions_of H calls = list_digest H assumptions_tag (map (ok_digest H) calls)

abbrev pub conditional_output : (List ℕ → List ℕ) → SpanClaim → List ℕ
conditional_output H claim = output_string H (H claim.journal) (assumptions_of H claim.calls)

abbrev pub conditional_string : (List ℕ → List ℕ) → SpanClaim → List ℕ
conditional_string H claim = claim_string_with H claim (conditional_output H claim)

abbrev pub conditional_digest : (List ℕ → List ℕ) → SpanClaim → List ℕ
conditional_digest H claim = H (conditional_string H claim)

-- what is hashed for the list of assumptions, one string for each call
abbrev pub assumption_cells : (List ℕ → List ℕ) → List AssumeCall → List (List ℕ)
assumption_cells H [] = []
assumption_cells H (call ∷ calls) = tag_string H assumptions_tag (ok_digest H call ∷ assumptions_of H calls ∷ []) [] ∷ assumption_cells H calls
