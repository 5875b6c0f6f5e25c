-- The digest of a list of assumptions, from the last one to the first.
use Rattle.std.proofs.Common.{◌≡◌, ℕ, zero, suc, ◌-◌, ◌<◌, ◌≤◌, List, [], ◌∷◌, length, get_or, drop, sym, ap, ap₂, ◌∙◌, arith, drop-cons}
use Rattle.digest_core.specs.Tagged.{tagged_digest}
use Rattle.host_calls.specs.declared.call.AssumeCall.{AssumeCall}
use Rattle.claim_types.specs.Claims.{assumptions_tag, ok_digest, assumptions_of}

pub one_more : (H : List ℕ → List ℕ) (calls : List AssumeCall) (at : ℕ) (call : AssumeCall) (ok rest : List ℕ)
    → 0 < at → at ≤ length calls → call ≡ get_or calls (at - 1) call → ok ≡ ok_digest H call → rest ≡ assumptions_of H (drop at calls)
    → tagged_digest H assumptions_tag (ok ∷ rest ∷ []) [] ≡ assumptions_of H (drop (at - 1) calls)
one_more H calls zero call ok rest some within is e f = absurd (omega arith)
one_more H calls (suc n) call ok rest some within is e f =
    let at : suc n - 1 ≡ n = omega arith in
    let lt : n < length calls = omega arith in
    let here : drop n calls ≡ call ∷ drop (suc n) calls =
    drop-cons calls n call lt ∙ ap (λ (c : AssumeCall). c ∷ drop (suc n) calls) (sym (is ∙ ap (λ (k : ℕ). get_or calls k call) at)) in
    ap₂ (λ (o r : List ℕ). tagged_digest H assumptions_tag (o ∷ r ∷ []) []) e f
    ∙ sym (ap (λ (k : ℕ). assumptions_of H (drop k calls)) at ∙ ap (λ (cs : List AssumeCall). assumptions_of H cs) here)
