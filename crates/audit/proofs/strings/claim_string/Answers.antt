use Rattle.std.proofs.Common.{ℕ, List, ◌≡◌, ap, ◌∙◌, subst}
use Rattle.std.specs.Prelude.{IfOk}
use Rattle.claim_types.specs.States.{state_digest, zero_digest}
use Rattle.claim_types.specs.Claims.{SpanClaim, claim_string, claim_string_of, output_string}
use Rattle.audit.proofs.strings.claim_string.Goals as goal

pub returns : goal.returns
returns g c =
    let H : List ℕ → List ℕ = g.D.Digester.digest_of in
    let output =
    c.hash-output.ensures ∙ ap H (c.as_slice-3.ensures ∙ c.in_ok-output_string.ensures ∙ ap (λ (j : List ℕ). output_string H j zero_digest) (c.hash-journal.ensures ∙ ap H c.as_slice.ensures)) in
    subst (λ (bytes : List ℕ). IfOk c.string_of_parts.result (λ string. string.items ≡ bytes))
    (ap (λ (x : List ℕ). claim_string_of H x c.state_digest-after.result c.hash-output.result c.claim.inside.exit) c.state_digest-before.ensures
    ∙ ap (λ (x : List ℕ). claim_string_of H (state_digest H c.claim.inside.before) x c.hash-output.result c.claim.inside.exit) c.state_digest-after.ensures
    ∙ ap (λ (x : List ℕ). claim_string_of H (state_digest H c.claim.inside.before) (state_digest H c.claim.inside.after) x c.claim.inside.exit) output
    ∙ ap (λ (x : SpanClaim). claim_string H x) c.claim.view_is)
    c.string_of_parts.ensures
