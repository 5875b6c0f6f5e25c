use Rattle.std.proofs.Common.{ℕ, List, ◌≡◌, ap, ap₂, ◌∙◌, subst}
use Rattle.std.specs.Prelude.{IfOk}
use Rattle.claim_types.specs.declared.claim.Exit.TheVariants.{Halted}
use Rattle.claim_types.specs.States.{state_digest}
use Rattle.claim_types.specs.Claims.{claim_string_of}
use Rattle.audit.proofs.strings.ok_string.Goals as goal

pub returns : goal.returns
returns g c =
    let H : List ℕ → List ℕ = g.D.Digester.digest_of in
    subst (λ (bytes : List ℕ). IfOk c.string_of_parts.result (λ string. string.items ≡ bytes))
    (ap₂ (λ (after output : List ℕ). claim_string_of H c.args.call.now.image after output (Halted 0))
    (c.state_digest-after.ensures ∙ ap (state_digest H) c.halted.ensures)
    (c.hash-output.ensures ∙ ap H (c.as_slice-2.ensures ∙ c.in_ok-output_string.ensures)))
    c.string_of_parts.ensures
