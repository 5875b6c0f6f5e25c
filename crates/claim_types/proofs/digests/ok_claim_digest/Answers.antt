use Rattle.std.proofs.Common.{ℕ, List, ap, ap₂, ◌∙◌}
use Rattle.claim_types.specs.declared.claim.Exit.TheVariants.{Halted}
use Rattle.claim_types.specs.States.{state_digest}
use Rattle.claim_types.specs.Claims.{output_string, claim_string_of}
use Rattle.claim_types.proofs.digests.ok_claim_digest.Goals as goal

pub returns : goal.returns
returns g c =
    let H : List ℕ → List ℕ = g.D.Digester.digest_of in
    c.digest_of_parts.ensures
    ∙ ap₂ (λ (after output : List ℕ). H (claim_string_of H c.args.image.now after output (Halted 0)))
    (c.state_digest-after.ensures ∙ ap (state_digest H) c.halted.ensures)
    (c.output_digest-output.ensures ∙ ap (λ (zero : List ℕ). H (output_string H c.args.journal.now zero)) c.zero_digest.ensures)
