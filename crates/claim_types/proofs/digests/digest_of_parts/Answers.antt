use Rattle.std.proofs.Common.{ℕ, List, [], ◌∷◌, ap₂, ◌∙◌}
use Rattle.digest_core.specs.Tagged.{tagged_digest}
use Rattle.claim_types.specs.Claims.{claim_tag}
use Rattle.claim_types.proofs.digests.digest_of_parts.Goals as goal

pub returns : goal.returns
unfolding claim_tag
returns g c =
    c.tagged.ensures
    ∙ ap₂ (λ (zero words : List ℕ). tagged_digest g.D.Digester.digest_of claim_tag (zero ∷ c.args.before.now ∷ c.args.after.now ∷ c.args.output.now ∷ []) words)
    c.zero_digest.ensures c.exit_pair-words.ensures
