use Rattle.std.proofs.Common.{ℕ, List, [], ◌∷◌, ◌≡◌, ap₂, subst}
use Rattle.std.specs.Prelude.{IfOk}
use Rattle.digest_core.specs.Tagged.{tag_string}
use Rattle.claim_types.specs.Claims.{claim_tag}
use Rattle.audit.proofs.strings.string_of_parts.Goals as goal

pub returns : goal.returns
unfolding claim_tag
returns g c =
    subst (λ (bytes : List ℕ). IfOk c.tag_string.result (λ string. string.items ≡ bytes))
    (ap₂ (λ (zero words : List ℕ). tag_string g.D.Digester.digest_of claim_tag (zero ∷ c.args.before.now ∷ c.args.after.now ∷ c.args.output.now ∷ []) words)
    c.zero_digest.ensures c.exit_pair-words.ensures)
    c.tag_string.ensures
