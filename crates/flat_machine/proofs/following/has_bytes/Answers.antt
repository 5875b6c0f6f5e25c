use Rattle.std.proofs.Common.{ℕ, List, Option, ap, ◌∙◌}
use Rattle.std.specs.Prelude.{unwrap_or}
use Rattle.std.specs.Str.{bytes_eq}
use Rattle.page_core.specs.Pages.{zero_page}
use Rattle.flat_machine.proofs.following.has_bytes.Goals as goal

pub returns-in-None : goal.returns-in-None
unfolding zero_page
returns-in-None g c =
    c.eq-in-None.ensures ∙ ap (λ (bytes : List ℕ). bytes_eq bytes c.args.bytes.now) (ap (λ (o : Option (List ℕ)). unwrap_or o zero_page) c.in-None.ensures)
