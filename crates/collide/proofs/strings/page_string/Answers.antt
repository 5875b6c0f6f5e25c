use Rattle.std.proofs.Common.{List, ℕ, Option, ap}
use Rattle.std.specs.Prelude.{unwrap_or}
use Rattle.page_core.specs.Pages.{zero_page}
use Rattle.collide.proofs.strings.page_string.Goals as goal

pub returns-in-None : goal.returns-in-None
unfolding zero_page
returns-in-None g c = ap (λ (o : Option (List ℕ)). unwrap_or o zero_page) c.in-None.ensures
