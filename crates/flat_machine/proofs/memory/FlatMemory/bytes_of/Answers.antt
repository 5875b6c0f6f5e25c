use Rattle.std.proofs.Common.{ℕ, List, Option, ap}
use Rattle.std.specs.Prelude.{unwrap_or}
use Rattle.page_core.specs.Pages.{zero_page}
use Rattle.page_core.proofs.Zeros.{zeros_are}
use Rattle.flat_machine.proofs.memory.FlatMemory.bytes_of.Goals as goal

pub returns-in-None-clause-value : goal.returns-in-None-clause-value
unfolding zero_page
returns-in-None-clause-value c = ap (λ (o : Option (List ℕ)). unwrap_or o zero_page) c.in-None.ensures

pub returns-in-None-clause-page : goal.returns-in-None-clause-page
unfolding zero_page
returns-in-None-clause-page c = zeros_are
