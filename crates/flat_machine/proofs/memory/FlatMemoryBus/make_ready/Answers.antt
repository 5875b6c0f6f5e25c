use Rattle.std.proofs.Common.{sym, ap, ◌∙◌}
use Rattle.page_core.specs.Pages.{zero_page}
use Rattle.flat_machine.specs.Layers.{memory_in}
use Rattle.flat_machine.proofs.Layered.{zeros_opened}
use Rattle.flat_machine.proofs.memory.FlatMemoryBus.make_ready.Goals as goal

pub returns-in-None-clause-same_bytes : goal.returns-in-None-clause-same_bytes
unfolding zero_page
returns-in-None-clause-same_bytes c =
    zeros_opened c.open-in-None.result (record { above = c.self.inside.above; below = c.self.inside.below }) c.open-in-None.new.self c.args.page
    (sym c.if-is_open.ensures) (sym c.in-None.ensures) (rw c.of.ensures at c.open-in-None.ensures.opened) c.open-in-None.ensures.others c.open-in-None.ensures.kept
    ∙ ap memory_in c.self.view_is
