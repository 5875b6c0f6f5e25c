use Rattle.std.proofs.Common.{◌∙◌, ap}
use Rattle.flat_machine.specs.Layers.{memory_in}
use Rattle.flat_machine.proofs.Layered.{same_shown, lifted_all}
use Rattle.flat_machine.proofs.memory.FlatMemory.lift_pages.Goals as goal

pub returns-in_err-copy_pages-clause-same_bytes : goal.returns-in_err-copy_pages-clause-same_bytes
returns-in_err-copy_pages-clause-same_bytes c =
    same_shown (record { above = c.self.inside.above; below = c.self.inside.below }) (record { above = c.copy_pages.new.above; below = c.self.inside.below }) c.copy_pages.ensures.same
    ∙ ap memory_in c.self.view_is

pub returns-clause-same_bytes : goal.returns-clause-same_bytes
returns-clause-same_bytes c =
    lifted_all (record { above = c.self.inside.above; below = c.self.inside.below }) (record { above = c.copy_pages.new.above; below = c.new.result }) c.new.ensures c.in_ok-copy_pages.ensures.copied
    ∙ ap memory_in c.self.view_is
