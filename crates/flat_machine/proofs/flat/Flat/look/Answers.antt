use Rattle.rv_step.specs.Machine.{State}
use Rattle.rv_step.specs.Stepping.{state_at}
use Rattle.rv_step.specs.Tapes.{no_log}
use Rattle.flat_machine.specs.Layers.{memory_in}
use Rattle.flat_machine.proofs.RunPaid.{looked_never}
use Rattle.flat_machine.proofs.flat.Flat.look.Goals as goal

pub unreachable-requires : goal.unreachable-requires
unreachable-requires c =
    let s : State = state_at c.self.inside.core (memory_in c.self.inside.memory) c.self.inside.tape no_log in
    looked_never s c.look.result (c.look.ensures no_log) c.in-Err.field-0 c.in-Err.is
