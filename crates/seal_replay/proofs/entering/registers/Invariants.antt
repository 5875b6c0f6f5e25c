use Rattle.page_core.specs.Memories.{flat}
use Rattle.rv_step.specs.Opened.{pages_in}
use Rattle.seal_replay.proofs.Entered.{AreShown}
use Rattle.seal_replay.proofs.entering.registers.Given as goal

abbrev pub invariant-loop-n : goal.invariant-loop-n
invariant-loop-n l = AreShown (flat (pages_in l.pages)) l.regs l.n
