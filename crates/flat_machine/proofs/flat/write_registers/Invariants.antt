use Rattle.flat_machine.proofs.FullPages.{HasRegisters}
use Rattle.flat_machine.proofs.flat.write_registers.Given as goal

abbrev pub invariant-loop-n : goal.invariant-loop-n
invariant-loop-n l = HasRegisters l.fn.page l.regs l.n l.page
