use Rattle.std.specs.Bool.{⊤}
use Rattle.std.proofs.Common.{◌-◌, vec_len}
use Rattle.rv_step.specs.declared.decode_table.TheConstants.{PLACES}
use Rattle.rv_step.proofs.decode_table.DecodeTable.fill.Given as goal

abbrev pub invariant-loop-instr : goal.invariant-loop-instr
invariant-loop-instr l = ⊤

abbrev pub decreases-loop-instr : goal.decreases-loop-instr
decreases-loop-instr l = PLACES - vec_len l.self-inside.entries
