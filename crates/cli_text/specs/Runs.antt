-- The lines of runs. Counts are decimal.
use Rattle.std.specs.Prelude.{ℕ, List, ◌++◌, codes, decimal}
use Rattle.rv_isa.specs.declared.fault.Fault.{Fault}
use Rattle.rv_isa.specs.Text.{hex_word, fault_text}
use Rattle.cli_text.specs.Lines.{line, journal_line}

-- exit code, steps, their cost, the journal, and the number of assumptions
abbrev pub halted_lines : ℕ → ℕ → ℕ → List ℕ → ℕ → List ℕ
halted_lines code steps cycles journal assumptions =
    line (codes "halted " ++ decimal code)
    ++ line (codes "steps " ++ decimal steps)
    ++ line (codes "cycles " ++ decimal cycles)
    ++ journal_line journal
    ++ line (codes "assumptions " ++ decimal assumptions)

-- a step faults at this pc
abbrev pub faulted_lines : ℕ → ℕ → Fault → List ℕ
faulted_lines step pc fault = line (codes "faulted " ++ decimal step ++ codes " " ++ hex_word pc ++ codes " " ++ fault_text fault)

-- a step goes over the limit
abbrev pub over_limit_lines : ℕ → List ℕ
over_limit_lines step = line (codes "over-limit " ++ decimal step)

-- there are too many segments
abbrev pub too_many_seals_lines : List ℕ
too_many_seals_lines = line (codes "too-many-seals")
