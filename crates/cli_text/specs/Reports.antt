-- The lines of a report.
use Rattle.std.specs.Prelude.{ℕ, List, [], ◌∷◌, ◌++◌, length, sum_by, codes, decimal}
use Rattle.digest_core.specs.Text.{digest_text}
use Rattle.cli_text.specs.Lines.{line, journal_line}
use Rattle.check_core.specs.Reports.{EntryReport, Report}

-- what was proved: exit code, journal and digests of the first entry
abbrev pub claims_lines : List ℕ → EntryReport → List ℕ
claims_lines journal first =
    line (codes "exit " ++ decimal first.exit)
    ++ journal_line journal
    ++ line (codes "claim " ++ digest_text first.claim)
    ++ line (codes "conditional " ++ digest_text first.conditional)

-- how much it was: the numbers of entries, of all seals and of all steps
abbrev pub counts_lines : List EntryReport → List ℕ
counts_lines entries =
    line (codes "entries " ++ decimal (length entries))
    ++ line (codes "seals " ++ decimal (sum_by (λ entry. entry.seals) entries))
    ++ line (codes "steps " ++ decimal (sum_by (λ entry. entry.steps) entries))

-- what was proved, and how much it was; nothing of a report without entries
abbrev pub report_lines : List ℕ → List EntryReport → List ℕ
report_lines journal [] = []
report_lines journal (first ∷ rest) = claims_lines journal first ++ counts_lines (first ∷ rest)

-- the lines of a receipt that is valid
abbrev pub valid_lines : Report → List ℕ
valid_lines report = line (codes "valid") ++ report_lines report.journal report.entries

-- the lines of a receipt that was made, of so many bytes
abbrev pub proved_lines : Report → ℕ → List ℕ
proved_lines report bytes = line (codes "proved") ++ report_lines report.journal report.entries ++ line (codes "bytes " ++ decimal bytes)

-- and of one that was made of a generated guest, whose ELF file has so many bytes, whose input has so many words, and whose run costs so much
abbrev pub generated_lines : ℕ → ℕ → ℕ → ℕ → ℕ → Report → ℕ → List ℕ
generated_lines number size elf words cycles report bytes =
    line (codes "generated " ++ decimal number ++ codes " " ++ decimal size)
    ++ line (codes "elf " ++ decimal elf)
    ++ line (codes "input " ++ decimal words)
    ++ line (codes "cycles " ++ decimal cycles)
    ++ proved_lines report bytes
