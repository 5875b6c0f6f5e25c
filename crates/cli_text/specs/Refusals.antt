-- The line of each refusal of a receipt, and of a proof that other receipts don't complete. Counts and indices are decimal.
use Rattle.std.specs.Prelude.{ℕ, List, ◌++◌, codes, decimal}
use Rattle.check_core.specs.declared.stop.CheckStop.{CheckStop}
use Rattle.check_core.specs.Text.{reason_text}
use Rattle.cli_text.specs.Lines.{line}

-- a receipt is refused
abbrev pub stop_lines : CheckStop → List ℕ
stop_lines stop = line (codes "refused " ++ reason_text stop)

-- the other receipt of this index is refused
abbrev pub bad_receipt_lines : ℕ → CheckStop → List ℕ
bad_receipt_lines index stop = line (codes "bad-receipt " ++ decimal index ++ codes " " ++ reason_text stop)

-- no entry answers this assumption call
abbrev pub no_receipt_lines : ℕ → List ℕ
no_receipt_lines call = line (codes "no-receipt " ++ decimal call)

-- there would be so many entries
abbrev pub too_many_entries_lines : ℕ → List ℕ
too_many_entries_lines count = line (codes "too-many-entries " ++ decimal count)
