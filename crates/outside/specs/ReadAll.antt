use Rattle.std.specs.Prelude.{◌≡◌, ℕ, ◌<◌, List, length, ⊤, Some, IsNone, IsSomeAnd, Ok, Err, Option, Result}
use Rattle.byte_cursor.specs.Growing.{Growing}
use Rattle.outside.specs.declared.stop.ReadAllStop.{ReadAllStop}
use Rattle.outside.specs.declared.stop.ReadAllStop.TheVariants.{Fault, NoFile, TooLong, Memory}

-- the answer to a name that holds `held`: with at most `limit` bytes in an Ok, no two of the first
-- three rows hold of one name, so each of these answers comes exactly in its row,
-- unless a read failed or memory was wanting
abbrev pub ReadAll : Option (List ℕ) → ℕ → Result (Growing ℕ) ReadAllStop → Type 0
ReadAll held limit (Ok list) = held ≡ Some list.items
ReadAll held limit (Err NoFile) = IsNone held
ReadAll held limit (Err TooLong) = IsSomeAnd held (λ bytes. limit < length bytes)
ReadAll held limit (Err Fault) = ⊤
ReadAll held limit (Err Memory) = ⊤
