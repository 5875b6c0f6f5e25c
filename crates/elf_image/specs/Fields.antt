-- Numbers in a file, lowest byte first.
use Rattle.std.specs.Prelude.{ℕ, List, get_or}
use Rattle.std.specs.Int.{Width, w16, w32, byte_len, from_le_bytes}
use Rattle.page_core.specs.Memory.{bytes}

-- the number of this width from a place on; what lies past the end is zero
abbrev pub field : Width → List ℕ → ℕ → ℕ
field w file at = from_le_bytes w (bytes (λ k. get_or file k 0) at (byte_len w))

abbrev pub byte_at : List ℕ → ℕ → ℕ
byte_at file at = get_or file at 0

abbrev pub half_at : List ℕ → ℕ → ℕ
half_at file at = field w16 file at

abbrev pub word_at : List ℕ → ℕ → ℕ
word_at file at = field w32 file at
