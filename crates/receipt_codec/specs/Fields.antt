-- The parts of a seal before its tree.
use Rattle.std.specs.Prelude.{◌≡◌, ℕ, ◌^◌, ◌<◌, List, ◌++◌, length, All}
use Rattle.std.specs.Int.{w32, to_le_bytes}
use Rattle.receipt_types.specs.Limits.{NumberLimits}
use Rattle.receipt_codec.specs.declared.seal.Fields.{Fields}

-- pc, steps, number of words
abbrev pub fields_bytes : Fields → List ℕ
fields_bytes f = to_le_bytes w32 f.pc ++ to_le_bytes w32 f.steps ++ to_le_bytes w32 f.count

-- the limits of a seal's numbers
abbrev pub FieldLimits : Fields → Type 0
FieldLimits f = NumberLimits f.pc f.steps f.count

-- this many words, each below 2 ^ 32
pub record AreWords (count : ℕ) (words : List ℕ) : Type 0 where
  pub many : length words ≡ count
  pub below : All (λ word. word < 2 ^ 32) words
