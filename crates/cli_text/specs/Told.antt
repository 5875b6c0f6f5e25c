-- What words tell: a value, or none.
use Rattle.std.specs.Prelude.{ℕ, List, map, string_bytes, Option, Result, IfOk, IfSome, IfNone}
use Rattle.std.specs.declared.string.String.{String}

-- the words, each by its bytes
abbrev pub texts : {A : Type 0} → List (String A) → List (List ℕ)
texts words = map string_bytes words

-- P holds of the value that is told, if one is
abbrev pub IfTold : {T E : Type 0} → Result (Option T) E → (T → Type 0) → Type 0
IfTold result P = IfOk result (λ told. IfSome told P)

-- P holds where none is told
abbrev pub IfUntold : {T E : Type 0} → Result (Option T) E → Type 0 → Type 0
IfUntold result P = IfOk result (λ told. IfNone told P)
