-- The text of a digest.
use Rattle.std.specs.Prelude.{ℕ, List}
use Rattle.hex.specs.Hex.{encode_lower}

-- 64 lower-case hexadecimal digits, in the order of the bytes
abbrev pub digest_text : List ℕ → List ℕ
digest_text digest = encode_lower digest
