-- The text of a fault. Words and addresses have eight lower-case hexadecimal digits, the other numbers are decimal.
use Rattle.std.specs.Prelude.{ℕ, List, ◌++◌, codes, decimal}
use Rattle.std.specs.Int.{w32, to_be_bytes}
use Rattle.hex.specs.Hex.{encode_lower}
use Rattle.rv_isa.specs.declared.fault.Fault.{Fault}
use Rattle.rv_isa.specs.declared.fault.Fault.TheVariants.{Illegal, BadAddress, Misaligned, BadTarget, Break, BadCall, BadArgs, InputEnd}

-- a word as eight digits
abbrev pub hex_word : ℕ → List ℕ
hex_word n = encode_lower (to_be_bytes w32 n)

-- why a step can't be done
abbrev pub fault_text : Fault → List ℕ
fault_text (Illegal word) = codes "illegal " ++ hex_word word
fault_text (BadAddress a) = codes "bad-address " ++ hex_word a
fault_text (Misaligned a) = codes "misaligned " ++ hex_word a
fault_text (BadTarget a) = codes "bad-target " ++ hex_word a
fault_text Break = codes "break"
fault_text (BadCall n) = codes "bad-call " ++ decimal n
fault_text (BadArgs n) = codes "bad-args " ++ decimal n
fault_text InputEnd = codes "input-end"
