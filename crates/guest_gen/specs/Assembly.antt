-- The ELF file of a guest's lines.
use Rattle.std.specs.Prelude.{◌≡◌, ⊤, ℕ, ◌*◌, List, [], ◌∷◌, ◌++◌, length, replicate, Some, IsTrue, codes}
use Rattle.std.specs.Int.{w16, w32, to_le_bytes}
use Rattle.std.specs.List.{flat_map}
use Rattle.rv_isa.specs.Encoding.{valid}
use Rattle.rv_isa.specs.Rows.{decode_of}
use Rattle.rv_isa.specs.declared.instr.Instr.TheVariants.{Fence}
use Rattle.guest_gen.specs.declared.line.GuestLine.{GuestLine}
use Rattle.guest_gen.specs.declared.line.GuestLine.TheVariants as Line

abbrev pub IsValidLine : GuestLine → Type 0
IsValidLine (Line.Word word) = ⊤
IsValidLine (Line.Instr instr) = IsTrue (valid instr)

abbrev pub AreValid : List GuestLine → Type 0
AreValid [] = Unit {0}
AreValid (line ∷ lines) = IsValidLine line × AreValid lines

-- ---- the code
-- the word of a line: the word itself, 0000000F for FENCE, and for any other instruction the one that decodes to it
abbrev pub IsLine : GuestLine → ℕ → Type 0
IsLine (Line.Word word) w = w ≡ word
IsLine (Line.Instr Fence) w = w ≡ 0xF
IsLine (Line.Instr instr) w = decode_of w ≡ Some instr

abbrev pub AreLines : List GuestLine → List ℕ → Type 0
AreLines [] [] = Unit {0}
AreLines [] (w ∷ ws) = ⊥
AreLines (line ∷ lines) [] = ⊥
AreLines (line ∷ lines) (w ∷ ws) = IsLine line w × AreLines lines ws

-- ---- the file: numbers are little-endian
abbrev pub half : ℕ → List ℕ
half n = to_le_bytes w16 n

abbrev pub word : ℕ → List ℕ
word n = to_le_bytes w32 n

-- 32 bits, little-endian, version 1; an executable for RISC-V, version 1, with the entry 0x1000; program headers at 52, and no
-- sections; no flags; 52 bytes of file header, one program header of 32 bytes, and the sizes and numbers of sections
abbrev pub file_header : List ℕ
file_header =
    (127 ∷ codes "ELF") ++ (1 ∷ 1 ∷ 1 ∷ replicate 9 0)
    ++ half 2 ++ half 243 ++ word 1 ++ word 0x1000
    ++ word 52 ++ word 0 ++ word 0
    ++ half 52 ++ half 32 ++ half 1 ++ half 0 ++ half 0 ++ half 0

-- a load header: from place 84 of the file to address 0x1000, so many bytes in the file and in memory, readable, writable and executable, aligned to 4
abbrev pub load_header : ℕ → List ℕ
load_header size = flat_map word (1 ∷ 84 ∷ 0x1000 ∷ 0x1000 ∷ size ∷ size ∷ 7 ∷ 4 ∷ [])

abbrev pub elf_file : List ℕ → List ℕ
elf_file words = file_header ++ load_header (4 * length words) ++ flat_map word words

-- the file of these lines
pub record IsAssembled (lines : List GuestLine) (file : List ℕ) : Type 0 where
  pub words : List ℕ
  pub lines_are : AreLines lines words
  pub file_is : file ≡ elf_file words
