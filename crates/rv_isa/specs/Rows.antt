-- The table of the 48 instructions: which words are which instruction.
use Rattle.std.specs.Prelude.{◌≡◌, ℕ, ◌+◌, ◌*◌, ◌/◌, ◌%◌, ◌^◌, Bool, true, false, not, ◌&&◌, ◌||◌, eqb, List, [], ◌∷◌, ℤ, Option, Some, None, find, option_map, slice_get, IsTrue}
use Rattle.rv_isa.specs.declared.instr.AluOp.{AluOp}
use Rattle.rv_isa.specs.declared.instr.AluOp.TheVariants.{Add, Sub, Sll, Slt, Sltu, Xor, Srl, Sra, Or, And, Mul, Mulh, Mulhsu, Mulhu, Div, Divu, Rem, Remu}
use Rattle.rv_isa.specs.declared.instr.BranchOp.{BranchOp}
use Rattle.rv_isa.specs.declared.instr.BranchOp.TheVariants.{Beq, Bne, Blt, Bge, Bltu, Bgeu}
use Rattle.rv_isa.specs.declared.instr.LoadOp.TheVariants.{Lb, Lh, Lw, Lbu, Lhu}
use Rattle.rv_isa.specs.declared.instr.StoreOp.{StoreOp}
use Rattle.rv_isa.specs.declared.instr.StoreOp.TheVariants.{Sb, Sh, Sw}
use Rattle.rv_isa.specs.declared.instr.Instr.{Instr}
use Rattle.rv_isa.specs.declared.instr.Instr.TheVariants.{Lui, Auipc, Jal, Jalr, Branch, Load, Store, AluImm, Alu, Fence, Ecall, Ebreak}
use Rattle.rv_isa.specs.Words.{twos_complement}

-- ---- the fields of a word: `bits low count w` are count bits of w from bit low on
abbrev pub bits : ℕ → ℕ → ℕ → ℕ
bits low count w = w / 2 ^ low % 2 ^ count

abbrev pub opcode : ℕ → ℕ
opcode w = bits 0 7 w

abbrev pub rd : ℕ → ℕ
rd w = bits 7 5 w

abbrev pub funct3 : ℕ → ℕ
funct3 w = bits 12 3 w

abbrev pub rs1 : ℕ → ℕ
rs1 w = bits 15 5 w

abbrev pub rs2 : ℕ → ℕ
rs2 w = bits 20 5 w

abbrev pub funct7 : ℕ → ℕ
funct7 w = bits 25 7 w

-- ---- the immediates
abbrev pub imm_i : ℕ → ℤ
imm_i w = twos_complement (2 ^ 11) (bits 20 12 w)

abbrev pub imm_s : ℕ → ℤ
imm_s w = twos_complement (2 ^ 11) (bits 25 7 w * 2 ^ 5 + bits 7 5 w)

abbrev pub imm_b : ℕ → ℤ
imm_b w = twos_complement (2 ^ 12) (bits 31 1 w * 2 ^ 12 + bits 7 1 w * 2 ^ 11 + bits 25 6 w * 2 ^ 5 + bits 8 4 w * 2)

abbrev pub imm_u : ℕ → ℕ
imm_u w = bits 12 20 w * 2 ^ 12

abbrev pub imm_j : ℕ → ℤ
imm_j w = twos_complement (2 ^ 20) (bits 31 1 w * 2 ^ 20 + bits 12 8 w * 2 ^ 12 + bits 20 1 w * 2 ^ 11 + bits 21 10 w * 2)

-- ---- a row: what its fields must be, and the instruction that the word then is
pub record Row : Type 0 where
  pub opcode : ℕ
  pub funct3 : Option ℕ
  pub funct7 : Option ℕ
  pub whole : Option ℕ
  pub instr : ℕ → Instr

-- the forms of rows
abbrev pub row_u : ℕ → (ℕ → ℕ → Instr) → Row
row_u op make = record { opcode = op; funct3 = None; funct7 = None; whole = None; instr = λ w. make (rd w) (imm_u w) }

abbrev pub row_j : ℕ → (ℕ → ℤ → Instr) → Row
row_j op make = record { opcode = op; funct3 = None; funct7 = None; whole = None; instr = λ w. make (rd w) (imm_j w) }

abbrev pub row_i : ℕ → ℕ → (ℕ → ℕ → ℤ → Instr) → Row
row_i op f3 make = record { opcode = op; funct3 = Some f3; funct7 = None; whole = None; instr = λ w. make (rd w) (rs1 w) (imm_i w) }

abbrev pub row_b : ℕ → ℕ → BranchOp → Row
row_b op f3 name = record { opcode = op; funct3 = Some f3; funct7 = None; whole = None; instr = λ w. Branch name (rs1 w) (rs2 w) (imm_b w) }

abbrev pub row_s : ℕ → ℕ → StoreOp → Row
row_s op f3 name = record { opcode = op; funct3 = Some f3; funct7 = None; whole = None; instr = λ w. Store name (rs1 w) (rs2 w) (imm_s w) }

abbrev pub row_shift : ℕ → ℕ → ℕ → AluOp → Row
row_shift op f3 f7 name = record { opcode = op; funct3 = Some f3; funct7 = Some f7; whole = None; instr = λ w. AluImm name (rd w) (rs1 w) (ℤ.pos (rs2 w)) }

abbrev pub row_r : ℕ → ℕ → ℕ → AluOp → Row
row_r op f3 f7 name = record { opcode = op; funct3 = Some f3; funct7 = Some f7; whole = None; instr = λ w. Alu name (rd w) (rs1 w) (rs2 w) }

abbrev pub row_fence : ℕ → ℕ → Row
row_fence op f3 = record { opcode = op; funct3 = Some f3; funct7 = None; whole = None; instr = λ w. Fence }

abbrev pub row_word : ℕ → Instr → Row
row_word word instr = record { opcode = word % 2 ^ 7; funct3 = None; funct7 = None; whole = Some word; instr = λ w. instr }

-- ---- the table
unfoldable pub rows : List Row
rows =
    row_u 0b0110111 Lui
    ∷ row_u 0b0010111 Auipc
    ∷ row_j 0b1101111 Jal
    ∷ row_i 0b1100111 0b000 Jalr
    ∷ row_b 0b1100011 0b000 Beq
    ∷ row_b 0b1100011 0b001 Bne
    ∷ row_b 0b1100011 0b100 Blt
    ∷ row_b 0b1100011 0b101 Bge
    ∷ row_b 0b1100011 0b110 Bltu
    ∷ row_b 0b1100011 0b111 Bgeu
    ∷ row_i 0b0000011 0b000 (Load Lb)
    ∷ row_i 0b0000011 0b001 (Load Lh)
    ∷ row_i 0b0000011 0b010 (Load Lw)
    ∷ row_i 0b0000011 0b100 (Load Lbu)
    ∷ row_i 0b0000011 0b101 (Load Lhu)
    ∷ row_s 0b0100011 0b000 Sb
    ∷ row_s 0b0100011 0b001 Sh
    ∷ row_s 0b0100011 0b010 Sw
    ∷ row_i 0b0010011 0b000 (AluImm Add)
    ∷ row_i 0b0010011 0b010 (AluImm Slt)
    ∷ row_i 0b0010011 0b011 (AluImm Sltu)
    ∷ row_i 0b0010011 0b100 (AluImm Xor)
    ∷ row_i 0b0010011 0b110 (AluImm Or)
    ∷ row_i 0b0010011 0b111 (AluImm And)
    ∷ row_shift 0b0010011 0b001 0b0000000 Sll
    ∷ row_shift 0b0010011 0b101 0b0000000 Srl
    ∷ row_shift 0b0010011 0b101 0b0100000 Sra
    ∷ row_r 0b0110011 0b000 0b0000000 Add
    ∷ row_r 0b0110011 0b000 0b0100000 Sub
    ∷ row_r 0b0110011 0b001 0b0000000 Sll
    ∷ row_r 0b0110011 0b010 0b0000000 Slt
    ∷ row_r 0b0110011 0b011 0b0000000 Sltu
    ∷ row_r 0b0110011 0b100 0b0000000 Xor
    ∷ row_r 0b0110011 0b101 0b0000000 Srl
    ∷ row_r 0b0110011 0b101 0b0100000 Sra
    ∷ row_r 0b0110011 0b110 0b0000000 Or
    ∷ row_r 0b0110011 0b111 0b0000000 And
    ∷ row_fence 0b0001111 0b000
    ∷ row_word 0x00000073 Ecall
    ∷ row_word 0x00100073 Ebreak
    ∷ row_r 0b0110011 0b000 0b0000001 Mul
    ∷ row_r 0b0110011 0b001 0b0000001 Mulh
    ∷ row_r 0b0110011 0b010 0b0000001 Mulhsu
    ∷ row_r 0b0110011 0b011 0b0000001 Mulhu
    ∷ row_r 0b0110011 0b100 0b0000001 Div
    ∷ row_r 0b0110011 0b101 0b0000001 Divu
    ∷ row_r 0b0110011 0b110 0b0000001 Rem
    ∷ row_r 0b0110011 0b111 0b0000001 Remu
    ∷ []

-- a field that the row names is as it says
abbrev pub is : Option ℕ → ℕ → Bool
is None n = true
is (Some m) n = eqb n m

-- these fields of a word are as the row says
unfoldable pub fits : ℕ → ℕ → ℕ → ℕ → Row → Bool
fits op f3 f7 w r = eqb op r.opcode && is r.funct3 f3 && is r.funct7 f7 && is r.whole w

abbrev pub matches : ℕ → Row → Bool
matches w r = fits (opcode w) (funct3 w) (funct7 w) w r

-- the instruction of the row that the word matches
unfoldable pub decode_of : ℕ → Option Instr
decode_of w = option_map (λ r. r.instr w) (find (matches w) rows)

-- two rows that differ in a field that both name
abbrev pub differ_at : Option ℕ → Option ℕ → Bool
differ_at (Some m) (Some n) = not (eqb m n)
differ_at _ _ = false

abbrev pub apart : Row → Row → Bool
apart r q = not (eqb r.opcode q.opcode) || differ_at r.funct3 q.funct3 || differ_at r.funct7 q.funct7 || differ_at r.whole q.whole

abbrev pub apart_from_all : Row → List Row → Bool
apart_from_all r [] = true
apart_from_all r (q ∷ qs) = apart r q && apart_from_all r qs

unfoldable pub all_apart : List Row → Bool
all_apart [] = true
all_apart (r ∷ rs) = apart_from_all r rs && all_apart rs

-- No word matches two rows.
abbrev pub RowsAreApart : Type 0
RowsAreApart =
    (w i j : ℕ) (r q : Row) → slice_get rows i ≡ Some r → slice_get rows j ≡ Some q → IsTrue (matches w r) → IsTrue (matches w q) → i ≡ j
