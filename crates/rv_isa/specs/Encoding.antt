-- Which instructions have a word: their register numbers are below 32, and their format can hold their immediate.
use Rattle.std.specs.Prelude.{ℕ, ◌%◌, ◌^◌, Bool, true, false, ◌&&◌, eqb, ltb, ℤ, pos, neg_ℤ, int_le, int_lt}
use Rattle.rv_isa.specs.declared.instr.AluOp.{AluOp}
use Rattle.rv_isa.specs.declared.instr.AluOp.TheVariants.{Add, Sll, Slt, Sltu, Xor, Srl, Sra, Or, And}
use Rattle.rv_isa.specs.declared.instr.Instr.{Instr}
use Rattle.rv_isa.specs.declared.instr.Instr.TheVariants.{Lui, Auipc, Jal, Jalr, Branch, Load, Store, AluImm, Alu, Fence, Ecall, Ebreak}
use Rattle.rv_isa.specs.Words.{unsigned_of}

-- the number of one of the 32 registers
abbrev pub is_register : ℕ → Bool
is_register n = ltb n 32

-- from -half to half - 1: the numbers of k bits in two's complement, half given as 2 ^ (k - 1)
abbrev pub in_signed : ℕ → ℤ → Bool
in_signed half z = int_le (neg_ℤ (pos half)) z && int_lt z (pos half)

-- a number whose word is even
abbrev pub is_even : ℤ → Bool
is_even z = eqb (unsigned_of z % 2) 0

-- a word whose low 12 bits are zero
abbrev pub is_upper : ℕ → Bool
is_upper n = ltb n (2 ^ 32) && eqb (n % 2 ^ 12) 0

-- the amount of a shift
abbrev pub is_amount : ℤ → Bool
is_amount z = int_le (pos 0) z && int_lt z (pos 32)

-- the immediates of an operation; one that is not here has only registers
abbrev pub takes_immediate : AluOp → ℤ → Bool
takes_immediate Add imm = in_signed (2 ^ 11) imm
takes_immediate Slt imm = in_signed (2 ^ 11) imm
takes_immediate Sltu imm = in_signed (2 ^ 11) imm
takes_immediate Xor imm = in_signed (2 ^ 11) imm
takes_immediate Or imm = in_signed (2 ^ 11) imm
takes_immediate And imm = in_signed (2 ^ 11) imm
takes_immediate Sll imm = is_amount imm
takes_immediate Srl imm = is_amount imm
takes_immediate Sra imm = is_amount imm
takes_immediate _ imm = false

-- the instructions that have a word, by the ranges of their rows
abbrev pub valid : Instr → Bool
valid (Lui rd imm) = is_register rd && is_upper imm
valid (Auipc rd imm) = is_register rd && is_upper imm
valid (Jal rd offset) = is_register rd && in_signed (2 ^ 20) offset && is_even offset
valid (Jalr rd rs1 imm) = is_register rd && is_register rs1 && in_signed (2 ^ 11) imm
valid (Branch op rs1 rs2 offset) = is_register rs1 && is_register rs2 && in_signed (2 ^ 12) offset && is_even offset
valid (Load op rd rs1 imm) = is_register rd && is_register rs1 && in_signed (2 ^ 11) imm
valid (Store op rs1 rs2 imm) = is_register rs1 && is_register rs2 && in_signed (2 ^ 11) imm
valid (AluImm op rd rs1 imm) = is_register rd && is_register rs1 && takes_immediate op imm
valid (Alu op rd rs1 rs2) = is_register rd && is_register rs1 && is_register rs2
valid Fence = true
valid Ecall = true
valid Ebreak = true
