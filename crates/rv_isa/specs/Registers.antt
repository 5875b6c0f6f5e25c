-- The 32 registers, as a list of words. x0 is zero.
use Rattle.std.specs.Prelude.{◌≡◌, ℕ, zero, suc, ◌%◌, ◌^◌, ◌<◌, List, length, get_or, set}
use Rattle.rv_isa.specs.declared.instr.Instr.{Instr}
use Rattle.rv_isa.specs.declared.instr.Instr.TheVariants.{Lui, Auipc, Jal, Jalr, Branch, Load, Store, AluImm, Alu, Fence, Ecall, Ebreak}

abbrev pub register : List ℕ → ℕ → ℕ
register x n = get_or x n 0

-- a word in a register; what is written to x0 is lost
abbrev pub with_register : List ℕ → ℕ → ℕ → List ℕ
with_register x zero v = x
with_register x (suc n) v = set x (suc n) (v % 2 ^ 32)

-- 32 registers, x0 zero, each a word
pub record AreRegisters (x : List ℕ) : Type 0 where
  pub size : length x ≡ 32
  pub zero_first : get_or x 0 0 ≡ 0
  pub are_words : (n : ℕ) → get_or x n 0 < 2 ^ 32

-- each register that an instruction names is one of the 32
abbrev pub HasRegisters : Instr → Type 0
HasRegisters (Lui rd imm) = rd < 32
HasRegisters (Auipc rd imm) = rd < 32
HasRegisters (Jal rd offset) = rd < 32
HasRegisters (Jalr rd rs1 imm) = (rd < 32) × (rs1 < 32)
HasRegisters (Branch op rs1 rs2 offset) = (rs1 < 32) × (rs2 < 32)
HasRegisters (Load op rd rs1 imm) = (rd < 32) × (rs1 < 32)
HasRegisters (Store op rs1 rs2 imm) = (rs1 < 32) × (rs2 < 32)
HasRegisters (AluImm op rd rs1 imm) = (rd < 32) × (rs1 < 32)
HasRegisters (Alu op rd rs1 rs2) = (rd < 32) × (rs1 < 32) × (rs2 < 32)
HasRegisters Fence = Unit {0}
HasRegisters Ecall = Unit {0}
HasRegisters Ebreak = Unit {0}
