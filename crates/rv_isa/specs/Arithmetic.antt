-- What the arithmetic instructions put into rd, and when a branch is taken. a is rs1, b is rs2 or the immediate.
use Rattle.std.specs.Prelude.{ℕ, ◌+◌, ◌-◌, ◌*◌, ◌/◌, ◌%◌, ◌^◌, Bool, not, cond, ltb, leb, eqb, pos, ◌*ℤ◌, bit_and, bit_or, bit_xor, int_lt, int_le, int_div, int_rem}
use Rattle.std.specs.Int.{w64, cast_unsigned}
use lib.Signed.{shr_z}
use Rattle.rv_isa.specs.declared.instr.AluOp.{AluOp}
use Rattle.rv_isa.specs.declared.instr.AluOp.TheVariants.{Add, Sub, Sll, Slt, Sltu, Xor, Srl, Sra, Or, And, Mul, Mulh, Mulhsu, Mulhu, Div, Divu, Rem, Remu}
use Rattle.rv_isa.specs.declared.instr.BranchOp.{BranchOp}
use Rattle.rv_isa.specs.declared.instr.BranchOp.TheVariants.{Beq, Bne, Blt, Bge, Bltu, Bgeu}
use Rattle.rv_isa.specs.Words.{signed_of, unsigned_of, bit}

abbrev pub alu_of : AluOp → ℕ → ℕ → ℕ
alu_of Add a b = (a + b) % 2 ^ 32
alu_of Sub a b = (a + (2 ^ 32 - b)) % 2 ^ 32
alu_of Sll a b = a * 2 ^ (b % 32) % 2 ^ 32
alu_of Slt a b = bit (int_lt (signed_of a) (signed_of b))
alu_of Sltu a b = bit (ltb a b)
alu_of Xor a b = bit_xor a b
alu_of Srl a b = a / 2 ^ (b % 32)
alu_of Sra a b = unsigned_of (shr_z (signed_of a) (2 ^ (b % 32)))
alu_of Or a b = bit_or a b
alu_of And a b = bit_and a b
alu_of Mul a b = a * b % 2 ^ 32
alu_of Mulh a b = cast_unsigned w64 (signed_of a *ℤ signed_of b) / 2 ^ 32
alu_of Mulhsu a b = cast_unsigned w64 (signed_of a *ℤ pos b) / 2 ^ 32
alu_of Mulhu a b = a * b / 2 ^ 32
alu_of Div a b = cond (eqb b 0) (2 ^ 32 - 1) (unsigned_of (int_div (signed_of a) (signed_of b)))
alu_of Divu a b = cond (eqb b 0) (2 ^ 32 - 1) (a / b)
alu_of Rem a b = cond (eqb b 0) a (unsigned_of (int_rem (signed_of a) (signed_of b)))
alu_of Remu a b = cond (eqb b 0) a (a % b)

abbrev pub taken_of : BranchOp → ℕ → ℕ → Bool
taken_of Beq a b = eqb a b
taken_of Bne a b = not (eqb a b)
taken_of Blt a b = int_lt (signed_of a) (signed_of b)
taken_of Bge a b = int_le (signed_of b) (signed_of a)
taken_of Bltu a b = ltb a b
taken_of Bgeu a b = leb b a
