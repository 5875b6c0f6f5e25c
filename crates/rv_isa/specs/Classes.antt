-- The rows of one opcode, by their other fields: what the decoder's parts answer.
use Rattle.std.specs.Prelude.{ℕ, cond, ◌&&◌, eqb, Option, Some, None}
use Rattle.rv_isa.specs.declared.instr.AluOp.{AluOp}
use Rattle.rv_isa.specs.declared.instr.AluOp.TheVariants.{Add, Sub, Sll, Slt, Sltu, Xor, Srl, Sra, Or, And, Mul, Mulh, Mulhsu, Mulhu, Div, Divu, Rem, Remu}
use Rattle.rv_isa.specs.declared.instr.BranchOp.{BranchOp}
use Rattle.rv_isa.specs.declared.instr.BranchOp.TheVariants.{Beq, Bne, Blt, Bge, Bltu, Bgeu}
use Rattle.rv_isa.specs.declared.instr.LoadOp.{LoadOp}
use Rattle.rv_isa.specs.declared.instr.LoadOp.TheVariants.{Lb, Lh, Lw, Lbu, Lhu}
use Rattle.rv_isa.specs.declared.instr.StoreOp.{StoreOp}
use Rattle.rv_isa.specs.declared.instr.StoreOp.TheVariants.{Sb, Sh, Sw}

abbrev pub branch_op_of : ℕ → Option BranchOp
branch_op_of f =
    cond (eqb f 0) (Some Beq)
    (cond (eqb f 1) (Some Bne) (cond (eqb f 4) (Some Blt) (cond (eqb f 5) (Some Bge) (cond (eqb f 6) (Some Bltu) (cond (eqb f 7) (Some Bgeu) None)))))

abbrev pub load_op_of : ℕ → Option LoadOp
load_op_of f =
    cond (eqb f 0) (Some Lb) (cond (eqb f 1) (Some Lh) (cond (eqb f 2) (Some Lw) (cond (eqb f 4) (Some Lbu) (cond (eqb f 5) (Some Lhu) None))))

abbrev pub store_op_of : ℕ → Option StoreOp
store_op_of f = cond (eqb f 0) (Some Sb) (cond (eqb f 1) (Some Sh) (cond (eqb f 2) (Some Sw) None))

-- the operation of an instruction on two registers, by funct3 where funct7 is 0, 32 or 1
abbrev pub plain_op_of : ℕ → Option AluOp
plain_op_of f =
    cond (eqb f 0) (Some Add)
    (cond (eqb f 1) (Some Sll)
    (cond (eqb f 2) (Some Slt)
    (cond (eqb f 3) (Some Sltu) (cond (eqb f 4) (Some Xor) (cond (eqb f 5) (Some Srl) (cond (eqb f 6) (Some Or) (cond (eqb f 7) (Some And) None)))))))

abbrev pub other_op_of : ℕ → Option AluOp
other_op_of f = cond (eqb f 0) (Some Sub) (cond (eqb f 5) (Some Sra) None)

abbrev pub product_op_of : ℕ → Option AluOp
product_op_of f =
    cond (eqb f 0) (Some Mul)
    (cond (eqb f 1) (Some Mulh)
    (cond (eqb f 2) (Some Mulhsu)
    (cond (eqb f 3) (Some Mulhu) (cond (eqb f 4) (Some Div) (cond (eqb f 5) (Some Divu) (cond (eqb f 6) (Some Rem) (cond (eqb f 7) (Some Remu) None)))))))

abbrev pub register_op_of : ℕ → ℕ → Option AluOp
register_op_of f7 f = cond (eqb f7 0) (plain_op_of f) (cond (eqb f7 32) (other_op_of f) (cond (eqb f7 1) (product_op_of f) None))

-- the operation of an instruction with an immediate, and of a shift by an amount
abbrev pub immediate_op_of : ℕ → Option AluOp
immediate_op_of f =
    cond (eqb f 0) (Some Add)
    (cond (eqb f 2) (Some Slt) (cond (eqb f 3) (Some Sltu) (cond (eqb f 4) (Some Xor) (cond (eqb f 6) (Some Or) (cond (eqb f 7) (Some And) None)))))

abbrev pub shift_op_of : ℕ → ℕ → Option AluOp
shift_op_of f f7 =
    cond (eqb f 1 && eqb f7 0) (Some Sll) (cond (eqb f 5 && eqb f7 0) (Some Srl) (cond (eqb f 5 && eqb f7 32) (Some Sra) None))
