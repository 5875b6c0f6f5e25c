use Rattle.std.proofs.Common.{◌∙◌, ap, nat_abs}
use Rattle.std.proofs.lemmas.Int.{to_z-of_z}
use Rattle.rv_isa.proofs.Encoding.{encoded_immediate, encoded_shift}
use Rattle.rv_isa.proofs.encoder.with_immediate.Goals as goal

pub returns-in-Sll : goal.returns-in-Sll
returns-in-Sll c =
    let w = c.r_type.ensures in
    let amount = w.rs2 ∙ ap nat_abs (to_z-of_z _ _ c.ranges.imm) in
    encoded_shift _ _ _ _ _ _ _ w.opcode w.funct3 w.funct7 c.register_functs-funct3.ensures.op c.requires.imm_in c.in-Sll.is w.rd w.rs1 amount

pub returns-in_default : goal.returns-in_default
returns-in_default c =
    let functs = c.register_functs-funct3 in
    let w = c.i_type.ensures in
    let other = c.in_default in
    let imm = w.imm ∙ to_z-of_z _ _ c.ranges.imm in
    encoded_immediate _ _ functs.result.1 _ _ _ _ w.opcode w.funct3 functs.ensures.op c.requires.imm_in other.not-Sll other.not-Srl other.not-Sra w.rd w.rs1 imm
