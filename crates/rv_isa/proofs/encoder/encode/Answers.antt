use Rattle.std.proofs.Common.{rules, ◌∙◌, FitsSigned, w32}
use Rattle.std.proofs.lemmas.Int.{to_z-of_z}
use Rattle.rv_isa.proofs.Encoding.{encoded_branch, encoded_load, encoded_store, encoded_alu}
use Rattle.rv_isa.proofs.encoder.encode.Goals as goal

pub returns-in-Branch-clause-decodes : goal.returns-in-Branch-clause-decodes
returns-in-Branch-clause-decodes c =
    let w = c.b_type.ensures in
    let fits : FitsSigned w32 c.in-Branch.offset = search rules in
    rw c.in-Branch.is (encoded_branch _ _ _ _ _ _ w.opcode w.funct3 c.branch_funct3.ensures.op w.rs1 w.rs2 (w.imm ∙ to_z-of_z _ _ fits))

pub returns-in-Load-clause-decodes : goal.returns-in-Load-clause-decodes
returns-in-Load-clause-decodes c =
    let w = c.i_type-in-Load.ensures in
    let fits : FitsSigned w32 c.in-Load.imm = search rules in
    rw c.in-Load.is (encoded_load _ _ _ _ _ _ w.opcode w.funct3 c.load_funct3.ensures.op w.rd w.rs1 (w.imm ∙ to_z-of_z _ _ fits))

pub returns-in-Store-clause-decodes : goal.returns-in-Store-clause-decodes
returns-in-Store-clause-decodes c =
    let w = c.s_type.ensures in
    let fits : FitsSigned w32 c.in-Store.imm = search rules in
    rw c.in-Store.is (encoded_store _ _ _ _ _ _ w.opcode w.funct3 c.store_funct3.ensures.op w.rs1 w.rs2 (w.imm ∙ to_z-of_z _ _ fits))

pub returns-in-Alu-clause-decodes : goal.returns-in-Alu-clause-decodes
returns-in-Alu-clause-decodes c =
    let w = c.r_type.ensures in
    rw c.in-Alu.is (encoded_alu _ _ _ _ _ _ _ w.opcode w.funct3 w.funct7 c.register_functs-funct3.ensures.op w.rd w.rs1 w.rs2)
