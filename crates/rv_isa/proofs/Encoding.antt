-- What a word with the fields of an instruction decodes to.
use Rattle.std.proofs.Common.{◌≡◌, ℕ, ℤ, eqb, cond, ◌≢◌, refl, ◌∙◌, Some, None, pos, negsuc, nat_abs, option_map, IsTrue, arith, ◌⊎◌}
use Rattle.std.proofs.lemmas.Bool.Decides.{nat_tests}
use Rattle.rv_isa.specs.declared.instr.AluOp.{AluOp}
use Rattle.rv_isa.specs.declared.instr.AluOp.TheVariants.{Add, Sll, Slt, Sltu, Xor, Srl, Sra, Or, And}
use Rattle.rv_isa.specs.declared.instr.BranchOp.{BranchOp}
use Rattle.rv_isa.specs.declared.instr.LoadOp.{LoadOp}
use Rattle.rv_isa.specs.declared.instr.StoreOp.{StoreOp}
use Rattle.rv_isa.specs.declared.instr.Instr.TheVariants.{Lui, Auipc, Jal, Jalr, Branch, Load, Store, AluImm, Alu, Fence, Ecall, Ebreak}
use Rattle.rv_isa.specs.Rows.{rows, fits, rd, rs1, rs2, imm_i, imm_s, imm_b, imm_u, imm_j, opcode, funct3, funct7, decode_of}
use Rattle.rv_isa.specs.Classes.{branch_op_of, load_op_of, store_op_of, register_op_of, immediate_op_of, shift_op_of}
use Rattle.rv_isa.specs.Encoding.{takes_immediate}
use Rattle.rv_isa.proofs.Table.{decode_lui}
use Rattle.rv_isa.proofs.Classes.{decode_auipc, decode_jal, decode_jalr, decode_branch, decode_load, decode_store, decode_registers, decode_immediates, or_shift}

pub encoded_lui : (w d n : ℕ) → opcode w ≡ 0b0110111 → rd w ≡ d → imm_u w ≡ n → decode_of w ≡ Some (Lui d n)
encoded_lui w d n e p q = decode_lui w e ∙ (λ i. Some (Lui (p i) (q i)))

pub encoded_auipc : (w d n : ℕ) → opcode w ≡ 0b0010111 → rd w ≡ d → imm_u w ≡ n → decode_of w ≡ Some (Auipc d n)
encoded_auipc w d n e p q = decode_auipc w e ∙ (λ i. Some (Auipc (p i) (q i)))

pub encoded_jal : (w d : ℕ) (z : ℤ) → opcode w ≡ 0b1101111 → rd w ≡ d → imm_j w ≡ z → decode_of w ≡ Some (Jal d z)
encoded_jal w d z e p q = decode_jal w e ∙ (λ i. Some (Jal (p i) (q i)))

pub encoded_jalr : (w d a : ℕ) (z : ℤ) → opcode w ≡ 0b1100111 → funct3 w ≡ 0 → rd w ≡ d → rs1 w ≡ a → imm_i w ≡ z → decode_of w ≡ Some (Jalr d a z)
encoded_jalr w d a z e f p q r = decode_jalr w e ∙ (λ i. cond (eqb (f i) 0) (Some (Jalr (p i) (q i) (r i))) None)

pub encoded_branch : (w f a b : ℕ) (op : BranchOp) (z : ℤ) → opcode w ≡ 0b1100011 → funct3 w ≡ f → branch_op_of f ≡ Some op
    → rs1 w ≡ a → rs2 w ≡ b → imm_b w ≡ z → decode_of w ≡ Some (Branch op a b z)
encoded_branch w f a b op z e g h p q r =
    decode_branch w e ∙ (λ i. option_map (λ op. Branch op (p i) (q i) (r i)) (branch_op_of (g i))) ∙ (λ i. option_map (λ op. Branch op a b z) (h i))

pub encoded_load : (w f d a : ℕ) (op : LoadOp) (z : ℤ) → opcode w ≡ 0b0000011 → funct3 w ≡ f → load_op_of f ≡ Some op
    → rd w ≡ d → rs1 w ≡ a → imm_i w ≡ z → decode_of w ≡ Some (Load op d a z)
encoded_load w f d a op z e g h p q r =
    decode_load w e ∙ (λ i. option_map (λ op. Load op (p i) (q i) (r i)) (load_op_of (g i))) ∙ (λ i. option_map (λ op. Load op d a z) (h i))

pub encoded_store : (w f a b : ℕ) (op : StoreOp) (z : ℤ) → opcode w ≡ 0b0100011 → funct3 w ≡ f → store_op_of f ≡ Some op
    → rs1 w ≡ a → rs2 w ≡ b → imm_s w ≡ z → decode_of w ≡ Some (Store op a b z)
encoded_store w f a b op z e g h p q r =
    decode_store w e ∙ (λ i. option_map (λ op. Store op (p i) (q i) (r i)) (store_op_of (g i))) ∙ (λ i. option_map (λ op. Store op a b z) (h i))

pub encoded_alu : (w f f7 d a b : ℕ) (op : AluOp) → opcode w ≡ 0b0110011 → funct3 w ≡ f → funct7 w ≡ f7 → register_op_of f7 f ≡ Some op
    → rd w ≡ d → rs1 w ≡ a → rs2 w ≡ b → decode_of w ≡ Some (Alu op d a b)
encoded_alu w f f7 d a b op e g g7 h p q r =
    decode_registers w e
    ∙ (λ i. option_map (λ op. Alu op (p i) (q i) (r i)) (register_op_of (g7 i) (g i)))
    ∙ (λ i. option_map (λ op. Alu op d a b) (h i))

pub fence : decode_of 0x0000000F ≡ Some Fence
unfolding decode_of fits rows
fence = refl

pub ecall : decode_of 0x00000073 ≡ Some Ecall
unfolding decode_of fits rows
ecall = refl

pub ebreak : decode_of 0x00100073 ≡ Some Ebreak
unfolding decode_of fits rows
ebreak = refl

-- the rows without an operation
pub ruleset encodings = (encoded_lui, encoded_auipc, encoded_jal, encoded_jalr, fence, ecall, ebreak)

-- an operation's row with an immediate has the funct3 of its row on registers, and a shift's the funct7 too
immediate_back : (op : AluOp) (f f7 : ℕ) (z : ℤ) → register_op_of f7 f ≡ Some op → IsTrue (takes_immediate op z) → op ≢ Sll → op ≢ Srl → op ≢ Sra
    → immediate_op_of f ≡ Some op
immediate_back Add f f7 z e h p q r = grind (arith, nat_tests)
immediate_back Slt f f7 z e h p q r = grind (arith, nat_tests)
immediate_back Sltu f f7 z e h p q r = grind (arith, nat_tests)
immediate_back Xor f f7 z e h p q r = grind (arith, nat_tests)
immediate_back Or f f7 z e h p q r = grind (arith, nat_tests)
immediate_back And f f7 z e h p q r = grind (arith, nat_tests)
immediate_back Sll f f7 z e h p q r = absurd (p refl)
immediate_back Srl f f7 z e h p q r = absurd (q refl)
immediate_back Sra f f7 z e h p q r = absurd (r refl)
immediate_back _ f f7 z e h p q r = absurd (cc)

shift_back : (f f7 w : ℕ) (op : AluOp) → register_op_of f7 f ≡ Some op → (op ≡ Sll) ⊎ ((op ≡ Srl) ⊎ (op ≡ Sra))
    → or_shift (immediate_op_of f) (shift_op_of f f7) w ≡ Some (AluImm op (rd w) (rs1 w) (pos (rs2 w)))
shift_back f f7 w op e h = grind (arith, nat_tests)

amount_back : (op : AluOp) (z : ℤ) → IsTrue (takes_immediate op z) → (op ≡ Sll) ⊎ ((op ≡ Srl) ⊎ (op ≡ Sra)) → pos (nat_abs z) ≡ z
amount_back op (pos n) t h = refl
amount_back op (negsuc n) t h = grind arith

pub encoded_immediate : (w f f7 d a : ℕ) (op : AluOp) (z : ℤ) → opcode w ≡ 0b0010011 → funct3 w ≡ f → register_op_of f7 f ≡ Some op
    → IsTrue (takes_immediate op z) → op ≢ Sll → op ≢ Srl → op ≢ Sra → rd w ≡ d → rs1 w ≡ a → imm_i w ≡ z → decode_of w ≡ Some (AluImm op d a z)
encoded_immediate w f f7 d a op z e g h t x y s p q r =
    decode_immediates w e
    ∙ (λ i. or_shift (immediate_op_of (g i)) (shift_op_of (g i) (funct7 w)) w)
    ∙ (λ i. or_shift (immediate_back op f f7 z h t x y s i) (shift_op_of f (funct7 w)) w)
    ∙ (λ i. Some (AluImm op (p i) (q i) (r i)))

pub encoded_shift : (w f f7 d a : ℕ) (op : AluOp) (z : ℤ) → opcode w ≡ 0b0010011 → funct3 w ≡ f → funct7 w ≡ f7 → register_op_of f7 f ≡ Some op
    → IsTrue (takes_immediate op z) → (op ≡ Sll) ⊎ ((op ≡ Srl) ⊎ (op ≡ Sra)) → rd w ≡ d → rs1 w ≡ a → rs2 w ≡ nat_abs z
    → decode_of w ≡ Some (AluImm op d a z)
encoded_shift w f f7 d a op z e g g7 h t s p q r =
    decode_immediates w e
    ∙ (λ i. or_shift (immediate_op_of (g i)) (shift_op_of (g i) (g7 i)) w)
    ∙ shift_back f f7 w op h s
    ∙ (λ i. Some (AluImm op (p i) (q i) (pos (r i))))
    ∙ (λ i. Some (AluImm op d a (amount_back op z t s i)))
