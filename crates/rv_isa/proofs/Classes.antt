-- The rows of one opcode.
use Rattle.std.proofs.Common.{◌≡◌, ◌≢◌, ℕ, Bool, true, false, cond, ◌&&◌, eqb, refl, ◌∙◌, Option, Some, None, pos, arith, find, option_map}
use Rattle.std.proofs.lemmas.Bool.{ne_eqb}
use Rattle.std.proofs.lemmas.Bool.Decides.{nat_tests}
use Rattle.rv_isa.specs.declared.instr.AluOp.{AluOp}
use Rattle.rv_isa.specs.declared.instr.Instr.{Instr}
use Rattle.rv_isa.specs.declared.instr.Instr.TheVariants.{Auipc, Jal, Jalr, Branch, Load, Store, AluImm, Alu, Fence, Ecall, Ebreak}
use Rattle.rv_isa.specs.Rows.{rows, rd, rs1, rs2, imm_i, imm_s, imm_b, imm_u, imm_j, opcode, funct3, funct7, decode_of, fits}
use Rattle.rv_isa.specs.Classes.{branch_op_of, load_op_of, store_op_of, plain_op_of, other_op_of, product_op_of, register_op_of, immediate_op_of, shift_op_of}
use Rattle.rv_isa.proofs.Table.{decode_at}

and_true : (b : Bool) → b && true ≡ b
and_true true = refl
and_true false = refl

option_map-cond : {A B : Type 0} (f : A → B) (b : Bool) (x y : Option A) → option_map f (cond b x y) ≡ cond b (option_map f x) (option_map f y)
option_map-cond f true x y = refl
option_map-cond f false x y = refl

pub decode_auipc : (w : ℕ) → opcode w ≡ 0b0010111 → decode_of w ≡ Some (Auipc (rd w) (imm_u w))
unfolding rows fits
decode_auipc w e = decode_at w 0b0010111 (funct3 w) (funct7 w) e refl refl

pub decode_jal : (w : ℕ) → opcode w ≡ 0b1101111 → decode_of w ≡ Some (Jal (rd w) (imm_j w))
unfolding rows fits
decode_jal w e = decode_at w 0b1101111 (funct3 w) (funct7 w) e refl refl

pub decode_jalr : (w : ℕ) → opcode w ≡ 0b1100111 → decode_of w ≡ cond (eqb (funct3 w) 0) (Some (Jalr (rd w) (rs1 w) (imm_i w))) None
unfolding rows fits
decode_jalr w e = decode_at w 0b1100111 (funct3 w) (funct7 w) e refl refl ∙ simp (and_true, option_map-cond)

pub decode_branch : (w : ℕ) → opcode w ≡ 0b1100011 → decode_of w ≡ option_map (λ op. Branch op (rs1 w) (rs2 w) (imm_b w)) (branch_op_of (funct3 w))
unfolding rows fits
decode_branch w e = decode_at w 0b1100011 (funct3 w) (funct7 w) e refl refl ∙ simp (and_true, option_map-cond)

pub decode_load : (w : ℕ) → opcode w ≡ 0b0000011 → decode_of w ≡ option_map (λ op. Load op (rd w) (rs1 w) (imm_i w)) (load_op_of (funct3 w))
unfolding rows fits
decode_load w e = decode_at w 0b0000011 (funct3 w) (funct7 w) e refl refl ∙ simp (and_true, option_map-cond)

pub decode_store : (w : ℕ) → opcode w ≡ 0b0100011 → decode_of w ≡ option_map (λ op. Store op (rs1 w) (rs2 w) (imm_s w)) (store_op_of (funct3 w))
unfolding rows fits
decode_store w e = decode_at w 0b0100011 (funct3 w) (funct7 w) e refl refl ∙ simp (and_true, option_map-cond)

and_false : (b : Bool) → b && false ≡ false
and_false true = refl
and_false false = refl

pub decode_plain : (w : ℕ) → opcode w ≡ 0b0110011 → funct7 w ≡ 0 → decode_of w ≡ option_map (λ op. Alu op (rd w) (rs1 w) (rs2 w)) (plain_op_of (funct3 w))
unfolding rows fits
decode_plain w e f = decode_at w 0b0110011 (funct3 w) 0 e refl f ∙ simp (and_true, and_false, option_map-cond)

pub decode_other : (w : ℕ) → opcode w ≡ 0b0110011 → funct7 w ≡ 32 → decode_of w ≡ option_map (λ op. Alu op (rd w) (rs1 w) (rs2 w)) (other_op_of (funct3 w))
unfolding rows fits
decode_other w e f = decode_at w 0b0110011 (funct3 w) 32 e refl f ∙ simp (and_true, and_false, option_map-cond)

pub decode_product : (w : ℕ) → opcode w ≡ 0b0110011 → funct7 w ≡ 1 → decode_of w ≡ option_map (λ op. Alu op (rd w) (rs1 w) (rs2 w)) (product_op_of (funct3 w))
unfolding rows fits
decode_product w e f = decode_at w 0b0110011 (funct3 w) 1 e refl f ∙ simp (and_true, and_false, option_map-cond)

pub decode_no_op : (w : ℕ) → opcode w ≡ 0b0110011 → funct7 w ≢ 0 → funct7 w ≢ 32 → funct7 w ≢ 1 → decode_of w ≡ None
unfolding rows fits
decode_no_op w e f g h =
    let f' : eqb (funct7 w) 0 ≡ false = ne_eqb _ _ f in
    let g' : eqb (funct7 w) 32 ≡ false = ne_eqb _ _ g in
    let h' : eqb (funct7 w) 1 ≡ false = ne_eqb _ _ h in
    decode_at w 0b0110011 (funct3 w) (funct7 w) e refl refl ∙ simp (f', g', h', and_false)

pub decode_fence : (w : ℕ) → opcode w ≡ 0b0001111 → decode_of w ≡ cond (eqb (funct3 w) 0) (Some Fence) None
unfolding rows fits
decode_fence w e = decode_at w 0b0001111 (funct3 w) (funct7 w) e refl refl ∙ simp (and_true, option_map-cond)

pub decode_system : (w : ℕ) → opcode w ≡ 0b1110011 → decode_of w ≡ cond (eqb w 0x00000073) (Some Ecall) (cond (eqb w 0x00100073) (Some Ebreak) None)
unfolding rows fits
decode_system w e = decode_at w 0b1110011 (funct3 w) (funct7 w) e refl refl ∙ simp (option_map-cond)

none : (w op f3 f7 : ℕ) → eqb op 0b0110111 ≡ false → eqb op 0b0010111 ≡ false → eqb op 0b1101111 ≡ false → eqb op 0b1100111 ≡ false
    → eqb op 0b1100011 ≡ false → eqb op 0b0000011 ≡ false → eqb op 0b0100011 ≡ false → eqb op 0b0010011 ≡ false → eqb op 0b0110011 ≡ false
    → eqb op 0b0001111 ≡ false → eqb op 0b1110011 ≡ false → option_map (λ r. r.instr w) (find (fits op f3 f7 w) rows) ≡ None
unfolding rows fits
none w op f3 f7 a b c d e f g h i j k = simp (a, b, c, d, e, f, g, h, i, j, k)

pub decode_none : (w : ℕ) → opcode w ≢ 0b0110111 → opcode w ≢ 0b0010111 → opcode w ≢ 0b1101111 → opcode w ≢ 0b1100111 → opcode w ≢ 0b1100011
    → opcode w ≢ 0b0000011 → opcode w ≢ 0b0100011 → opcode w ≢ 0b0010011 → opcode w ≢ 0b0110011 → opcode w ≢ 0b0001111 → opcode w ≢ 0b1110011
    → decode_of w ≡ None
decode_none w a b c d e f g h i j k =
    decode_at w (opcode w) (funct3 w) (funct7 w) refl refl refl
    ∙ none w (opcode w) (funct3 w) (funct7 w) (ne_eqb _ _ a) (ne_eqb _ _ b) (ne_eqb _ _ c) (ne_eqb _ _ d) (ne_eqb _ _ e) (ne_eqb _ _ f)
    (ne_eqb _ _ g) (ne_eqb _ _ h) (ne_eqb _ _ i) (ne_eqb _ _ j) (ne_eqb _ _ k)

-- all the rows on two registers
pub decode_registers : (w : ℕ) → opcode w ≡ 0b0110011 → decode_of w ≡ option_map (λ op. Alu op (rd w) (rs1 w) (rs2 w)) (register_op_of (funct7 w) (funct3 w))
decode_registers w e = go (eqb (funct7 w) 0) (eqb (funct7 w) 32) (eqb (funct7 w) 1) refl refl refl
  where
    is : (m n : ℕ) → eqb m n ≡ true → m ≡ n
    is m n h = grind (arith, nat_tests)

    is_not : (m n : ℕ) → eqb m n ≡ false → m ≢ n
    is_not m n h = grind (arith, nat_tests)

    go : (a b c : Bool) → eqb (funct7 w) 0 ≡ a → eqb (funct7 w) 32 ≡ b → eqb (funct7 w) 1 ≡ c
        → decode_of w
        ≡ option_map (λ op. Alu op (rd w) (rs1 w) (rs2 w))
        (cond a (plain_op_of (funct3 w)) (cond b (other_op_of (funct3 w)) (cond c (product_op_of (funct3 w)) None)))
    go true b c f g h = decode_plain w e (is _ _ f)
    go false true c f g h = decode_other w e (is _ _ g)
    go false false true f g h = decode_product w e (is _ _ h)
    go false false false f g h = decode_no_op w e (is_not _ _ f) (is_not _ _ g) (is_not _ _ h)

-- the rows with an immediate, and the shifts
abbrev pub or_shift : Option AluOp → Option AluOp → ℕ → Option Instr
or_shift (Some op) shift w = Some (AluImm op (rd w) (rs1 w) (imm_i w))
or_shift None shift w = option_map (λ op. AluImm op (rd w) (rs1 w) (pos (rs2 w))) shift

or_shift-cond : (b : Bool) (op : AluOp) (o shift : Option AluOp) (w : ℕ)
    → or_shift (cond b (Some op) o) shift w ≡ cond b (Some (AluImm op (rd w) (rs1 w) (imm_i w))) (or_shift o shift w)
or_shift-cond true op o shift w = refl
or_shift-cond false op o shift w = refl

pub decode_immediates : (w : ℕ) → opcode w ≡ 0b0010011 → decode_of w ≡ or_shift (immediate_op_of (funct3 w)) (shift_op_of (funct3 w) (funct7 w)) w
unfolding rows fits
decode_immediates w e =
    decode_at w 0b0010011 (funct3 w) (funct7 w) e refl refl ∙ simp (and_true, option_map-cond, or_shift-cond)
