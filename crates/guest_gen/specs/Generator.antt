-- The generator's guest and its input words, for a size of 1 to 1,000,000 words.
use Rattle.std.specs.Prelude.{ℕ, ◌≤◌, zero, suc, ◌+◌, ◌*◌, ◌/◌, ◌%◌, ◌^◌, ℤ, pos, neg_ℤ, ◌-ℤ◌, int_div, List, [], ◌∷◌, map}
use Rattle.std.specs.List.{range_with_len}
use Rattle.rv_isa.specs.Words.{twos_complement, unsigned_of}
use Rattle.rv_isa.specs.declared.instr.AluOp.TheVariants.{Add, Sll, Srl, Mul}
use Rattle.rv_isa.specs.declared.instr.BranchOp.TheVariants.{Bne}
use Rattle.rv_isa.specs.declared.instr.LoadOp.TheVariants.{Lw}
use Rattle.rv_isa.specs.declared.instr.StoreOp.TheVariants.{Sw}
use Rattle.rv_isa.specs.declared.instr.Instr.TheVariants.{Lui, Branch, Load, Store, AluImm, Alu, Ecall}
use Rattle.guest_gen.specs.declared.line.GuestLine.{GuestLine}
use Rattle.guest_gen.specs.declared.line.GuestLine.TheVariants as Line
use Rattle.guest_gen.specs.declared.generator.TheConstants.{SIZE_MAX}
use Rattle.guest_gen.specs.Assembly.{AreValid}

-- ---- the words
-- the state after a state
abbrev pub next_state : ℕ → ℕ
next_state state = (state * 6364136223846793005 + 1442695040888963407) % 2 ^ 64

-- state k; state 0 is the number
abbrev pub nth_state : ℕ → ℕ → ℕ
nth_state number zero = number
nth_state number (suc k) = next_state (nth_state number k)

-- word k is the high half of state k + 1
abbrev pub input_word : ℕ → ℕ → ℕ
input_word number k = nth_state number (suc k) / 2 ^ 32

-- words 0 to size - 1
abbrev pub input_words : ℕ → ℕ → List ℕ
input_words number size = map (input_word number) (range_with_len 0 size)

-- ---- the size, in two immediates
-- the low 12 bits of the size, read as a signed number
abbrev pub low_part : ℕ → ℤ
low_part size = twos_complement (2 ^ 11) (size % 2 ^ 12)

-- what is left of the size, divided by 4,096
abbrev pub high_part : ℕ → ℕ
high_part size = unsigned_of (int_div (pos size -ℤ low_part size) (pos 4096))

-- ---- instructions, with their operands in the order of an assembler's line
abbrev pub lui : ℕ → ℕ → GuestLine
lui rd upper = Line.Instr (Lui rd (upper * 4096))

abbrev pub addi : ℕ → ℕ → ℤ → GuestLine
addi rd rs1 imm = Line.Instr (AluImm Add rd rs1 imm)

abbrev pub slli : ℕ → ℕ → ℤ → GuestLine
slli rd rs1 amount = Line.Instr (AluImm Sll rd rs1 amount)

abbrev pub srli : ℕ → ℕ → ℤ → GuestLine
srli rd rs1 amount = Line.Instr (AluImm Srl rd rs1 amount)

abbrev pub add : ℕ → ℕ → ℕ → GuestLine
add rd rs1 rs2 = Line.Instr (Alu Add rd rs1 rs2)

abbrev pub mul : ℕ → ℕ → ℕ → GuestLine
mul rd rs1 rs2 = Line.Instr (Alu Mul rd rs1 rs2)

-- from the address of rs1 and the offset
abbrev pub lw : ℕ → ℤ → ℕ → GuestLine
lw rd offset rs1 = Line.Instr (Load Lw rd rs1 offset)

-- rs2, to the address of rs1 and the offset
abbrev pub sw : ℕ → ℤ → ℕ → GuestLine
sw rs2 offset rs1 = Line.Instr (Store Sw rs1 rs2 offset)

abbrev pub bne : ℕ → ℕ → ℤ → GuestLine
bne rs1 rs2 offset = Line.Instr (Branch Bne rs1 rs2 offset)

abbrev pub ecall : GuestLine
ecall = Line.Instr Ecall

-- ---- the guest: it reads the words one at a time, and x19 becomes 33 times x19 plus the word, which is also stored at a place that
-- the word's high 12 bits choose; then it commits the four bytes of x19 and halts with 0
abbrev pub generated_guest : ℕ → List GuestLine
generated_guest size =
    lui 8 0x100
    ∷ lui 18 0x200
    ∷ lui 9 (high_part size)
    ∷ addi 9 9 (low_part size)
    ∷ addi 19 0 (pos 0)
    ∷ addi 20 0 (pos 33)
    ∷ addi 17 0 (pos 1)
    ∷ addi 10 8 (pos 0)
    ∷ addi 11 0 (pos 1)
    ∷ ecall
    ∷ lw 5 (pos 0) 8
    ∷ mul 19 19 20
    ∷ add 19 19 5
    ∷ srli 6 5 (pos 20)
    ∷ slli 6 6 (pos 2)
    ∷ add 6 6 18
    ∷ sw 19 (pos 0) 6
    ∷ addi 9 9 (neg_ℤ (pos 1))
    ∷ bne 9 0 (neg_ℤ (pos 48))
    ∷ sw 19 (pos 0) 8
    ∷ addi 17 0 (pos 2)
    ∷ addi 10 8 (pos 0)
    ∷ addi 11 0 (pos 4)
    ∷ ecall
    ∷ addi 17 0 (pos 0)
    ∷ addi 10 0 (pos 0)
    ∷ ecall
    ∷ []

-- its lines are valid at each size
abbrev pub GeneratedGuestIsValid : Type 0
GeneratedGuestIsValid = (size : ℕ) → size ≤ SIZE_MAX → AreValid (generated_guest size)
