-- One step of the machine.
use Rattle.std.specs.Prelude.{ℕ, ◌+◌, ◌-◌, ◌*◌, ◌/◌, ◌%◌, ◌^◌, cond, leb, ltb, eqb, List, [], ◌∷◌, ◌++◌, length, take, drop, Bool, not, find, Option, Some, None, Result, Ok, Err}
use Rattle.std.specs.Int.{Width, w8, w16, w32, byte_len, to_le_bytes, from_le_bytes}
use Rattle.std.specs.List.{flat_map}
use Rattle.rv_isa.specs.declared.instr.LoadOp.{LoadOp}
use Rattle.rv_isa.specs.declared.instr.LoadOp.TheVariants.{Lb, Lh, Lw, Lbu, Lhu}
use Rattle.rv_isa.specs.declared.instr.StoreOp.{StoreOp}
use Rattle.rv_isa.specs.declared.instr.StoreOp.TheVariants.{Sb, Sh, Sw}
use Rattle.rv_isa.specs.declared.instr.Instr.{Instr}
use Rattle.rv_isa.specs.declared.instr.Instr.TheVariants.{Lui, Auipc, Jal, Jalr, Branch, Load, Store, AluImm, Alu, Fence, Ecall, Ebreak}
use Rattle.rv_isa.specs.declared.fault.Fault.{Fault}
use Rattle.rv_isa.specs.declared.fault.Fault.TheVariants.{Illegal, BadAddress, Misaligned, BadTarget, Break, InputEnd}
use Rattle.host_calls.specs.declared.call.Call.{Call}
use Rattle.host_calls.specs.declared.call.Call.TheVariants.{Halt, Read, Commit, Assume}
use Rattle.rv_step.specs.declared.act.Act.{Act}
use Rattle.rv_step.specs.declared.act.Act.TheVariants.{Sets, Loads, Stores, Does, Faults}
use Rattle.rv_isa.specs.Words.{unsigned_of, plus}
use Rattle.rv_isa.specs.Registers.{register, with_register}
use Rattle.host_calls.specs.declared.call.AssumeCall.{AssumeCall}
use Rattle.rv_isa.specs.Arithmetic.{alu_of, taken_of}
use Rattle.page_core.specs.Memory.{top, bytes, put, pages_of, ascending, without}
use Rattle.rv_isa.specs.Rows.{decode_of}
use Rattle.host_calls.specs.Calls.{read_call_of, ranges_of, takes, cost_of}
use Rattle.page_core.specs.declared.sizes.TheConstants.{REGISTER_PAGE}

-- where a run is: its pc, its registers, its memory, the words still to come, and what it has said so far
pub record State : Type 0 where
  pub pc : ℕ
  pub x : List ℕ
  pub memory : ℕ → ℕ
  pub words : List ℕ
  pub journal : List ℕ
  pub calls : List AssumeCall

-- what a step from a state does
pub data Event : Type 0 where
  Went : State → Event
  Halted : ℕ → Event
  Faulted : Fault → Event

-- ---- what an instruction does, by the pc and the registers alone: an `Act`
-- how wide what a load reads is, and what a store writes
abbrev pub load_width : LoadOp → Width
load_width Lb = w8
load_width Lh = w16
load_width Lw = w32
load_width Lbu = w8
load_width Lhu = w16

abbrev pub store_width : StoreOp → Width
store_width Sb = w8
store_width Sh = w16
store_width Sw = w32

-- the act, at an address that is aligned and below the register page
abbrev pub at_address : ℕ → ℕ → Act → Act
at_address width a act = cond (eqb (a % width) 0) (cond (ltb a top) act (Faults (BadAddress a))) (Faults (Misaligned a))

abbrev pub jump : ℕ → ℕ → ℕ → Act
jump target rd v = cond (eqb (target % 4) 0) (Sets target rd v) (Faults (BadTarget target))

abbrev pub call_act : Result Call Fault → Act
call_act (Ok call) = Does call
call_act (Err fault) = Faults fault

unfoldable pub act_of : Instr → ℕ → List ℕ → Act
act_of (Lui rd imm) pc x = Sets (pc + 4) rd imm
act_of (Auipc rd imm) pc x = Sets (pc + 4) rd ((pc + imm) % 2 ^ 32)
act_of (Jal rd offset) pc x = jump (plus pc offset) rd (pc + 4)
act_of (Jalr rd rs1 imm) pc x = jump (plus (register x rs1) imm / 2 * 2) rd (pc + 4)
act_of (Branch op rs1 rs2 offset) pc x =
    cond (taken_of op (register x rs1) (register x rs2)) (jump (plus pc offset) 0 0) (Sets (pc + 4) 0 0)
act_of (Load op rd rs1 imm) pc x =
    let a = plus (register x rs1) imm in at_address (byte_len (load_width op)) a (Loads op rd a)
act_of (Store op rs1 rs2 imm) pc x =
    let a = plus (register x rs1) imm in at_address (byte_len (store_width op)) a (Stores op a (register x rs2))
act_of (AluImm op rd rs1 imm) pc x = Sets (pc + 4) rd (alu_of op (register x rs1) (unsigned_of imm))
act_of (Alu op rd rs1 rs2) pc x = Sets (pc + 4) rd (alu_of op (register x rs1) (register x rs2))
act_of Fence pc x = Sets (pc + 4) 0 0
act_of Ecall pc x = call_act (read_call_of x)
act_of Ebreak pc x = Faults Break

-- the act of the fetched word
unfoldable pub act_of_word : ℕ → ℕ → List ℕ → Act
act_of_word word pc x = elim (decode_of word) [ Some instr ↦ act_of instr pc x | None ↦ Faults (Illegal word) ]

-- a call that takes more words than are left faults
abbrev pub act_with_words : ℕ → Act → Act
act_with_words left (Does call) = cond (leb (takes call) left) (Does call) (Faults InputEnd)
act_with_words left act = act

-- the act of a state: fetch, decode, test
unfoldable pub act : State → Act
act s =
    cond (leb top s.pc) (Faults (BadAddress s.pc))
    (act_with_words (length s.words) (act_of_word (from_le_bytes w32 (bytes s.memory s.pc 4)) s.pc s.x))

-- ---- doing it
-- a number of k bits as a word, its sign extended; half is 2 ^ (k - 1)
abbrev pub sign_extension : ℕ → ℕ → ℕ
sign_extension half n = cond (ltb n half) n (n + (2 ^ 32 - 2 * half))

abbrev pub loaded_word : LoadOp → ℕ → ℕ
loaded_word Lb n = sign_extension (2 ^ 7) n
loaded_word Lh n = sign_extension (2 ^ 15) n
loaded_word Lw n = n
loaded_word Lbu n = n
loaded_word Lhu n = n

-- the next step, with a value in a register
abbrev pub next : State → ℕ → ℕ → State
next s rd v = record s { pc = s.pc + 4; x = with_register s.x rd v }

unfoldable pub call_event : Call → State → Event
call_event (Halt code) s = Halted code
call_event (Read pointer count) s =
    Went (next (record s { memory = put s.memory pointer (flat_map (to_le_bytes w32) (take count s.words)); words = drop count s.words }) 10 count)
call_event (Commit pointer count) s = Went (next (record s { journal = s.journal ++ bytes s.memory pointer count }) 10 count)
call_event (Assume image journal) s =
    Went (next (record s { calls = s.calls ++ (record { image = bytes s.memory image 32; journal = bytes s.memory journal 32 } ∷ []) }) 10 0)

unfoldable pub act_event : Act → State → Event
act_event (Sets pc rd v) s = Went (record s { pc = pc; x = with_register s.x rd v })
act_event (Loads op rd a) s =
    let w = load_width op in Went (next s rd (loaded_word op (from_le_bytes w (bytes s.memory a (byte_len w)))))
act_event (Stores op a v) s = Went (next (record s { memory = put s.memory a (to_le_bytes (store_width op) v) }) 0 0)
act_event (Does call) s = call_event call s
act_event (Faults fault) s = Faulted fault

-- ---- the step, its footprint and its cost
unfoldable pub step_of : State → Event
step_of s = act_event (act s) s

-- the ranges of data that an act reads or writes
abbrev pub data_of : Act → List (ℕ × ℕ)
data_of (Sets pc rd v) = []
data_of (Loads op rd a) = (a, byte_len (load_width op)) ∷ []
data_of (Stores op a v) = (a, byte_len (store_width op)) ∷ []
data_of (Does call) = ranges_of call
data_of (Faults fault) = []

unfoldable pub pages_of_all : List (ℕ × ℕ) → List ℕ
pages_of_all [] = []
pages_of_all (r ∷ rs) = pages_of r.0 r.1 ++ pages_of_all rs

-- the footprint of an act at a pc: the register page, the code page unless the fetch faults, and the data pages
-- ascending, each page once
abbrev pub foot_at : ℕ → Act → List ℕ
foot_at pc a =
    cond (leb top pc) (REGISTER_PAGE ∷ [])
    (REGISTER_PAGE ∷ pc / 1024 ∷ ascending (without (pc / 1024) (pages_of_all (data_of a))))

unfoldable pub foot_of : State → List ℕ
foot_of s = foot_at s.pc (act s)

abbrev pub cost_of_act : Act → ℕ
cost_of_act (Sets pc rd v) = 1
cost_of_act (Loads op rd a) = 1
cost_of_act (Stores op a v) = 1
cost_of_act (Does call) = cost_of call
cost_of_act (Faults fault) = 1

unfoldable pub step_cost : State → ℕ
step_cost s = cost_of_act (act s)

-- a memory with the words of x1 to x31 in the register page
unfoldable pub full_of : (ℕ → ℕ) → List ℕ → ℕ → ℕ
full_of m x = put m (top + 4) (flat_map (to_le_bytes w32) (drop 1 x))

abbrev pub full : State → ℕ → ℕ
full s = full_of s.memory s.x

-- the first page that is not open
abbrev pub first_closed : (ℕ → Bool) → List ℕ → Option ℕ
first_closed opens pages = find (λ p. not (opens p)) pages
