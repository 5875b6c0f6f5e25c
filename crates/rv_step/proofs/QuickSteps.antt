-- Steps that merely go on: one by its act, and one after the other.
use Rattle.std.proofs.Common.{◌≡◌, ◌≢◌, ℕ, zero, suc, ◌+◌, ◌-◌, ◌/◌, ◌%◌, ◌<◌, Bool, true, false, eqb, ltb, leb, List, [], ◌∷◌, ◌++◌, length, refl, sym, ap, ap₂, ◌∙◌, subst, arith, IsTrue, Option, Some, None, ⊎_elim}
use Rattle.std.specs.Prelude.{Contains}
use Rattle.std.specs.Int.{w32, byte_len, to_le_bytes, from_le_bytes}
use Rattle.std.proofs.lemmas.Bool.{cond_both}
use Rattle.std.proofs.lemmas.Bool.Decides.{nat_tests}
use Rattle.std.proofs.lemmas.List.Elements.{Contains-append_cases, Contains-append_left, Contains-append_right}
use Rattle.rv_isa.specs.declared.instr.Instr.{Instr}
use Rattle.rv_isa.specs.declared.instr.LoadOp.{LoadOp}
use Rattle.rv_isa.specs.declared.instr.LoadOp.TheVariants.{Lb, Lh, Lw, Lbu, Lhu}
use Rattle.rv_isa.specs.declared.instr.StoreOp.{StoreOp}
use Rattle.rv_isa.specs.declared.instr.StoreOp.TheVariants.{Sb, Sh, Sw}
use Rattle.rv_isa.specs.declared.fault.Fault.TheVariants.{Illegal}
use Rattle.rv_isa.specs.Rows.{decode_of}
use Rattle.rv_isa.specs.declared.instr.Instr.TheVariants.{Lui, Auipc, Jal, Jalr, Branch, Load, Store, AluImm, Alu, Fence, Ecall, Ebreak}
use Rattle.rv_isa.specs.Encoding.{valid}
use Rattle.rv_isa.specs.Registers.{with_register, HasRegisters}
use Rattle.page_core.specs.Memory.{top, bytes, put, ascending, without}
use Rattle.page_core.proofs.Listed.{Contains-none, Contains-head, Contains-tail, Contains-cases}
use Rattle.page_core.proofs.Ascending.{Contains-from_ascending}
use Rattle.rv_step.specs.declared.act.Act.{Act}
use Rattle.rv_step.specs.declared.act.Act.TheVariants.{Sets, Loads, Stores, Does, Faults}
use Rattle.rv_step.specs.declared.place.Core.{Core}
use Rattle.rv_step.specs.Machine.{State, Went, at_address, jump, data_of, act, act_of, act_of_word, act_with_words, act_event, pages_of_all, cost_of_act, step_of, foot_of, step_cost, first_closed, load_width, store_width, loaded_word}
use Rattle.rv_step.specs.Runs.{after, run_cost, run_pages, pages_at}
use Rattle.rv_step.specs.Tapes.{Tape, Log}
use Rattle.rv_step.specs.Stepping.{state_at}
use Rattle.rv_step.specs.Quick.{IsPlain, DoesPlainly, StepsQuickly, GoesQuickly}
use Rattle.rv_step.proofs.Done.{next_core, loads_to, stores_to}
use Rattle.rv_step.proofs.Feet.{foot-in_range}
use Rattle.rv_step.proofs.Frame.{act_in}
use Rattle.rv_step.proofs.Looks.{one_range, one_page_of}
use Rattle.rv_step.proofs.Runs.{step_back, step_on, spent_next}
use Rattle.rv_step.proofs.Steps.{sets_done, all_open}

-- ---- pages of a set
-- where each page is in the set, none is outside
pub none_closed_in : (holds : ℕ → Bool) (pages : List ℕ) → ((p : ℕ) → Contains pages p → IsTrue (holds p)) → first_closed holds pages ≡ None
none_closed_in holds [] h = refl
none_closed_in holds (p ∷ pages) h = rw (h p (Contains-head p p pages refl)) (none_closed_in holds pages (λ q m. h q (Contains-tail q p pages m)))

from_without : (c : ℕ) (qs : List ℕ) (p : ℕ) → Contains (without c qs) p → Contains qs p
unfolding without
from_without c [] p h = h
from_without c (q ∷ qs) p h =
    cond_both (eqb c q) (without c qs) (q ∷ without c qs) (λ (rs : List ℕ). Contains rs p → Contains (q ∷ qs) p)
    (λ _ m. Contains-tail p q qs (from_without c qs p m))
    (λ _ m. ⊎_elim (λ t. Contains-head p q qs t) (λ t. Contains-tail p q qs (from_without c qs p t)) (Contains-cases p q (without c qs) m)) h

-- the footprint of a step whose data lie in the set, as the register page and the code page do
foot_held : (holds : ℕ → Bool) (s : State) → s.pc < top → IsTrue (holds 262143) → IsTrue (holds (s.pc / 1024))
    → first_closed holds (pages_of_all (data_of (act s))) ≡ None → first_closed holds (foot_of s) ≡ None
foot_held holds s below registers code touched =
    let ps : List ℕ = pages_of_all (data_of (act s)) in
    let others : List ℕ = ascending (without (s.pc / 1024) ps) in
    ap (first_closed holds) (foot-in_range s below)
    ∙ none_closed_in holds (262143 ∷ s.pc / 1024 ∷ others) (λ p m.
    ⊎_elim (λ t. ap holds t ∙ registers)
    (λ t. ⊎_elim (λ u. ap holds u ∙ code)
    (λ u. all_open holds ps touched p (from_without (s.pc / 1024) ps p (Contains-from_ascending (without (s.pc / 1024) ps) p u)))
    (Contains-cases p (s.pc / 1024) others t))
    (Contains-cases p 262143 (s.pc / 1024 ∷ others) m))

-- ---- acts
pub sets_plainly : (holds : ℕ → Bool) (pc rd v : ℕ) (core new : Core) (m : ℕ → ℕ) → new ≡ record { pc = pc; regs = with_register core.regs rd v }
    → DoesPlainly holds (Sets pc rd v) core new m m
unfolding pages_of_all
sets_plainly holds pc rd v core new m is = record {
  plain = tt;
  touches = refl;
  went = λ tape log. sets_done pc rd v (state_at core m tape log) ∙ sym (ap (λ (c : Core). Went (state_at c m tape log)) is);
}

-- a jump to a multiple of 4
pub jump_at : (target rd v : ℕ) → target % 4 ≡ 0 → jump target rd v ≡ Sets target rd v
jump_at target rd v h = let e : eqb (target % 4) 0 ≡ true = grind (arith, nat_tests) in rw e refl

-- an aligned address below the register page
pub is_at : (width a : ℕ) (act : Act) → a % width ≡ 0 → a < top → at_address width a act ≡ act
is_at width a act aligned below =
    let e : eqb (a % width) 0 ≡ true = grind (arith, nat_tests) in
    let f : ltb a top ≡ true = grind (arith, nat_tests) in
    rw (e, f) refl

held_page : (holds : ℕ → Bool) (a n : ℕ) → n ≢ 0 → (a + n - 1) / 1024 ≡ a / 1024 → IsTrue (holds (a / 1024)) → first_closed holds (pages_of_all ((a, n) ∷ [])) ≡ None
held_page holds a n some same h = ap (first_closed holds) (one_range a n ∙ one_page_of a n some same) ∙ rw h refl

-- the bytes of a load or of a store lie in one page
pub load_held : (holds : ℕ → Bool) (op : LoadOp) (a : ℕ) → a % byte_len (load_width op) ≡ 0 → IsTrue (holds (a / 1024))
    → first_closed holds (pages_of_all ((a, byte_len (load_width op)) ∷ [])) ≡ None
load_held holds Lb a aligned h = held_page holds a 1 (omega arith) (omega arith) h
load_held holds Lh a aligned h = held_page holds a 2 (omega arith) (omega arith) h
load_held holds Lw a aligned h = held_page holds a 4 (omega arith) (omega arith) h
load_held holds Lbu a aligned h = held_page holds a 1 (omega arith) (omega arith) h
load_held holds Lhu a aligned h = held_page holds a 2 (omega arith) (omega arith) h

pub store_held : (holds : ℕ → Bool) (op : StoreOp) (a : ℕ) → a % byte_len (store_width op) ≡ 0 → IsTrue (holds (a / 1024))
    → first_closed holds (pages_of_all ((a, byte_len (store_width op)) ∷ [])) ≡ None
store_held holds Sb a aligned h = held_page holds a 1 (omega arith) (omega arith) h
store_held holds Sh a aligned h = held_page holds a 2 (omega arith) (omega arith) h
store_held holds Sw a aligned h = held_page holds a 4 (omega arith) (omega arith) h

-- the same act
pub plainly_as : (holds : ℕ → Bool) (a b : Act) (core new : Core) (m n : ℕ → ℕ) → b ≡ a → DoesPlainly holds a core new m n → DoesPlainly holds b core new m n
plainly_as holds a b core new m n e done = subst (λ (act : Act). DoesPlainly holds act core new m n) (sym e) done

-- a load, and a store, of a page of the set
pub loads_plainly : (holds : ℕ → Bool) (op : LoadOp) (rd a v : ℕ) (core new : Core) (m : ℕ → ℕ) → a % byte_len (load_width op) ≡ 0 → a < top → IsTrue (holds (a / 1024))
    → v ≡ loaded_word op (from_le_bytes (load_width op) (bytes m a (byte_len (load_width op)))) → new ≡ next_core core rd v
    → DoesPlainly holds (at_address (byte_len (load_width op)) a (Loads op rd a)) core new m m
loads_plainly holds op rd a v core new m aligned below held value is =
    plainly_as holds (Loads op rd a) _ core new m m (is_at (byte_len (load_width op)) a (Loads op rd a) aligned below)
    (record { plain = tt; touches = load_held holds op a aligned held; went = λ tape log. loads_to op rd a v core new m tape log value is })

pub stores_plainly : (holds : ℕ → Bool) (op : StoreOp) (a v : ℕ) (core new : Core) (m n : ℕ → ℕ) → a % byte_len (store_width op) ≡ 0 → a < top → IsTrue (holds (a / 1024))
    → n ≡ put m a (to_le_bytes (store_width op) v) → new ≡ next_core core 0 0
    → DoesPlainly holds (at_address (byte_len (store_width op)) a (Stores op a v)) core new m n
stores_plainly holds op a v core new m n aligned below held written is =
    plainly_as holds (Stores op a v) _ core new m n (is_at (byte_len (store_width op)) a (Stores op a v) aligned below)
    (record { plain = tt; touches = store_held holds op a aligned held; went = λ tape log. stores_to op a v core new m n tape log written is })

-- a valid instruction names registers
pub valid_registers : (instr : Instr) → IsTrue (valid instr) → HasRegisters instr
valid_registers (Lui rd imm) h = grind (arith, nat_tests)
valid_registers (Auipc rd imm) h = grind (arith, nat_tests)
valid_registers (Jal rd offset) h = grind (arith, nat_tests)
valid_registers (Jalr rd rs1 imm) h = (grind (arith, nat_tests), grind (arith, nat_tests))
valid_registers (Branch op rs1 rs2 offset) h = (grind (arith, nat_tests), grind (arith, nat_tests))
valid_registers (Load op rd rs1 imm) h = (grind (arith, nat_tests), grind (arith, nat_tests))
valid_registers (Store op rs1 rs2 imm) h = (grind (arith, nat_tests), grind (arith, nat_tests))
valid_registers (AluImm op rd rs1 imm) h = (grind (arith, nat_tests), grind (arith, nat_tests))
valid_registers (Alu op rd rs1 rs2) h = (grind (arith, nat_tests), grind (arith, nat_tests), grind (arith, nat_tests))
valid_registers Fence h = tt
valid_registers Ecall h = tt
valid_registers Ebreak h = tt

-- ---- a step
plain_with_words : (left : ℕ) (a : Act) → IsPlain a → act_with_words left a ≡ a
plain_with_words left (Sets pc rd v) plain = refl
plain_with_words left (Loads op rd a) plain = refl
plain_with_words left (Stores op a v) plain = refl
plain_with_words left (Does call) plain = absurd plain
plain_with_words left (Faults fault) plain = absurd plain

plain_cost : (a : Act) → IsPlain a → cost_of_act a ≡ 1
plain_cost (Sets pc rd v) plain = refl
plain_cost (Loads op rd a) plain = refl
plain_cost (Stores op a v) plain = refl
plain_cost (Does call) plain = absurd plain
plain_cost (Faults fault) plain = absurd plain

decoded : (word pc : ℕ) (x : List ℕ) (instr : Instr) → decode_of word ≡ Some instr → act_of_word word pc x ≡ act_of instr pc x
unfolding act_of_word
decoded word pc x instr e = ap (λ (o : Option Instr). elim o [ Some i ↦ act_of i pc x | None ↦ Faults (Illegal word) ]) e

-- the step of a state whose fetched word is an instruction that does so
pub steps_quickly : (holds : ℕ → Bool) (core new : Core) (m n : ℕ → ℕ) (word : ℕ) (instr : Instr) (tape : Tape) (log : Log)
    → core.pc < top → IsTrue (holds 262143) → IsTrue (holds (core.pc / 1024)) → word ≡ from_le_bytes w32 (bytes m core.pc 4) → Some instr ≡ decode_of word
    → DoesPlainly holds (act_of instr core.pc core.regs) core new m n
    → StepsQuickly holds (state_at core m tape log) (state_at new n tape log)
unfolding step_of step_cost
steps_quickly holds core new m n word instr tape log below registers code fetched is done =
    let s : State = state_at core m tape log in
    let out : leb top s.pc ≡ false = grind (arith, nat_tests) in
    let same : act s ≡ act_of instr core.pc core.regs =
    act_in s out
    ∙ ap (λ w. act_with_words (length s.words) (act_of_word w s.pc s.x)) (sym fetched)
    ∙ ap (act_with_words (length s.words)) (decoded word s.pc s.x instr (sym is))
    ∙ plain_with_words (length s.words) (act_of instr core.pc core.regs) done.plain in
    record {
      went = ap (λ a. act_event a s) same ∙ done.went tape log;
      cost = ap cost_of_act same ∙ plain_cost (act_of instr core.pc core.regs) done.plain;
      within = foot_held holds s below registers code (ap (λ a. first_closed holds (pages_of_all (data_of a))) same ∙ done.touches);
    }

-- ---- one after the other
pub none_gone : (holds : ℕ → Bool) (s : State) → GoesQuickly holds s 0 s
unfolding after run_cost run_pages
none_gone holds s = record { reached = refl; cost = refl; within = λ page m. absurd (Contains-none page m) }

pub pages_next : (s : State) (n : ℕ) (t : State) → after s n ≡ Some t → run_pages s (suc n) ≡ run_pages s n ++ foot_of t
unfolding run_pages
pages_next s n t h = ap (λ o. run_pages s n ++ pages_at o) h

pub one_more : (holds : ℕ → Bool) (s : State) (n : ℕ) (t u : State) → GoesQuickly holds s n t → StepsQuickly holds t u → GoesQuickly holds s (n + 1) u
one_more holds s n t u before step =
    let next : n + 1 ≡ suc n = omega arith in
    subst (λ (k : ℕ). GoesQuickly holds s k u) (sym next)
    (record {
      reached = step_on s n t u before.reached step.went;
      cost = spent_next s n t before.reached ∙ ap₂ (λ a b. a + b) before.cost step.cost ∙ next;
      within = λ page m.
          ⊎_elim (before.within page) (λ k. all_open holds (foot_of t) step.within page k)
          (Contains-append_cases (run_pages s n) (foot_of t) page (subst (λ (ps : List ℕ). Contains ps page) (pages_next s n t before.reached) m));
    })

-- what each such step keeps, n of them keep
pub quickly_keeps : (holds : ℕ → Bool) (P : ℕ → State → Type 0)
    → ((k : ℕ) (u v : State) → P k u → step_of u ≡ Went v → first_closed holds (foot_of u) ≡ None → P (suc k) v)
    → (s : State) (n : ℕ) (t : State) → P 0 s → after s n ≡ Some t → ((page : ℕ) → Contains (run_pages s n) page → IsTrue (holds page)) → P n t
unfolding after
quickly_keeps holds P step s zero t h reached within = let same : Some s ≡ Some t = reached in let e : s ≡ t = cc in subst (P 0) e h
quickly_keeps holds P step s (suc n) t h reached within =
    let (u, before, went) = step_back s n t reached in
    let pages = pages_next s n u before in
    step n u t
    (quickly_keeps holds P step s n u h before (λ page m. within page (subst (λ (ps : List ℕ). Contains ps page) (sym pages) (Contains-append_left (run_pages s n) (foot_of u) page m))))
    went
    (none_closed_in holds (foot_of u) (λ page m. within page (subst (λ (ps : List ℕ). Contains ps page) (sym pages) (Contains-append_right (run_pages s n) (foot_of u) page m))))
