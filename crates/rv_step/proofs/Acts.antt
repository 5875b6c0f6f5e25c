-- The act of every state is sound, by cases on the instruction.
use Rattle.std.proofs.Common.{◌≡◌, ℕ, zero, suc, ◌+◌, ◌-◌, ◌*◌, ◌/◌, ◌%◌, ◌^◌, ◌<◌, ◌≤◌, Bool, ◌&&◌, leb, ltb, eqb, List, [], ◌∷◌, ◌++◌, length, get_or, refl, ap, arith, IsTrue, Option, Some, None, Result, length-append}
use Rattle.std.specs.Int.{w32, byte_len, from_le_bytes}
use Rattle.std.proofs.lemmas.Bool.{cond_both}
use Rattle.std.proofs.lemmas.Bool.Decides.{nat_tests}
use Rattle.rv_isa.specs.declared.instr.LoadOp.{LoadOp}
use Rattle.rv_isa.specs.declared.instr.LoadOp.TheVariants.{Lb, Lh, Lw, Lbu, Lhu}
use Rattle.rv_isa.specs.declared.instr.StoreOp.{StoreOp}
use Rattle.rv_isa.specs.declared.instr.StoreOp.TheVariants.{Sb, Sh, Sw}
use Rattle.rv_isa.specs.declared.instr.Instr.{Instr}
use Rattle.rv_isa.specs.declared.instr.Instr.TheVariants.{Lui, Auipc, Jal, Jalr, Branch, Load, Store, AluImm, Alu, Fence, Ecall, Ebreak}
use Rattle.rv_isa.specs.declared.fault.Fault.{Fault}
use Rattle.rv_isa.specs.declared.fault.Fault.TheVariants.{Illegal, Break}
use Rattle.host_calls.specs.declared.call.Call.{Call}
use Rattle.host_calls.specs.declared.call.Call.TheVariants.{Halt, Read, Commit, Assume}
use Rattle.rv_isa.specs.Words.{plus}
use Rattle.rv_isa.specs.Arithmetic.{taken_of}
use Rattle.page_core.specs.Memory.{top, bytes, pages_from, pages_of}
use Rattle.rv_isa.specs.Rows.{decode_of}
use Rattle.host_calls.specs.Calls.{fits_below, within, call_or_fault, read_call_of, ranges_of, takes}
use Rattle.rv_step.specs.declared.act.Act.TheVariants.{Sets, Loads, Stores, Does, Faults}
use Rattle.rv_step.specs.declared.act.Act.{Act}
use Rattle.rv_step.specs.Machine.{load_width, store_width, at_address, jump, call_act, act_of, act_of_word, act_with_words, act, pages_of_all}
use Rattle.rv_isa.specs.Registers.{register}
use Rattle.rv_step.specs.Acts.{AllBelow, IsSound, ActsAreSound}

-- ---- the pages of data
length-pages_from : (p n : ℕ) → length (pages_from p n) ≡ n
unfolding pages_from
length-pages_from p zero = refl
length-pages_from p (suc n) = ap suc (length-pages_from (p + 1) n)

-- 1,024 bytes lie in two pages
few_pages : (a n : ℕ) → n ≤ 1024 → length (pages_of a n) ≤ 2
few_pages a zero h = omega arith
few_pages a (suc n) h =
    let two : (a + n) / 1024 + 1 - a / 1024 ≤ 2 = omega arith in omega (arith, length-pages_from (a / 1024) ((a + n) / 1024 + 1 - a / 1024))

no_data : length (pages_of_all []) ≤ 4
unfolding pages_of_all
no_data = omega arith

one_range : (a n : ℕ) → n ≤ 1024 → length (pages_of_all ((a, n) ∷ [])) ≤ 4
unfolding pages_of_all
one_range a n h = omega (arith, few_pages a n h, length-append (pages_of a n) [])

two_ranges : (a n b k : ℕ) → n ≤ 1024 → k ≤ 1024 → length (pages_of_all ((a, n) ∷ (b, k) ∷ [])) ≤ 4
unfolding pages_of_all
two_ranges a n b k h i =
    omega (arith, few_pages a n h, few_pages b k i, length-append (pages_of a n) (pages_of b k ++ []), length-append (pages_of b k) [])

-- ---- the width of a load or a store
record IsWidth (n : ℕ) : Type 0 where
  few : n ≤ 1024
  fits : (a : ℕ) → a % n ≡ 0 → a < top → IsTrue (fits_below a n)

width_1 : IsWidth 1
width_1 = record { few = omega arith; fits = λ a h l. grind (arith, nat_tests) }

width_2 : IsWidth 2
width_2 = record { few = omega arith; fits = λ a h l. grind (arith, nat_tests) }

width_4 : IsWidth 4
width_4 = record { few = omega arith; fits = λ a h l. grind (arith, nat_tests) }

width_of_load : (op : LoadOp) → IsWidth (byte_len (load_width op))
width_of_load Lb = width_1
width_of_load Lh = width_2
width_of_load Lw = width_4
width_of_load Lbu = width_1
width_of_load Lhu = width_2

width_of_store : (op : StoreOp) → IsWidth (byte_len (store_width op))
width_of_store Sb = width_1
width_of_store Sh = width_2
width_of_store Sw = width_4

-- ---- the kinds of act
module _ (x : List ℕ) where
  sound_fault : (f : Fault) → IsSound x (Faults f)
  sound_fault f = record { below = tt; aligned = tt; goes = tt; exit = λ h. tt; limits = tt; cost = omega arith; pages = no_data }

  sound_sets : (pc rd v : ℕ) → pc % 4 ≡ 0 → pc < 2 ^ 32 → IsSound x (Sets pc rd v)
  sound_sets pc rd v aligned word = record { below = tt; aligned = tt; goes = (aligned, word); exit = λ h. tt; limits = tt; cost = omega arith; pages = no_data }

  sound_next : (pc rd v : ℕ) → pc % 4 ≡ 0 → pc < top → IsSound x (Sets (pc + 4) rd v)
  sound_next pc rd v aligned l = sound_sets (pc + 4) rd v (omega arith) (omega arith)

  sound_jump : (target rd v : ℕ) → target < 2 ^ 32 → IsSound x (jump target rd v)
  sound_jump target rd v word =
      cond_both (eqb (target % 4) 0) _ _ (IsSound x) (λ e. sound_sets target rd v (grind (arith, nat_tests)) word) (λ e. sound_fault _)

  sound_at : (width a : ℕ) (b : Act) → IsWidth width → (a % width ≡ 0 → IsTrue (fits_below a width) → IsSound x b) → IsSound x (at_address width a b)
  sound_at width a b h f =
      cond_both (eqb (a % width) 0) _ _ (IsSound x)
      (λ e. cond_both (ltb a top) _ _ (IsSound x) (λ l. f (grind (arith, nat_tests)) (h.fits a (grind (arith, nat_tests)) (grind (arith, nat_tests)))) (λ l. sound_fault _))
      (λ e. sound_fault _)

  sound_load : (op : LoadOp) (rd a : ℕ) → IsSound x (at_address (byte_len (load_width op)) a (Loads op rd a))
  sound_load op rd a =
      sound_at (byte_len (load_width op)) a (Loads op rd a) (width_of_load op)
      (λ aligned fits. record {
        below = (fits, tt);
        aligned = aligned;
        goes = tt;
        exit = λ h. tt;
        limits = tt;
        cost = omega arith;
        pages = one_range a (byte_len (load_width op)) (width_of_load op).few;
      })

  sound_store : (op : StoreOp) (a v : ℕ) → IsSound x (at_address (byte_len (store_width op)) a (Stores op a v))
  sound_store op a v =
      sound_at (byte_len (store_width op)) a (Stores op a v) (width_of_store op)
      (λ aligned fits. record {
        below = (fits, tt);
        aligned = aligned;
        goes = tt;
        exit = λ h. tt;
        limits = tt;
        cost = omega arith;
        pages = one_range a (byte_len (store_width op)) (width_of_store op).few;
      })

  -- ---- the host calls
  sound_halt : (code : ℕ) → code ≡ register x 10 → IsSound x (Does (Halt code))
  sound_halt code e = record { below = tt; aligned = tt; goes = tt; exit = λ h. omega (arith, e); limits = tt; cost = omega arith; pages = no_data }

  sound_read : (pointer count : ℕ) → pointer % 4 ≡ 0 → count ≤ 256 → AllBelow (ranges_of (Read pointer count)) → IsSound x (Does (Read pointer count))
  sound_read pointer count aligned h below = record {
    below = below;
    aligned = aligned;
    goes = tt;
    exit = λ h. tt;
    limits = h;
    cost = omega arith;
    pages = one_range pointer (4 * count) (omega arith);
  }

  sound_commit : (pointer count : ℕ) → count ≤ 1024 → AllBelow (ranges_of (Commit pointer count)) → IsSound x (Does (Commit pointer count))
  sound_commit pointer count h below = record {
    below = below;
    aligned = tt;
    goes = tt;
    exit = λ h. tt;
    limits = h;
    cost = omega arith;
    pages = one_range pointer count h;
  }

  sound_assume : (image journal : ℕ) → image % 4 ≡ 0 → journal % 4 ≡ 0 → AllBelow (ranges_of (Assume image journal)) → IsSound x (Does (Assume image journal))
  sound_assume image journal first second below = record {
    below = below;
    aligned = (first, second);
    goes = tt;
    exit = λ h. tt;
    limits = tt;
    cost = omega arith;
    pages = two_ranges image 32 journal 32 (omega arith) (omega arith);
  }

  abbrev IsSoundCall : Result Call Fault → Type 0
  IsSoundCall r = IsSound x (call_act r)

  sound_within : (rs : List (ℕ × ℕ)) (call : Call) → (AllBelow rs → IsSound x (Does call)) → IsSound x (call_act (within rs call))
  unfolding within
  sound_within [] call f = f tt
  sound_within (r ∷ rs) call f =
      cond_both (fits_below r.0 r.1) _ _ IsSoundCall (λ e. sound_within rs call (λ h. f (e, h))) (λ e. sound_fault _)

  sound_checked : (number : ℕ) (good : Bool) (call : Call) → (IsTrue good → AllBelow (ranges_of call) → IsSound x (Does call))
      → IsSound x (call_act (call_or_fault number good call))
  unfolding call_or_fault
  sound_checked number good call f = cond_both good _ _ IsSoundCall (λ e. sound_within (ranges_of call) call (f e)) (λ e. sound_fault _)

  sound_call : IsSound x (call_act (read_call_of x))
  unfolding read_call_of
  sound_call =
      cond_both (eqb number 0) _ _ IsSoundCall (λ e. sound_halt a0 refl)
      (λ e. cond_both (eqb number 1) _ _ IsSoundCall
      (λ e. sound_checked 1 (eqb (a0 % 4) 0 && leb a1 256) (Read a0 a1) (λ good. sound_read a0 a1 (grind (arith, nat_tests)) (grind (arith, nat_tests))))
      (λ e. cond_both (eqb number 2) _ _ IsSoundCall
      (λ e. sound_checked 2 (leb a1 1024) (Commit a0 a1) (λ good. sound_commit a0 a1 (grind (arith, nat_tests))))
      (λ e. cond_both (eqb number 3) _ _ IsSoundCall
      (λ e. sound_checked 3 (eqb (a0 % 4) 0 && eqb (a1 % 4) 0) (Assume a0 a1) (λ good. sound_assume a0 a1 (grind (arith, nat_tests)) (grind (arith, nat_tests)))) (λ e. sound_fault _))))
    where
      number : ℕ
      number = get_or x 17 0

      a0 : ℕ
      a0 = get_or x 10 0

      a1 : ℕ
      a1 = get_or x 11 0

-- ---- the rows
sound_act_of : (i : Instr) (pc : ℕ) (x : List ℕ) → pc % 4 ≡ 0 → pc < top → IsSound x (act_of i pc x)
unfolding act_of
sound_act_of (Lui rd imm) pc x h l = sound_next x pc _ _ h l
sound_act_of (Auipc rd imm) pc x h l = sound_next x pc _ _ h l
sound_act_of (Jal rd offset) pc x h l = sound_jump x _ _ _ (omega arith)
sound_act_of (Jalr rd rs1 imm) pc x h l = sound_jump x _ _ _ (omega arith)
sound_act_of (Branch op rs1 rs2 offset) pc x h l =
    cond_both (taken_of op (register x rs1) (register x rs2)) _ _ (IsSound x) (λ e. sound_jump x _ _ _ (omega arith)) (λ e. sound_next x pc _ _ h l)
sound_act_of (Load op rd rs1 imm) pc x h l = sound_load x op rd (plus (register x rs1) imm)
sound_act_of (Store op rs1 rs2 imm) pc x h l = sound_store x op (plus (register x rs1) imm) (register x rs2)
sound_act_of (AluImm op rd rs1 imm) pc x h l = sound_next x pc _ _ h l
sound_act_of (Alu op rd rs1 rs2) pc x h l = sound_next x pc _ _ h l
sound_act_of Fence pc x h l = sound_next x pc _ _ h l
sound_act_of Ecall pc x h l = sound_call x
sound_act_of Ebreak pc x h l = sound_fault x Break

sound_decoded : (o : Option Instr) (word pc : ℕ) (x : List ℕ) → pc % 4 ≡ 0 → pc < top
    → IsSound x (elim o [ Some instr ↦ act_of instr pc x | None ↦ Faults (Illegal word) ])
sound_decoded (Some i) word pc x h l = sound_act_of i pc x h l
sound_decoded None word pc x h l = sound_fault x _

sound_supplied : (left : ℕ) (x : List ℕ) (a : Act) → IsSound x a → IsSound x (act_with_words left a)
sound_supplied left x (Does call) h = cond_both (leb (takes call) left) _ _ (IsSound x) (λ e. h) (λ e. sound_fault x _)
sound_supplied left x a h = h

pub acts_are_sound : ActsAreSound
unfolding act act_of_word
acts_are_sound s h =
    cond_both (leb top s.pc) _ _ (IsSound s.x) (λ e. sound_fault s.x _)
    (λ e. sound_supplied (length s.words) s.x _ (sound_decoded (decode_of (from_le_bytes w32 (bytes s.memory s.pc 4))) _ s.pc s.x h (grind (arith, nat_tests))))
