-- What a step leaves, by cases on its act.
use Rattle.std.proofs.Common.{◌≡◌, ℕ, zero, suc, ◌+◌, ◌*◌, ◌/◌, ◌%◌, ◌^◌, ◌<◌, ◌≤◌, List, [], ◌∷◌, ◌++◌, length, get_or, take, set, refl, ◌∙◌, subst, arith, inl, inr, ◌⊎◌, ⊎_elim, sym, length-take}
use Rattle.rv_step.proofs.Feet.{data_within}
use Rattle.std.specs.Int.{w32, byte_len, to_le_bytes}
use Rattle.std.specs.List.{flat_map}
use Rattle.std.specs.Prelude.{Contains}
use Rattle.std.proofs.lemmas.Bool.Decides.{leb_tells}
use Rattle.std.proofs.lemmas.List.Elements.{All-append, Contains-append_left}
use Rattle.rv_isa.specs.declared.fault.Fault.TheVariants.{BadAddress}
use Rattle.host_calls.specs.declared.call.Call.{Call}
use Rattle.host_calls.specs.declared.call.Call.TheVariants.{Halt, Read, Commit, Assume}
use Rattle.page_core.specs.Memory.{top, bytes, put, pages_of, Within}
use Rattle.host_calls.specs.Calls.{ranges_of}
use Rattle.rv_step.specs.declared.act.Act.TheVariants.{Sets, Loads, Stores, Does, Faults}
use Rattle.rv_step.specs.declared.act.Act.{Act}
use Rattle.rv_step.specs.Machine.{data_of, State, Event, Went, Halted, Faulted, store_width, act, pages_of_all, next, call_event, act_event, step_of, foot_of}
use Rattle.rv_isa.specs.Registers.{with_register, AreRegisters}
use Rattle.rv_step.specs.Laws.{IsReady}
use Rattle.rv_step.specs.Acts.{IsSound, IsMade, Keeps, StepKeeps, StepHaltsWithWord}
use Rattle.page_core.proofs.Bytes.{put-outside, in_pages_of, length-words, length-to_le_bytes, to_le_bytes-small, words-small}
use Rattle.rv_step.proofs.Full.{length-with_register}
use Rattle.rv_step.proofs.Acts.{acts_are_sound}
use Rattle.rv_step.proofs.Frame.{act_out}
use Rattle.rv_step.proofs.Made.{AreCalls-append, bytes_are, digest_read, put_small}

-- ---- memory
out_of_range : (a n k : ℕ) → ¬ Contains (pages_of a n) (k / 1024) → (k < a) ⊎ (a + n ≤ k)
out_of_range a n k h =
    ⊎_elim (λ t. ⊎_elim (λ u. inr u.1) (λ u. absurd (h (in_pages_of a n k t.1 (omega (arith, u.1))))) (leb_tells (a + n) k)) (λ t. inl t.1) (leb_tells a k)

-- what is put in a range is out of pages that don't show it
put_out : (m : ℕ → ℕ) (a n : ℕ) (bs pages : List ℕ) (k : ℕ) → length bs ≤ n → Within (pages_of a n ++ []) pages → ¬ Contains pages (k / 1024)
    → put m a bs k ≡ m k
put_out m a n bs pages k size shown h =
    put-outside m a bs k
    (⊎_elim (λ t. inl t) (λ t. inr (omega (arith, t, size)))
    (out_of_range a n k (λ e. h (shown (k / 1024) (Contains-append_left (pages_of a n) [] (k / 1024) e)))))

-- ---- registers
set_below : (bound : ℕ) (x : List ℕ) (i v n : ℕ) → v < bound → ((k : ℕ) → get_or x k 0 < bound) → get_or (set x i v) n 0 < bound
set_below bound [] i v n h all = all n
set_below bound (y ∷ x) zero v zero h all = h
set_below bound (y ∷ x) zero v (suc n) h all = all (suc n)
set_below bound (y ∷ x) (suc i) v zero h all = all 0
set_below bound (y ∷ x) (suc i) v (suc n) h all = set_below bound x i v n h (λ k. all (suc k))

set_first : (x : List ℕ) (i v : ℕ) → get_or (set x (suc i) v) 0 0 ≡ get_or x 0 0
set_first [] i v = refl
set_first (y ∷ x) i v = refl

pub registers_with : (x : List ℕ) (rd v : ℕ) → AreRegisters x → AreRegisters (with_register x rd v)
registers_with x zero v h = h
registers_with x (suc i) v h = record {
  size = length-with_register x (suc i) v ∙ h.size;
  zero_first = set_first x i _ ∙ h.zero_first;
  are_words = λ n. set_below (2 ^ 32) x (suc i) (v % 2 ^ 32) n (omega arith) h.are_words;
}

-- ---- an act
-- what is shown of the event of a step from s
abbrev Leaves : State → Event → Type 0
Leaves s (Went t) = Keeps s t
Leaves s (Halted code) = IsReady s → code < 2 ^ 32
Leaves s (Faulted fault) = Unit {0}

module _ (s : State) (below : s.pc < top) where
  -- it goes on from a state u that has the pc and registers of s
  keeps_next : (u : State) (rd v : ℕ) → u.pc ≡ s.pc → u.x ≡ s.x
      → ((k : ℕ) → ¬ Contains (foot_of s) (k / 1024) → u.memory k ≡ s.memory k) → (IsMade s → IsMade u) → Keeps s (next u rd v)
  keeps_next u rd v ep ex outside made = record {
    outside = outside;
    ready = λ h. record {
      aligned = let a : s.pc % 4 ≡ 0 = h.aligned in omega (arith, ep);
      registers = subst (λ (x : List ℕ). AreRegisters (with_register x rd v)) (sym ex) (registers_with s.x rd v h.registers);
      is_word = omega (arith, ep);
    };
    made = λ h. record { memory = (made h).memory; journal = (made h).journal; calls = (made h).calls };
  }

  called_leaves : (call : Call) → (s.pc % 4 ≡ 0 → IsSound s.x (Does call)) → Within (pages_of_all (ranges_of call)) (foot_of s) → Leaves s (call_event call s)
  unfolding call_event pages_of_all
  called_leaves (Halt code) sound shown = λ h. (sound h.aligned).exit (h.registers.are_words 10)
  called_leaves (Read pointer count) sound shown =
      keeps_next _ 10 count refl refl
      (λ k h. put_out s.memory pointer (4 * count) (flat_map (to_le_bytes w32) (take count s.words)) (foot_of s) k
      (omega (arith, length-words (take count s.words), length-take count s.words)) shown h)
      (λ h. record {
        memory = λ k. put_small s.memory pointer (flat_map (to_le_bytes w32) (take count s.words)) k (h.memory k) (words-small (take count s.words));
        journal = h.journal;
        calls = h.calls;
      })
  called_leaves (Commit pointer count) sound shown =
      keeps_next _ 10 count refl refl (λ k h. refl)
      (λ h. record {
        memory = h.memory;
        journal = All-append (λ (b : ℕ). b < 256) s.journal (bytes s.memory pointer count) h.journal (bytes_are s.memory pointer count h.memory);
        calls = h.calls;
      })
  called_leaves (Assume image journal) sound shown =
      keeps_next _ 10 0 refl refl (λ k h. refl)
      (λ h. record {
        memory = h.memory;
        journal = h.journal;
        calls = AreCalls-append s.calls _ h.calls ((digest_read s.memory image h.memory, digest_read s.memory journal h.memory), tt);
      })

  done_leaves : (a : Act) → (s.pc % 4 ≡ 0 → IsSound s.x a) → Within (pages_of_all (data_of a)) (foot_of s) → Leaves s (act_event a s)
  unfolding act_event pages_of_all
  done_leaves (Sets pc rd v) sound shown = record {
    outside = λ k h. refl;
    ready = λ h. record {
      aligned = (sound h.aligned).goes.0;
      registers = registers_with s.x rd v h.registers;
      is_word = (sound h.aligned).goes.1;
    };
    made = λ h. record { memory = h.memory; journal = h.journal; calls = h.calls };
  }
  done_leaves (Loads op rd a) sound shown = keeps_next s rd _ refl refl (λ k h. refl) (λ h. h)
  done_leaves (Stores op a v) sound shown =
      keeps_next _ 0 0 refl refl
      (λ k h. put_out s.memory a (byte_len (store_width op)) (to_le_bytes (store_width op) v) (foot_of s) k (omega (arith, length-to_le_bytes (store_width op) v)) shown h)
      (λ h. record {
        memory = λ k. put_small s.memory a (to_le_bytes (store_width op) v) k (h.memory k) (to_le_bytes-small (store_width op) v);
        journal = h.journal;
        calls = h.calls;
      })
  done_leaves (Does call) sound shown = called_leaves call sound shown
  done_leaves (Faults f) sound shown = tt

-- ---- a step
out_leaves : (s : State) (a : Act) → a ≡ Faults (BadAddress s.pc) → Leaves s (act_event a s)
unfolding act_event
out_leaves s a e = rw e tt

step_leaves : (s : State) → Leaves s (step_of s)
unfolding step_of
step_leaves s =
    ⊎_elim (λ t. out_leaves s (act s) (act_out s t.0)) (λ t. done_leaves s t.1 (act s) (acts_are_sound s) (data_within s)) (leb_tells top s.pc)

pub step_keeps : StepKeeps
step_keeps s t e = subst (λ (v : Event). Leaves s v) e (step_leaves s)

pub step_halts_with_word : StepHaltsWithWord
step_halts_with_word s code ready e = subst (λ (v : Event). Leaves s v) e (step_leaves s) ready
