-- A step with the words that another reads and the pages that it touches does what the other does.
use Rattle.std.proofs.Common.{◌≡◌, ⊎_elim, ℕ, zero, suc, ◌/◌, ◌%◌, ◌<◌, ◌≤◌, true, false, leb, ltb, List, ◌++◌, length, take, Option, Some, IsTrue, refl, sym, ap, ap₂, ◌∙◌, subst, arith, append_assoc}
use Rattle.std.specs.Int.{w32, from_le_bytes}
use Rattle.std.proofs.lemmas.Bool.Decides.{nat_tests, leb_tells}
use Rattle.std.proofs.lemmas.List.{take-append-drop}
use Rattle.rv_isa.specs.declared.fault.Fault.{Fault}
use Rattle.rv_isa.specs.declared.fault.Fault.TheVariants.{InputEnd, BadAddress}
use Rattle.host_calls.specs.declared.call.Call.{Call}
use Rattle.host_calls.specs.declared.call.Call.TheVariants.{Halt, Read, Commit, Assume}
use Rattle.rv_step.specs.declared.act.Act.{Act}
use Rattle.rv_step.specs.declared.act.Act.TheVariants.{Sets, Loads, Stores, Does, Faults}
use Rattle.page_core.specs.Memory.{top, bytes, Within}
use Rattle.std.specs.Prelude.{Contains}
use Rattle.rv_step.proofs.Steps.{all_open}
use Rattle.host_calls.specs.Calls.{takes}
use Rattle.rv_step.specs.Machine.{State, Went, Halted, Faulted, act_of_word, act_with_words, act, call_event, act_event, step_of, foot_of}
use Rattle.rv_step.specs.Runs.{after}
use Rattle.rv_step.specs.Laws.{Beside, Alike}
use Rattle.rv_step.proofs.Feet.{code_in_foot}
use Rattle.rv_step.proofs.Frame.{range_same, one_page, act_in, act_out}
use Rattle.std.proofs.lemmas.Option.{same_Some}
use Rattle.rv_step.proofs.Runs.{step_back}
use Rattle.flat_machine.proofs.RunFeet.{none_closed}
use Rattle.executor.specs.Proving.{words_taken, read_by, read_at, run_words}

-- ---- footprints lie below 2 ^ 28
pub foot_in : (s : State) → s.pc % 4 ≡ 0 → (p : ℕ) → Contains (foot_of s) p → p < 262144
foot_in s aligned p h = low (all_open (λ page. ltb page 262144) (foot_of s) (none_closed s aligned) p h)
  where
    low : IsTrue (ltb p 262144) → p < 262144
    low e = grind (arith, nat_tests)

-- ---- what an event tells
pub went : (s t : State) → Went s ≡ Went t → s ≡ t
went s t e = cc

pub no_halt : (code : ℕ) (t : State) → Halted code ≡ Went t → ⊥
no_halt code t e = cc

pub no_fault : (f : Fault) (t : State) → Faulted f ≡ Went t → ⊥
no_fault f t e = cc

-- ---- a step with the words and pages of another does the same
supplied_back : (k l : ℕ) (a : Act) → ((call : Call) → act_with_words l a ≡ Does call → takes call ≤ k) → ((f : Fault) → act_with_words l a ≡ Faults f → ⊥) → act_with_words k a ≡ act_with_words l a
supplied_back k l (Sets pc rd v) has fine = refl
supplied_back k l (Loads op rd a) has fine = refl
supplied_back k l (Stores op a v) has fine = refl
supplied_back k l (Does call) has fine =
    ⊎_elim
    (λ p. let low : takes call ≤ k = has call (rw p.0 refl) in let e : leb (takes call) k ≡ true = grind (arith, nat_tests) in rw (e, p.0) refl)
    (λ p. absurd (fine InputEnd (rw p.0 refl)))
    (leb_tells (takes call) l)
supplied_back k l (Faults f) has fine = refl

module _ (pages : List ℕ) (more : Beside) (u v : State) (aligned : u.pc % 4 ≡ 0) (same : Alike pages more u v) (shown : Within (foot_of v) pages) where
  fetch_back : u.pc < top → bytes v.memory u.pc 4 ≡ bytes u.memory u.pc 4
  fetch_back h =
      let low : v.pc < top = let e = same.pc in omega (arith, e) in
      let code : Contains pages (u.pc / 1024) = subst (λ (p : ℕ). Contains pages (p / 1024)) same.pc (shown (v.pc / 1024) (code_in_foot v low)) in
      sym (range_same pages more u v same u.pc 4 (grind (arith, nat_tests)) (one_page u.pc pages aligned code))

  pub act_back : ((call : Call) → act v ≡ Does call → takes call ≤ length u.words) → ((f : Fault) → act v ≡ Faults f → ⊥) → act u ≡ act v
  act_back has fine = ⊎_elim (λ p. absurd (fine (BadAddress v.pc) (act_out v (ap (leb top) same.pc ∙ p.0)))) (λ p. within p.0 p.1) (leb_tells top u.pc)
    where
      within : leb top u.pc ≡ false → u.pc < top → act u ≡ act v
      within e h =
          let word : Act = act_of_word (from_le_bytes w32 (bytes u.memory u.pc 4)) u.pc u.x in
          let decoded : act_of_word (from_le_bytes w32 (bytes v.memory v.pc 4)) v.pc v.x ≡ word =
          ap₂ (λ p x. act_of_word (from_le_bytes w32 (bytes v.memory p 4)) p x) same.pc same.x
          ∙ ap (λ bs. act_of_word (from_le_bytes w32 bs) u.pc u.x) (fetch_back h) in
          let of_v : act v ≡ act_with_words (length v.words) word = act_in v (ap (leb top) same.pc ∙ e) ∙ ap (act_with_words (length v.words)) decoded in
          act_in u e
          ∙ supplied_back (length u.words) (length v.words) word (λ call d. has call (of_v ∙ d)) (λ f d. fine f (of_v ∙ d))
          ∙ sym of_v

-- ---- what an act and its event say of one another
fault_event : (a : Act) (s : State) (f : Fault) → act_event a s ≡ Faulted f → (g : Fault) × (a ≡ Faults g)
unfolding act_event call_event
fault_event (Sets pc rd v) s f e = absurd (cc)
fault_event (Loads op rd a) s f e = absurd (cc)
fault_event (Stores op a v) s f e = absurd (cc)
fault_event (Does (Halt code)) s f e = absurd (cc)
fault_event (Does (Read pointer count)) s f e = absurd (cc)
fault_event (Does (Commit pointer count)) s f e = absurd (cc)
fault_event (Does (Assume image journal)) s f e = absurd (cc)
fault_event (Faults g) s f e = (g, refl)

pub act_faults : (s : State) (f : Fault) → act s ≡ Faults f → step_of s ≡ Faulted f
unfolding step_of act_event
act_faults s f e = ap (λ a. act_event a s) e

pub step_faults : (s : State) (f : Fault) → step_of s ≡ Faulted f → (g : Fault) × (act s ≡ Faults g)
unfolding step_of
step_faults s f e = fault_event (act s) s f e

-- the words before a step are those that it reads and those after it
called_words : (call : Call) (s t : State) → call_event call s ≡ Went t → s.words ≡ take (takes call) s.words ++ t.words
unfolding call_event
called_words (Halt code) s t e = absurd (no_halt code t e)
called_words (Read pointer count) s t e = sym (take-append-drop count s.words) ∙ ap (λ (u : State). take count s.words ++ u.words) (went _ t e)
called_words (Commit pointer count) s t e = ap (λ (u : State). u.words) (went _ t e)
called_words (Assume image journal) s t e = ap (λ (u : State). u.words) (went _ t e)

done_words : (a : Act) (s t : State) → act_event a s ≡ Went t → s.words ≡ take (words_taken a) s.words ++ t.words
unfolding act_event
done_words (Sets pc rd v) s t e = ap (λ (u : State). u.words) (went _ t e)
done_words (Loads op rd a) s t e = ap (λ (u : State). u.words) (went _ t e)
done_words (Stores op a v) s t e = ap (λ (u : State). u.words) (went _ t e)
done_words (Does call) s t e = called_words call s t e
done_words (Faults f) s t e = absurd (no_fault f t e)

pub step_words : (s t : State) → step_of s ≡ Went t → s.words ≡ read_by s ++ t.words
unfolding step_of read_by
step_words s t e = done_words (act s) s t e

pub run_words_are : (s : State) (n : ℕ) (t : State) → after s n ≡ Some t → s.words ≡ run_words s n ++ t.words
unfolding run_words after
run_words_are s zero t h = ap (λ (u : State). u.words) (same_Some s t h)
run_words_are s (suc n) t h =
    let (u, before, goes) = step_back s n t h in
    run_words_are s n u before
    ∙ ap (λ (ws : List ℕ). run_words s n ++ ws) (step_words u t goes)
    ∙ sym (append_assoc (run_words s n) (read_by u) t.words)
    ∙ ap (λ (o : Option State). run_words s n ++ read_at o ++ t.words) (sym before)

halting_takes : (a : Act) (s : State) (code : ℕ) → act_event a s ≡ Halted code → words_taken a ≡ 0
unfolding act_event call_event
halting_takes (Sets pc rd v) s code e = refl
halting_takes (Loads op rd a) s code e = refl
halting_takes (Stores op a v) s code e = refl
halting_takes (Does (Halt c)) s code e = refl
halting_takes (Does (Read pointer count)) s code e = absurd (cc)
halting_takes (Does (Commit pointer count)) s code e = absurd (cc)
halting_takes (Does (Assume image journal)) s code e = absurd (cc)
halting_takes (Faults f) s code e = refl

pub halt_takes : (s : State) (code : ℕ) → step_of s ≡ Halted code → words_taken (act s) ≡ 0
unfolding step_of
halt_takes s code e = halting_takes (act s) s code e
