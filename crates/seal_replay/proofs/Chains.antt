-- Chains of seals that agree with a run.
use Rattle.std.proofs.Common.{◌≡◌, ℕ, zero, suc, ◌+◌, ◌-◌, ◌%◌, ◌^◌, ◌<◌, ◌≤◌, Bool, true, false, cond, eqb, List, [], ◌∷◌, ◌++◌, length, refl, sym, ap, ◌∙◌, subst, arith, Option, Some, None, option_and_then, append_assoc, append-nil, ⊎_elim}
use Rattle.rv_step.proofs.Steps.{all_open}
use Rattle.page_core.proofs.Listed.{Contains-from_is_among}
use Rattle.page_core.proofs.Zeros.{get_or-same}
use Rattle.std.proofs.lemmas.Option.{some_pair_parts, same_Some}
use Rattle.std.specs.Prelude.{Contains}
use Rattle.page_core.proofs.Options.{first_none, second_none}
use Rattle.std.proofs.lemmas.Bool.Decides.{nat_tests, eqb_tells}
use Rattle.rv_isa.specs.declared.fault.Fault.{Fault}
use Rattle.rv_isa.specs.declared.fault.Fault.TheVariants.{InputEnd}
use Rattle.page_core.specs.Memory.{top, is_among, Within, AgreeOn}
use Rattle.host_calls.specs.declared.call.AssumeCall.{AssumeCall}
use Rattle.rv_step.specs.Machine.{State, Event, Went, Halted, Faulted, step_of, foot_of, full, full_of, first_closed}
use Rattle.page_core.specs.Images.{Image, IsImage}
use Rattle.rv_step.specs.Runs.{start, after}
use Rattle.receipt_types.specs.Seals.{Seal, words_of, steps_of}
use Rattle.seal_replay.specs.Replay.{seal_memory, opened_by, enter, registers_in, page_stop, event_stop, stop_at, first_below, step_stop, stop_of, ending, halting, split, words_stop}
use Rattle.seal_replay.specs.declared.stop.ReplayStop.{ReplayStop}
use Rattle.std.specs.Option.{option_or}
use Rattle.claim_types.specs.declared.claim.Exit.{Exit}
use Rattle.claim_types.specs.declared.claim.Exit.TheVariants.{Split, Halted as HaltedWith}
use Rattle.rv_isa.specs.Registers.{AreRegisters}
use Rattle.rv_step.specs.Laws.{IsReady, Beside, Alike, AlikeEvents, HaltsAfter}
use Rattle.seal_replay.specs.Laws.{BeginsAt, beside, ReplayFollowsRun}
use Rattle.rv_step.proofs.Frame.{step_reads_its_foot}
use Rattle.rv_step.proofs.Feet.{foot_has_registers}
use Rattle.rv_step.proofs.Runs.{after-add, run_reads_its_feet, like_halted}
use Rattle.seal_replay.proofs.Registers.{registers_shown, full_shown}

-- ---- no stop
pub below_none : {A : Type 0} (f : ℕ → Option A) (n k : ℕ) → first_below f n ≡ None → k < n → f k ≡ None
unfolding first_below
below_none f zero k h l = absurd (omega arith)
below_none f (suc n) k h l =
    ⊎_elim (λ t. ap f t.1 ∙ second_none (first_below f n) (f n) h)
    (λ t. below_none f n k (first_none (first_below f n) (f n) h) (omega (arith, t.1))) (eqb_tells k n)

no_page : (k : ℕ) (o : Option ℕ) → page_stop k o ≡ None → o ≡ None
no_page k (Some p) h = absurd (cc)
no_page k None h = refl

pub no_step_stop : (seal : Seal) (k : ℕ) (u : State) → step_stop seal k ≡ None → after (enter seal) k ≡ Some u
    → stop_at (is_among (opened_by seal)) seal.steps k u ≡ None
unfolding step_stop
no_step_stop seal k u h e = sym (ap (option_and_then (stop_at (is_among (opened_by seal)) seal.steps k)) e) ∙ h

-- a seal with no stop has each footprint opened
pub feet_open : (seal : Seal) → stop_of seal ≡ None → (k : ℕ) (u : State) → k < seal.steps → after (enter seal) k ≡ Some u
    → Within (foot_of u) (opened_by seal)
unfolding stop_of
feet_open seal h k u l e p c =
    Contains-from_is_among (opened_by seal) p
    (all_open (is_among (opened_by seal)) (foot_of u)
    (no_page k _
    (first_none (page_stop k (first_closed (is_among (opened_by seal)) (foot_of u))) (event_stop seal.steps k (step_of u))
    (no_step_stop seal k u (below_none (step_stop seal) seal.steps k (first_none _ _ h) l) e))) p c)

no_words : (words : List ℕ) (b : Bool) (stop : ReplayStop) → eqb (length words) 0 ≡ b → cond b None (Some stop) ≡ None → words ≡ []
no_words [] b stop e h = refl
no_words (w ∷ words) true stop e h = let n : suc (length words) ≡ 0 = grind (arith, nat_tests) in absurd (omega arith)
no_words (w ∷ words) false stop e h = absurd (cc)

-- and no word left at its end
pub all_used : (seal : Seal) (exit : Exit) (t : State) → stop_of seal ≡ None → ending seal ≡ Some (exit, t) → t.words ≡ []
unfolding stop_of
all_used seal exit t h e =
    no_words t.words (eqb (length t.words) 0) _ refl
    (sym (ap (option_and_then words_stop) e)
    ∙ first_none (option_and_then words_stop (ending seal)) _ (second_none (first_below (step_stop seal) seal.steps) _ h))

-- ---- how a seal ends
split_not_halt : (code : ℕ) → Split ≡ HaltedWith code → ⊥
split_not_halt code h = cc

halting_not_split : (s t : State) (e : Event) → halting s e ≡ Some (Split, t) → ⊥
halting_not_split s t (Went u) h = cc
halting_not_split s t (Halted c) h = split_not_halt c (sym (some_pair_parts _ _ _ _ h).0)
halting_not_split s t (Faulted f) h = cc

pub code_same : (c d : ℕ) → HaltedWith c ≡ HaltedWith d → c ≡ d
code_same c d h = cc

halting_is : (s t : State) (e : Event) (code : ℕ) → halting s e ≡ Some (HaltedWith code, t) → (s ≡ t) × (e ≡ Halted code)
halting_is s t (Went u) code h = absurd (cc)
halting_is s t (Halted c) code h = let (e, f) = some_pair_parts _ _ _ _ h in (f, ap Halted (code_same c code e))
halting_is s t (Faulted f) code h = absurd (cc)

split_is : (o p : Option State) (t : State)
    → option_or (option_and_then split o) (option_and_then (λ s. halting s (step_of s)) p) ≡ Some (Split, t) → o ≡ Some t
split_is (Some s) p t h = ap Some (some_pair_parts _ _ _ _ h).1
split_is None (Some s) t h = absurd (halting_not_split s t (step_of s) h)
split_is None None t h = absurd (cc)

halt_is : (o p : Option State) (t : State) (code : ℕ)
    → option_or (option_and_then split o) (option_and_then (λ s. halting s (step_of s)) p) ≡ Some (HaltedWith code, t)
    → (p ≡ Some t) × (step_of t ≡ Halted code)
halt_is (Some s) p t code h = absurd (split_not_halt code (some_pair_parts _ _ _ _ h).0)
halt_is None (Some s) t code h =
    let (e, f) = halting_is s t (step_of s) code h in (ap Some e, ap step_of (sym e) ∙ f)
halt_is None None t code h = absurd (cc)

pub splits : (seal : Seal) (t : State) → ending seal ≡ Some (Split, t) → after (enter seal) seal.steps ≡ Some t
unfolding ending
splits seal t h = split_is _ _ t h

pub halts : (seal : Seal) (code : ℕ) (t : State) → ending seal ≡ Some (HaltedWith code, t)
    → (after (enter seal) (seal.steps - 1) ≡ Some t) × (step_of t ≡ Halted code)
unfolding ending
halts seal code t h = halt_is _ _ t code h

-- ---- a seal begins like the run at its place
module _ (r s : State) (b : ℕ) (seal : Seal) (rest : List ℕ) (reached : after r b ≡ Some s) (fit : IsReady s) (supplied : s.words ≡ seal.words ++ rest)
    (clean : stop_of seal ≡ None) (some_steps : 0 < seal.steps) (begins : BeginsAt r b seal) where
  it_is : begins.state ≡ s
  it_is = same_Some begins.state s (sym begins.reached ∙ reached)

  shows : AgreeOn (opened_by seal) (seal_memory seal) (full s)
  shows = subst (λ (u : State). AgreeOn (opened_by seal) (seal_memory seal) (full u)) it_is begins.shows

  pub opens_registers : Contains (opened_by seal) 262143
  unfolding after
  opens_registers = feet_open seal clean 0 (enter seal) some_steps refl 262143 (foot_has_registers (enter seal))

  same_registers : registers_in (seal_memory seal) ≡ s.x
  same_registers = registers_shown (opened_by seal) (seal_memory seal) s fit.registers opens_registers shows

  same_pc : s.pc ≡ seal.pc
  same_pc = sym (begins.pc ∙ ap (λ u. u.pc) it_is)

  pub enters_ready : IsReady (enter seal)
  enters_ready = record {
    aligned = let a : s.pc % 4 ≡ 0 = fit.aligned in omega (arith, same_pc);
    registers = subst (λ (x : List ℕ). AreRegisters x) (sym same_registers) fit.registers;
    is_word = let w : s.pc < 2 ^ 32 = fit.is_word in omega (arith, same_pc);
  }

  pub enters_alike : Alike (opened_by seal) (beside s rest) (enter seal) s
  enters_alike = record {
    pc = same_pc;
    x = sym same_registers;
    words = supplied;
    journal = sym (append-nil s.journal);
    calls = sym (append-nil s.calls);
    memory =
        subst (λ (x : List ℕ). AgreeOn (opened_by seal) (full_of (seal_memory seal) x) (full s)) (sym same_registers)
        (full_shown (opened_by seal) (seal_memory seal) s shows);
  }

  -- the run does the seal's first n steps
  pub seal_runs : (n : ℕ) (t : State) → n ≤ seal.steps → after (enter seal) n ≡ Some t
      → (v : State) × (after r (b + n) ≡ Some v) × Alike (opened_by seal) (beside s rest) t v × IsReady t
  seal_runs n t l h =
      let (v, there, like, costs, good) =
      run_reads_its_feet (opened_by seal) (beside s rest) (enter seal) s n t enters_ready enters_alike h
      (λ k u m e. feet_open seal clean k u (omega arith) e) in
      (v, after-add r b n s reached ∙ there, like, good)

-- ---- the chain
-- each seal ends in Split but the last, which halts; the journals and calls follow one another
pub data Chain : List Seal → ℕ → List ℕ → List AssumeCall → Type 0 where
  last : {seal : Seal} {code : ℕ} {t : State}
      → stop_of seal ≡ None → ending seal ≡ Some (HaltedWith code, t) → Chain (seal ∷ []) code t.journal t.calls
  link : {seal : Seal} {seals : List Seal} {code : ℕ} {t : State} {journal : List ℕ} {calls : List AssumeCall}
      → stop_of seal ≡ None → ending seal ≡ Some (Split, t) → Chain seals code journal calls
      → Chain (seal ∷ seals) code (t.journal ++ journal) (t.calls ++ calls)

-- all seals begin where the run is, one after the other, the first after b steps
abbrev pub AllBegin : State → ℕ → List Seal → Type 0
AllBegin r b [] = Unit {0}
AllBegin r b (seal ∷ seals) = (0 < seal.steps) × BeginsAt r b seal × AllBegin r (b + seal.steps) seals

-- Seals that replay in a chain and agree with the uncut run show how that run ends.
abbrev pub AgreementCarriesOver : Type 0
AgreementCarriesOver =
    (image : Image) (seals : List Seal) (code : ℕ) (journal : List ℕ) (calls : List AssumeCall)
    → IsImage image
    → Chain seals code journal calls
    → AllBegin (start image (words_of seals)) 0 seals
    → HaltsAfter (start image (words_of seals)) (steps_of seals - 1) code journal calls

pub ready_like : (pages : List ℕ) (more : Beside) (t v : State) → IsReady t → Alike pages more t v → IsReady v
ready_like pages more t v fit same = record {
  aligned = let a : t.pc % 4 ≡ 0 = fit.aligned in omega (arith, same.pc);
  registers = subst (λ (x : List ℕ). AreRegisters x) (sym same.x) fit.registers;
  is_word = let w : t.pc < 2 ^ 32 = fit.is_word in omega (arith, same.pc);
}

pub halted_not_faulted : (c : ℕ) (f : Fault) → Halted c ≡ Faulted f → ⊥
halted_not_faulted c f e = cc

-- the halting step of the last seal is the run's
halts_too : (seal : Seal) (more : Beside) (t v : State) (code : ℕ) → stop_of seal ≡ None → 0 < seal.steps
    → after (enter seal) (seal.steps - 1) ≡ Some t → step_of t ≡ Halted code → IsReady t → Alike (opened_by seal) more t v → step_of v ≡ Halted code
halts_too seal more t v code clean some near stops good like =
    let (foot, cost, events) = step_reads_its_foot (opened_by seal) more t v good.aligned like (feet_open seal clean (seal.steps - 1) t (omega arith) near)
    (λ f. absurd (halted_not_faulted code InputEnd (sym stops ∙ f))) in
    like_halted (opened_by seal) more code (step_of v) (subst (λ (e : Event). AlikeEvents (opened_by seal) more e (step_of v)) stops events)

pub halts_at : (r : State) (m n code : ℕ) (journal journal' : List ℕ) (calls calls' : List AssumeCall) → n ≡ m → journal ≡ journal' → calls ≡ calls'
    → HaltsAfter r m code journal calls → HaltsAfter r n code journal' calls'
halts_at r m n code journal journal' calls calls' e f g h = record {
  state = h.state;
  reached = ap (after r) e ∙ h.reached;
  halts = h.halts;
  journal_is = h.journal_is ∙ f;
  calls_are = h.calls_are ∙ g;
  no_words = h.no_words;
}

pub chain_runs : (r s : State) (b : ℕ) (seals : List Seal) (code : ℕ) (journal : List ℕ) (calls : List AssumeCall)
    → Chain seals code journal calls → AllBegin r b seals → after r b ≡ Some s → IsReady s → s.words ≡ words_of seals
    → HaltsAfter r (b + steps_of seals - 1) code (s.journal ++ journal) (s.calls ++ calls)
chain_runs r s b _ _ _ _ (last {seal} {code} {t} clean ends) (some, begins, all) reached fit supplied =
    let near = halts seal code t ends in
    let runs = seal_runs r s b seal [] reached fit supplied clean some begins (seal.steps - 1) t (omega arith) near.0 in
    let like = runs.2 in
    halts_at r (b + (seal.steps - 1)) _ code _ _ _ _ (omega arith) refl refl
    (record {
      state = runs.0;
      reached = runs.1;
      halts = halts_too seal (beside s []) t runs.0 code clean some near.0 near.1 runs.3 like;
      journal_is = like.journal;
      calls_are = like.calls;
      no_words = like.words ∙ ap (λ ws. ws ++ []) (all_used seal (HaltedWith code) t clean ends);
    })
chain_runs r s b _ _ _ _ (link {seal} {seals} {code} {t} {journal} {calls} clean ends chain) (some, begins, all) reached fit supplied =
    let runs = seal_runs r s b seal (words_of seals) reached fit supplied clean some begins seal.steps t (omega arith) (splits seal t ends) in
    let v = runs.0 in
    let like = runs.2 in
    halts_at r (b + seal.steps + steps_of seals - 1) _ code _ _ _ _ (omega arith)
    (ap (λ j. j ++ journal) like.journal ∙ append_assoc s.journal t.journal journal)
    (ap (λ c. c ++ calls) like.calls ∙ append_assoc s.calls t.calls calls)
    (chain_runs r v (b + seal.steps) seals code journal calls chain all runs.1
    (ready_like (opened_by seal) (beside s (words_of seals)) t v runs.3 like)
    (like.words ∙ ap (λ ws. ws ++ words_of seals) (all_used seal Split t clean ends)))

pub start_ready : (image : Image) (words : List ℕ) → IsImage image → IsReady (start image words)
start_ready image words h = record {
  aligned = h.aligned;
  registers = record { size = refl; zero_first = refl; are_words = λ n. omega (arith, get_or-same {A = ℕ} 32 n 0) };
  is_word = let low : image.entry < top = h.below in omega arith;
}

pub agreement_carries_over : AgreementCarriesOver
unfolding after
agreement_carries_over image seals code journal calls good chain all =
    halts_at (start image (words_of seals)) (0 + steps_of seals - 1) _ code _ _ _ _ (omega arith) refl refl
    (chain_runs (start image (words_of seals)) (start image (words_of seals)) 0 seals code journal calls chain all refl (start_ready image _ good) refl)

pub replay_follows_run : ReplayFollowsRun
replay_follows_run r s b seal rest n t reached fit supplied clean some begins within there =
    seal_runs r s b seal rest reached fit supplied clean some begins n t within there
