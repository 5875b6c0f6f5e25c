-- A seal that is made of a stretch of the run replays without a stop and ends as the stretch does. H is the digest function.
use Rattle.std.proofs.Common.{◌≡◌, ⊎_elim, ℕ, zero, suc, ◌+◌, ◌-◌, ◌<◌, ◌≤◌, Bool, true, false, cond, not, eqb, List, [], ◌∷◌, ◌++◌, length, take, Option, Some, None, option_and_then, refl, sym, ap, ap₂, ◌∙◌, subst, arith, length-append, append-nil}
use Rattle.seal_replay.proofs.Chains.{halted_not_faulted}
use Rattle.std.specs.Option.{option_or}
use Rattle.std.proofs.lemmas.Bool.Decides.{nat_tests}
use Rattle.std.proofs.lemmas.List.{length-take-le}
use Rattle.rv_isa.specs.declared.fault.Fault.{Fault}
use Rattle.rv_isa.specs.declared.fault.Fault.TheVariants.{InputEnd}
use Rattle.rv_isa.specs.Registers.{AreRegisters}
use Rattle.host_calls.specs.declared.call.Call.{Call}
use Rattle.host_calls.specs.Calls.{takes}
use Rattle.page_core.specs.Memory.{is_among, ascending, Within, AgreeOn}
use Rattle.page_core.specs.Memories.{page_of, flat}
use Rattle.page_core.proofs.Listed.{Contains-head, Contains-tail, is_among-from_Contains}
use Rattle.page_core.proofs.Ascending.{Contains-ascending, Contains-from_ascending}
use Rattle.std.specs.Prelude.{Contains}
use Rattle.std.proofs.lemmas.List.Elements.{Contains-append_left, Contains-append_right}
use Rattle.part_tree.specs.Part.{Part, Agree, open_numbers, fill, part_of}
use Rattle.part_tree.proofs.Asked.{opened_asked, asked_opened}
use Rattle.part_tree.proofs.Made.{part_agrees}
use Rattle.part_tree.proofs.Shown.{tree_shows}
use Rattle.page_core.proofs.Options.{both_none}
use Rattle.rv_step.specs.declared.act.Act.{Act}
use Rattle.rv_step.specs.declared.act.Act.TheVariants.{Does, Faults}
use Rattle.rv_step.specs.Machine.{State, Event, Went, Halted, Faulted, act, step_of, foot_of, full, full_of, first_closed}
use Rattle.rv_step.specs.Runs.{after, state_gone, run_pages, pages_at}
use Rattle.rv_step.specs.Laws.{IsReady, Beside, Alike, AlikeEvents}
use Rattle.rv_step.proofs.Feet.{foot_has_registers}
use Rattle.rv_step.proofs.Frame.{IsSupplied, supplied_act, foot_same, step_reads_its_foot}
use Rattle.rv_step.proofs.Kept.{step_keeps}
use Rattle.std.proofs.lemmas.Option.{same_Some}
use Rattle.rv_step.proofs.Runs.{step_back, step_on, not_ended, after-add}
use Rattle.claim_types.specs.declared.claim.Exit.{Exit}
use Rattle.claim_types.specs.declared.claim.Exit.TheVariants.{Split, Halted as HaltedWith}
use Rattle.receipt_types.specs.Seals.{Seal}
use Rattle.seal_replay.specs.Replay.{enter, registers_in, page_stop, event_stop, stop_at, first_below, step_stop, ending, halting, split, words_stop, idle_stop, stop_of}
use Rattle.seal_replay.specs.declared.stop.ReplayStop.TheVariants.{WordsLeft, EndsEarly}
use Rattle.seal_replay.specs.Laws.{beside}
use Rattle.seal_replay.proofs.Registers.{registers_shown, full_shown}
use Rattle.executor.specs.Proving.{words_taken, read_by, read_at, run_words, seal_from}
use Rattle.executor.proofs.Cutting.{at_or_below, before_end, run_ready}
use Rattle.executor.proofs.Forward.{foot_in, act_back, act_faults, step_faults, step_words, run_words_are, halt_takes}

-- ---- what a step takes is there
length-read : (s : State) → words_taken (act s) ≤ length s.words → length (read_by s) ≡ words_taken (act s)
unfolding read_by
length-read s h = length-take-le (words_taken (act s)) s.words h

supply : (u v w : State) (rest : List ℕ) → v.words ≡ u.words ++ rest → step_of v ≡ Went w → length rest ≤ length w.words → (call : Call) → act v ≡ Does call → takes call ≤ length u.words
supply u v w rest same goes low call e =
    let has : takes call ≤ length v.words = subst (λ (a : Act). IsSupplied (length v.words) a) e (supplied_act v) in
    let reads : words_taken (act v) ≡ takes call = ap words_taken e in
    let size : length (read_by v) ≡ words_taken (act v) = length-read v (omega (arith, reads, has)) in
    let all : length v.words ≡ length (read_by v) + length w.words = ap length (step_words v w goes) ∙ length-append (read_by v) w.words in
    let two : length v.words ≡ length u.words + length rest = ap length same ∙ length-append u.words rest in
    omega (arith, reads, size, all, two, low)

went_not_fault : (s w : State) (f : Fault) → step_of s ≡ Went w → act s ≡ Faults f → ⊥
went_not_fault s w f goes e = not_ended s w f goes (act_faults s f e)

halt_not_fault : (s : State) (code : ℕ) (f : Fault) → step_of s ≡ Halted code → act s ≡ Faults f → ⊥
halt_not_fault s code f stops e = halted_not_faulted code f (sym stops ∙ act_faults s f e)

like_went_back : (pages : List ℕ) (more : Beside) (w : State) (e : Event) → AlikeEvents pages more e (Went w) → (t : State) × (e ≡ Went t) × Alike pages more t w
like_went_back pages more w (Went t) h = (t, refl, h)
like_went_back pages more w (Halted c) h = absurd h
like_went_back pages more w (Faulted f) h = absurd h

like_halted_back : (pages : List ℕ) (more : Beside) (c : ℕ) (e : Event) → AlikeEvents pages more e (Halted c) → e ≡ Halted c
like_halted_back pages more c (Went t) h = absurd h
like_halted_back pages more c (Halted d) h = ap Halted (sym h)
like_halted_back pages more c (Faulted f) h = absurd h

module _ (pages : List ℕ) (more : Beside) (u v : State) (ready : IsReady u) (same : Alike pages more u v) (shown_v : Within (foot_of v) pages) where
  feet_from : act u ≡ act v → foot_of u ≡ foot_of v
  feet_from acts = sym (foot_same u v same.pc (sym acts))

  events_from : act u ≡ act v → ((f : Fault) → act v ≡ Faults f → ⊥) → AlikeEvents pages more (step_of u) (step_of v)
  events_from acts fine =
      (step_reads_its_foot pages more u v ready.aligned same (subst (λ (f : List ℕ). Within f pages) (sym (feet_from acts)) shown_v)
      (λ f. let (g, e) = step_faults u InputEnd f in absurd (fine g (sym acts ∙ e)))).2

  step_forward : (w : State) → step_of v ≡ Went w → length more.words ≤ length w.words → (t : State) × (step_of u ≡ Went t) × Alike pages more t w × (foot_of u ≡ foot_of v)
  step_forward w goes low =
      let fine = λ (f : Fault) (e : act v ≡ Faults f). went_not_fault v w f goes e in
      let acts : act u ≡ act v = act_back pages more u v ready.aligned same shown_v (supply u v w more.words same.words goes low) fine in
      let (t, on, like) = like_went_back pages more w (step_of u) (subst (λ (e : Event). AlikeEvents pages more (step_of u) e) goes (events_from acts fine)) in
      (t, on, like, feet_from acts)

  halt_forward : (code : ℕ) → step_of v ≡ Halted code → (step_of u ≡ Halted code) × (foot_of u ≡ foot_of v)
  halt_forward code stops =
      let fine = λ (f : Fault) (e : act v ≡ Faults f). halt_not_fault v code f stops e in
      let none : words_taken (act v) ≡ 0 = halt_takes v code stops in
      let acts : act u ≡ act v = act_back pages more u v ready.aligned same shown_v (λ call e. let reads : words_taken (act v) ≡ takes call = ap words_taken e in omega (arith, none, reads)) fine in
      (like_halted_back pages more code (step_of u) (subst (λ (e : Event). AlikeEvents pages more (step_of u) e) stops (events_from acts fine)), feet_from acts)

-- ---- a run
words_fall : (s : State) (k n : ℕ) (v z : State) → after s k ≡ Some v → after s n ≡ Some z → k ≤ n → length z.words ≤ length v.words
words_fall s k n v z h g low =
    let on : after v (n - k) ≡ Some z = sym (after-add s k (n - k) v h) ∙ ap (after s) (omega arith) ∙ g in
    let all : length v.words ≡ length (run_words v (n - k)) + length z.words = ap length (run_words_are v (n - k) z on) ∙ length-append (run_words v (n - k)) z.words in
    omega (arith, all)

module _ (pages : List ℕ) (more : Beside) (e s : State) (ready : IsReady e) (same : Alike pages more e s) (n : ℕ) (z : State) (goes : after s n ≡ Some z)
    (feet : (k : ℕ) (v : State) → k < n → after s k ≡ Some v → Within (foot_of v) pages) (rest : length more.words ≡ length z.words) where
  -- the replay is where the run is
  run_forward : (k : ℕ) → k ≤ n → (v : State) → after s k ≡ Some v → (t : State) × (after e k ≡ Some t) × Alike pages more t v × IsReady t
  unfolding after
  run_forward zero low v h = (e, refl, subst (λ (w : State). Alike pages more e w) (same_Some s v h) same, ready)
  run_forward (suc k) low v h =
      let (w, before, on) = step_back s k v h in
      let (t, there, like, fit) = run_forward k (omega arith) w before in
      let left : length z.words ≤ length v.words = words_fall s (suc k) n v z h goes low in
      let (u, step, alike, foot) = step_forward pages more t w fit like (feet k w (omega arith) before) v on (omega (arith, left, rest)) in
      (u, step_on e k t u there step, alike, (step_keeps t u step).ready fit)

  -- and touches the same pages
  touched_forward : (k : ℕ) → k ≤ n → run_pages e k ≡ run_pages s k
  unfolding run_pages
  touched_forward zero low = refl
  touched_forward (suc k) low =
      let (v, reached) = before_end s n z (suc k) goes low in
      let (w, before, on) = step_back s k v reached in
      let (t, there, like, fit) = run_forward k (omega arith) w before in
      let left : length z.words ≤ length v.words = words_fall s (suc k) n v z reached goes low in
      let (u, step, alike, foot) = step_forward pages more t w fit like (feet k w (omega arith) before) v on (omega (arith, left, rest)) in
      ap₂ ◌++◌ (touched_forward k (omega arith)) (ap pages_at there ∙ foot ∙ sym (ap pages_at before))

-- ---- the tests of a replay
below_all : {A : Type 0} (f : ℕ → Option A) (n : ℕ) → ((k : ℕ) → k < n → f k ≡ None) → first_below f n ≡ None
unfolding first_below
below_all f zero h = refl
below_all f (suc n) h = both_none (first_below f n) (f n) (below_all f n (λ k l. h k (omega arith))) (h n (omega arith))

open_step : (b : Bool) (q : ℕ) (o : Option ℕ) → b ≡ true → o ≡ None → cond (not b) (Some q) o ≡ None
open_step true q o e h = h
open_step false q o e h = absurd (cc)

all_found : (known pages : List ℕ) → Within pages known → first_closed (is_among known) pages ≡ None
all_found known [] h = refl
all_found known (p ∷ pages) h =
    open_step (is_among known p) p (first_closed (is_among known) pages) (is_among-from_Contains known p (h p (Contains-head p p pages refl)))
    (all_found known pages (λ q c. h q (Contains-tail q p pages c)))

pub touched_in : (s : State) (n k : ℕ) (v : State) → k < n → after s k ≡ Some v → (p : ℕ) → Contains (foot_of v) p → Contains (run_pages s n) p
unfolding run_pages
touched_in s zero k v low h p c = absurd (omega arith)
touched_in s (suc n) k v low h p c =
    ⊎_elim
    (λ (less : k < n). Contains-append_left (run_pages s n) (pages_at (after s n)) p (touched_in s n k v less h p c))
    (λ (same : k ≡ n). Contains-append_right (run_pages s n) (pages_at (after s n)) p (subst (λ (o : Option State). Contains (pages_at o) p) (sym h ∙ ap (after s) same) c))
    (at_or_below k n (omega arith))

pub record Replayed (H : List ℕ → List ℕ) (s : State) (n : ℕ) (exit : Exit) (z : State) : Type 0 where
  pub state : State
  pub clean : stop_of (seal_from H s n) ≡ None
  pub ends : ending (seal_from H s n) ≡ Some (exit, state)
  pub like : Alike (open_numbers 0 (seal_from H s n).tree) (beside s z.words) state z

module _ (H : List ℕ → List ℕ) (s : State) (n : ℕ) (ready : IsReady s) (some_steps : 0 < n) where
  abbrev tree : Part
  tree = part_of H (page_of (full s)) (ascending (run_pages s n)) 18 0

  abbrev pages : List ℕ
  pages = open_numbers 0 tree

  abbrev seal : Seal
  seal = seal_from H s n

  pub agrees : Agree H (page_of (full s)) 18 0 tree
  agrees = part_agrees H (page_of (full s)) (ascending (run_pages s n)) 18 0

  shows : AgreeOn pages (flat (fill tree)) (full s)
  shows = tree_shows H (full s) tree agrees

  -- the footprints of the stretch are open
  pub feet : (k : ℕ) (v : State) → k < n → after s k ≡ Some v → Within (foot_of v) pages
  feet k v low h p c =
      let fit : IsReady v = run_ready s k v ready h in
      let small : p < 262144 = foot_in v fit.aligned p c in
      asked_opened H (page_of (full s)) (ascending (run_pages s n)) 18 0 p (Contains-ascending (run_pages s n) p (touched_in s n k v low h p c), omega (arith, small))

  -- and no other page is
  opened_touched : Within pages (run_pages s n)
  opened_touched p c = Contains-from_ascending (run_pages s n) p (opened_asked H (page_of (full s)) (ascending (run_pages s n)) 18 0 p c).0

  pub opens_registers : Contains pages 262143
  unfolding after
  opens_registers = feet 0 s some_steps refl 262143 (foot_has_registers s)

  same_registers : registers_in (flat (fill tree)) ≡ s.x
  same_registers = registers_shown pages (flat (fill tree)) s ready.registers opens_registers shows

  enters_ready : IsReady (enter seal)
  enters_ready = record {
    aligned = ready.aligned;
    registers = subst (λ (x : List ℕ). AreRegisters x) (sym same_registers) ready.registers;
    is_word = ready.is_word;
  }

  enters_alike : (rest : List ℕ) → s.words ≡ run_words s n ++ rest → Alike pages (beside s rest) (enter seal) s
  enters_alike rest supplied = record {
    pc = refl;
    x = sym same_registers;
    words = supplied;
    journal = sym (append-nil s.journal);
    calls = sym (append-nil s.calls);
    memory = subst (λ (x : List ℕ). AgreeOn pages (full_of (flat (fill tree)) x) (full s)) (sym same_registers) (full_shown pages (flat (fill tree)) s shows);
  }

  -- no stop, from what each step and the end say
  no_words_left : (t z : State) → z.words ≡ t.words ++ z.words → length t.words ≡ 0
  no_words_left t z e = let two : length z.words ≡ length t.words + length z.words = ap length e ∙ length-append t.words z.words in omega (arith, two)

  words_none : (exit : Exit) (t : State) → length t.words ≡ 0 → words_stop (exit, t) ≡ None
  words_none exit t e = let test : eqb (length t.words) 0 ≡ true = grind (arith, nat_tests) in ap (λ (b : Bool). cond b None (Some (WordsLeft (length t.words)))) test

  unstopped : (exit : Exit) (t z : State) → ((k : ℕ) → k < n → step_stop seal k ≡ None) → ending seal ≡ Some (exit, t) → z.words ≡ t.words ++ z.words → run_pages (enter seal) n ≡ run_pages s n → stop_of seal ≡ None
  unfolding stop_of
  unstopped exit t z steps ends words pages_same =
      both_none (first_below (step_stop seal) n) _ (below_all (step_stop seal) n steps)
      (both_none (option_and_then words_stop (ending seal)) _ (ap (option_and_then words_stop) ends ∙ words_none exit t (no_words_left t z words))
      (ap idle_stop
      (all_found (run_pages (enter seal) n) pages (λ p c. subst (λ (ps : List ℕ). Contains ps p) (sym pages_same) (opened_touched p c)))))

  event_none : (k : ℕ) (t : State) → after (enter seal) k ≡ Some t → Within (foot_of t) pages → event_stop n k (step_of t) ≡ None → step_stop seal k ≡ None
  unfolding step_stop
  event_none k t there within event =
      ap (option_and_then (stop_at (is_among pages) n k)) there
      ∙ both_none (page_stop k (first_closed (is_among pages) (foot_of t))) (event_stop n k (step_of t)) (ap (page_stop k) (all_found pages (foot_of t) within)) event

  -- a step before the last
  module _ (m : ℕ) (z : State) (goes : after s m ≡ Some z) (up_to : m ≤ n) (supplied : s.words ≡ run_words s n ++ z.words) where
    alike : Alike pages (beside s z.words) (enter seal) s
    alike = enters_alike z.words supplied

    feet_here : (k : ℕ) (v : State) → k < m → after s k ≡ Some v → Within (foot_of v) pages
    feet_here k v low h = feet k v (omega (arith, up_to)) h

    forward : (k : ℕ) → k ≤ m → (v : State) → after s k ≡ Some v → (t : State) × (after (enter seal) k ≡ Some t) × Alike pages (beside s z.words) t v × IsReady t
    forward k low v h = run_forward pages (beside s z.words) (enter seal) s enters_ready alike m z goes feet_here refl k low v h

    early : (k : ℕ) → k < m → step_stop seal k ≡ None
    early k low =
        let (v, reached) = before_end s m z (suc k) goes low in
        let (w, before, on) = step_back s k v reached in
        let (t, there, like, fit) = forward k (omega arith) w before in
        let left : length z.words ≤ length v.words = words_fall s (suc k) m v z reached goes low in
        let (u, step, alike_after, foot) = step_forward pages (beside s z.words) t w fit like (feet_here k w low before) v on left in
        event_none k t there (subst (λ (f : List ℕ). Within f pages) (sym foot) (feet_here k w low before)) (ap (event_stop n k) step)

  pub split_end : (z : State) → after s n ≡ Some z → Replayed H s n Split z
  unfolding ending
  split_end z goes =
      let supplied : s.words ≡ run_words s n ++ z.words = run_words_are s n z goes in
      let (t, there, like, fit) = forward n z goes (omega arith) supplied n (omega arith) z goes in
      let ends : ending seal ≡ Some (Split, t) =
      ap (λ (o : Option State). option_or (option_and_then split o) (option_and_then (λ s. halting s (step_of s)) (after (enter seal) (n - 1)))) there in
      let same_pages : run_pages (enter seal) n ≡ run_pages s n =
      touched_forward pages (beside s z.words) (enter seal) s enters_ready (enters_alike z.words supplied) n z goes (λ k v low h. feet k v low h) refl n (omega arith) in
      record {
        state = t;
        clean = unstopped Split t z (early n z goes (omega arith) supplied) ends like.words same_pages;
        ends = ends;
        like = like;
      }

-- the same for a stretch that ends in a halt
module _ (H : List ℕ → List ℕ) (s : State) (m : ℕ) (ready : IsReady s) (z : State) (code : ℕ) (goes : after s m ≡ Some z) (stops : step_of z ≡ Halted code) where
  reads_none : read_by z ≡ []
  unfolding read_by
  reads_none = ap (λ (k : ℕ). take k z.words) (halt_takes z code stops)

  supplied : s.words ≡ run_words s (suc m) ++ z.words
  unfolding run_words
  supplied =
      run_words_are s m z goes
      ∙ ap (λ (ws : List ℕ). ws ++ z.words) (sym (append-nil (run_words s m)) ∙ ap (λ (ws : List ℕ). run_words s m ++ ws) (sym (ap read_at goes ∙ reads_none)))

  abbrev halt_seal : Seal
  halt_seal = seal_from H s (suc m)

  some : 0 < suc m
  some = omega arith

  last_event : event_stop (suc m) m (Halted code) ≡ None
  last_event = let test : eqb (m + 1) (suc m) ≡ true = grind (arith, nat_tests) in ap (λ (b : Bool). cond b None (Some (EndsEarly m))) test

  gone : (t : State) → after (enter halt_seal) m ≡ Some t → step_of t ≡ Halted code → after (enter halt_seal) (suc m) ≡ None
  unfolding after
  gone t there halts = ap (option_and_then (λ u. state_gone (step_of u))) there ∙ ap state_gone halts

  halt_ending : (t : State) → after (enter halt_seal) m ≡ Some t → step_of t ≡ Halted code → ending halt_seal ≡ Some (HaltedWith code, t)
  unfolding ending
  halt_ending t there halts =
      let near : after (enter halt_seal) (suc m - 1) ≡ Some t = ap (after (enter halt_seal)) (omega arith) ∙ there in
      ap₂ (λ (o p : Option State). option_or (option_and_then split o) (option_and_then (λ s. halting s (step_of s)) p)) (gone t there halts) near
      ∙ ap (halting t) halts

  halt_touched : (t : State) → after (enter halt_seal) m ≡ Some t → foot_of t ≡ foot_of z → run_pages (enter halt_seal) m ≡ run_pages s m → run_pages (enter halt_seal) (suc m) ≡ run_pages s (suc m)
  unfolding run_pages
  halt_touched t there foot same = ap₂ ◌++◌ same (ap pages_at there ∙ foot ∙ sym (ap pages_at goes))

  pub halt_end : Replayed H s (suc m) (HaltedWith code) z
  halt_end =
      let low : m ≤ suc m = omega arith in
      let (t, there, like, fit) = forward H s (suc m) ready some m z goes low supplied m (omega arith) z goes in
      let within : Within (foot_of z) (pages H s (suc m) ready some) = feet H s (suc m) ready some m z (omega arith) goes in
      let (halts, foot) = halt_forward (pages H s (suc m) ready some) (beside s z.words) t z fit like within code stops in
      let ends = halt_ending t there halts in
      let same_pages : run_pages (enter halt_seal) m ≡ run_pages s m =
      touched_forward (pages H s (suc m) ready some) (beside s z.words) (enter halt_seal) s (enters_ready H s (suc m) ready some) (enters_alike H s (suc m) ready some z.words supplied) m z goes
      (λ k v l h. feet H s (suc m) ready some k v (omega arith) h) refl m (omega arith) in
      let steps : (k : ℕ) → k < suc m → step_stop halt_seal k ≡ None =
      λ k l. ⊎_elim (λ (b : k < m). early H s (suc m) ready some m z goes low supplied k b)
      (λ (b : k ≡ m). ap (step_stop halt_seal) b ∙ event_none H s (suc m) ready some m t there (subst (λ (f : List ℕ). Within f (pages H s (suc m) ready some)) (sym foot) within) (ap (event_stop (suc m) m) halts ∙ last_event))
      (at_or_below k m (omega arith)) in
      record {
        state = t;
        clean = unstopped H s (suc m) ready some (HaltedWith code) t z steps ends like.words (halt_touched t there foot same_pages);
        ends = ends;
        like = like;
      }
