-- The frame of a step: it reads what its footprint shows, and writes nothing else.
use Rattle.std.proofs.Common.{◌≡◌, ℕ, zero, suc, ◌+◌, ◌-◌, ◌/◌, ◌%◌, ◌<◌, ◌≤◌, Bool, true, false, cond, leb, List, [], ◌∷◌, ◌++◌, length, take, drop, refl, sym, ap, ap₂, ◌∙◌, subst, arith, IsTrue, inl, inr, ◌⊎◌, ⊎_elim, append_assoc, length-append}
use Rattle.std.specs.Int.{w32, byte_len, to_le_bytes, from_le_bytes}
use Rattle.std.specs.List.{flat_map}
use Rattle.std.specs.Prelude.{Contains}
use Rattle.std.proofs.lemmas.List.Elements.{Contains-append_left, Contains-append_right}
use Rattle.std.proofs.lemmas.List.{take-append-le, drop-append-le}
use Rattle.std.proofs.lemmas.Bool.Decides.{nat_tests, leb_tells}
use Rattle.rv_isa.specs.declared.fault.Fault.TheVariants.{InputEnd, BadAddress}
use Rattle.host_calls.specs.declared.call.Call.{Call}
use Rattle.host_calls.specs.declared.call.Call.TheVariants.{Halt, Read, Commit, Assume}
use Rattle.page_core.specs.Memory.{top, bytes, put, pages_from, pages_of, Within, AgreeOn}
use Rattle.host_calls.specs.Calls.{fits_below, ranges_of, takes}
use Rattle.rv_step.specs.declared.act.Act.TheVariants.{Sets, Loads, Stores, Does, Faults}
use Rattle.rv_step.specs.declared.act.Act.{Act}
use Rattle.rv_step.specs.Machine.{data_of, State, Faulted, load_width, loaded_word, act_of_word, act_with_words, act, pages_of_all, call_event, act_event, step_of, foot_at, foot_of, step_cost, cost_of_act, full_of}
use Rattle.rv_isa.specs.Registers.{with_register}
use Rattle.rv_step.specs.Laws.{Beside, Alike, AlikeEvents, StepReadsItsFoot}
use Rattle.page_core.proofs.Bytes.{put-same}
use Rattle.rv_step.proofs.Full.{agree-after, bytes-agree, length-with_register}
use Rattle.rv_step.proofs.Feet.{data_within, code_in_foot}
use Rattle.page_core.proofs.Listed.{Contains-none, Contains-cases}
use Rattle.rv_step.proofs.Acts.{acts_are_sound}
use Rattle.rv_step.specs.Acts.{AllBelow}

-- the words that an act takes are there
abbrev pub IsSupplied : ℕ → Act → Type 0
IsSupplied left (Does call) = takes call ≤ left
IsSupplied left (Sets pc rd v) = Unit {0}
IsSupplied left (Loads op rd a) = Unit {0}
IsSupplied left (Stores op a v) = Unit {0}
IsSupplied left (Faults f) = Unit {0}

fits : (a n : ℕ) → IsTrue (fits_below a n) → (n ≡ 0) ⊎ (a + n ≤ top)
fits a zero h = inl refl
fits a (suc n) h = inr (grind (arith, nat_tests))

module _ (pages : List ℕ) (more : Beside) (s t : State) (same : Alike pages more s t) where
  -- a range of data reads the same
  pub range_same : (a n : ℕ) → IsTrue (fits_below a n) → Within (pages_of a n) pages → bytes s.memory a n ≡ bytes t.memory a n
  unfolding bytes
  range_same a n ok shown = go n (fits a n ok) shown
    where
      go : (n : ℕ) → (n ≡ 0) ⊎ (a + n ≤ top) → Within (pages_of a n) pages → bytes s.memory a n ≡ bytes t.memory a n
      go zero h w = refl
      go (suc n) (inl e) w = absurd (cc)
      go (suc n) (inr l) w = bytes-agree pages s.memory t.memory s.x t.x same.memory a (suc n) l w

  -- what is changed alike stays alike
  alike_after : (u v : State) → length u.x ≡ length s.x → v.pc ≡ u.pc → v.x ≡ u.x
      → v.words ≡ u.words ++ more.words → v.journal ≡ more.journal ++ u.journal → v.calls ≡ more.calls ++ u.calls
      → ((a : ℕ) → s.memory a ≡ t.memory a → u.memory a ≡ v.memory a)
      → Alike pages more u v
  alike_after u v size ep ex ew ej ec em =
      let start : AgreeOn pages (full_of s.memory s.x) (full_of t.memory s.x) =
      subst (λ (x : List ℕ). AgreeOn pages (full_of s.memory s.x) (full_of t.memory x)) same.x same.memory in
      record {
        pc = ep;
        x = ex;
        words = ew;
        journal = ej;
        calls = ec;
        memory =
            subst (λ (x : List ℕ). AgreeOn pages (full_of u.memory u.x) (full_of v.memory x)) (sym ex)
            (agree-after pages s.memory t.memory u.memory v.memory s.x u.x size start em);
      }

  pc_next : t.pc + 4 ≡ s.pc + 4
  pc_next = ap (λ p. p + 4) same.pc

  x_with : (rd v w : ℕ) → v ≡ w → with_register t.x rd w ≡ with_register s.x rd v
  x_with rd v w e = ap₂ (λ x n. with_register x rd n) same.x (sym e)

  call_alike : (call : Call) → AllBelow (ranges_of call) → Within (pages_of_all (ranges_of call)) pages → takes call ≤ length s.words
      → AlikeEvents pages more (call_event call s) (call_event call t)
  unfolding call_event pages_of_all
  call_alike (Halt code) ok shown has = refl
  call_alike (Read pointer count) ok shown has =
      let words_same : take count t.words ≡ take count s.words =
      ap (take count) same.words ∙ take-append-le count s.words more.words has in
      alike_after _ _ (length-with_register s.x 10 count) pc_next (x_with 10 count count refl)
      (ap (drop count) same.words ∙ drop-append-le count s.words more.words has) same.journal same.calls
      (λ a e. put-same s.memory t.memory pointer (flat_map (to_le_bytes w32) (take count s.words)) a e ∙ ap (λ ws. put t.memory pointer (flat_map (to_le_bytes w32) ws) a) (sym words_same))
  call_alike (Commit pointer count) ok shown has =
      let read : bytes s.memory pointer count ≡ bytes t.memory pointer count =
      range_same pointer count ok.0 (λ p h. shown p (Contains-append_left (pages_of pointer count) [] p h)) in
      alike_after _ _ (length-with_register s.x 10 count) pc_next (x_with 10 count count refl)
      same.words
      (ap₂ ◌++◌ same.journal (sym read) ∙ append_assoc more.journal s.journal (bytes s.memory pointer count))
      same.calls (λ a e. e)
  call_alike (Assume image journal) ok shown has =
      let image_same : bytes s.memory image 32 ≡ bytes t.memory image 32 =
      range_same image 32 ok.0 (λ p h. shown p (Contains-append_left (pages_of image 32) _ p h)) in
      let journal_same : bytes s.memory journal 32 ≡ bytes t.memory journal 32 =
      range_same journal 32 ok.1.0
      (λ p h. shown p (Contains-append_right (pages_of image 32) _ p (Contains-append_left (pages_of journal 32) [] p h))) in
      alike_after _ _ (length-with_register s.x 10 0) pc_next (x_with 10 0 0 refl)
      same.words same.journal
      (ap₂ (λ cs c. cs ++ (c ∷ [])) same.calls (λ i. record { image = sym image_same i; journal = sym journal_same i })
      ∙ append_assoc more.calls s.calls _)
      (λ a e. e)

  done_alike : (a : Act) → AllBelow (data_of a) → Within (pages_of_all (data_of a)) pages → IsSupplied (length s.words) a
      → AlikeEvents pages more (act_event a s) (act_event a t)
  unfolding act_event pages_of_all
  done_alike (Sets pc rd v) ok shown has =
      alike_after _ _ (length-with_register s.x rd v) refl (x_with rd v v refl) same.words same.journal same.calls (λ a e. e)
  done_alike (Loads op rd a) ok shown has =
      let read : bytes s.memory a (byte_len (load_width op)) ≡ bytes t.memory a (byte_len (load_width op)) =
      range_same a (byte_len (load_width op)) ok.0 (λ p h. shown p (Contains-append_left (pages_of a (byte_len (load_width op))) [] p h)) in
      alike_after _ _ (length-with_register s.x rd _) pc_next
      (x_with rd _ _ (ap (λ bs. loaded_word op (from_le_bytes (load_width op) bs)) read)) same.words same.journal same.calls (λ a e. e)
  done_alike (Stores op a v) ok shown has =
      alike_after _ _ refl pc_next same.x same.words same.journal same.calls (put-same s.memory t.memory a _)
  done_alike (Does call) ok shown has = call_alike call ok shown has
  done_alike (Faults f) ok shown has = refl

-- ---- the two states have the same act
supplied_same : (k l : ℕ) (a : Act) → k ≤ l → (act_with_words k a ≡ Faults InputEnd → l ≡ k) → act_with_words l a ≡ act_with_words k a
supplied_same k l (Sets pc rd v) h f = refl
supplied_same k l (Loads op rd a) h f = refl
supplied_same k l (Stores op a v) h f = refl
supplied_same k l (Does call) h f =
    ⊎_elim (λ p. let e : leb (takes call) l ≡ true = grind (arith, nat_tests, p.1) in rw (e, p.0) refl)
    (λ p. ap (λ n. act_with_words n (Does call)) (f (rw p.0 refl)))
    (leb_tells (takes call) k)
supplied_same k l (Faults f) h g = refl

supplied_is : (left : ℕ) (a : Act) → IsSupplied left (act_with_words left a)
supplied_is left (Sets pc rd v) = tt
supplied_is left (Loads op rd a) = tt
supplied_is left (Stores op a v) = tt
supplied_is left (Does call) = go (leb (takes call) left) refl
  where
    go : (b : Bool) → leb (takes call) left ≡ b → IsSupplied left (cond b (Does call) (Faults InputEnd))
    go true e = grind (arith, nat_tests)
    go false e = tt
supplied_is left (Faults f) = tt

pub supplied_act : (s : State) → IsSupplied (length s.words) (act s)
unfolding act
supplied_act s = go (leb top s.pc)
  where
    go : (b : Bool) → IsSupplied (length s.words) (cond b (Faults (BadAddress s.pc)) (act_with_words (length s.words) (act_of_word (from_le_bytes w32 (bytes s.memory s.pc 4)) s.pc s.x)))
    go true = tt
    go false = supplied_is (length s.words) _

-- an aligned word lies in one page
pub one_page : (pc : ℕ) (pages : List ℕ) → pc % 4 ≡ 0 → Contains pages (pc / 1024) → Within (pages_of pc 4) pages
unfolding pages_from
one_page pc pages aligned h p e =
    let one : (pc + 3) / 1024 + 1 - pc / 1024 ≡ 1 = omega arith in
    ⊎_elim (λ at. subst (Contains pages) (sym at) h) (λ t. absurd (Contains-none p t))
    (Contains-cases p (pc / 1024) [] (subst (λ (n : ℕ). Contains (pages_from (pc / 1024) n) p) one e))

pub act_out : (s : State) → leb top s.pc ≡ true → act s ≡ Faults (BadAddress s.pc)
unfolding act
act_out s e = rw e refl

pub act_in : (s : State) → leb top s.pc ≡ false
    → act s ≡ act_with_words (length s.words) (act_of_word (from_le_bytes w32 (bytes s.memory s.pc 4)) s.pc s.x)
unfolding act
act_in s e = rw e refl

module _ (pages : List ℕ) (more : Beside) (s t : State) (aligned : s.pc % 4 ≡ 0) (same : Alike pages more s t) (shown : Within (foot_of s) pages) where
  fetch_same : s.pc < top → bytes t.memory s.pc 4 ≡ bytes s.memory s.pc 4
  fetch_same h = sym (range_same pages more s t same s.pc 4 (grind (arith, nat_tests)) (one_page s.pc pages aligned (shown _ (code_in_foot s h))))

  act_same : (act s ≡ Faults InputEnd → more.words ≡ []) → act t ≡ act s
  act_same ends = ⊎_elim (λ p. out p.0) (λ p. within p.0 p.1) (leb_tells top s.pc)
    where
      out : leb top s.pc ≡ true → act t ≡ act s
      out e = act_out t (ap (leb top) same.pc ∙ e) ∙ ap (λ p. Faults (BadAddress p)) same.pc ∙ sym (act_out s e)

      left : length t.words ≡ length s.words + length more.words
      left = ap length same.words ∙ length-append s.words more.words

      at : ℕ → ℕ → List ℕ → Act
      at n pc x = act_of_word n pc x

      within : leb top s.pc ≡ false → s.pc < top → act t ≡ act s
      within e h =
          let decoded : act_of_word (from_le_bytes w32 (bytes t.memory t.pc 4)) t.pc t.x ≡ act_of_word (from_le_bytes w32 (bytes s.memory s.pc 4)) s.pc s.x =
          ap₂ (λ p x. act_of_word (from_le_bytes w32 (bytes t.memory p 4)) p x) same.pc same.x
          ∙ ap (λ bs. act_of_word (from_le_bytes w32 bs) s.pc s.x) (fetch_same h) in
          act_in t (ap (leb top) same.pc ∙ e)
          ∙ ap (act_with_words (length t.words)) decoded
          ∙ supplied_same (length s.words) (length t.words) (act_of_word (from_le_bytes w32 (bytes s.memory s.pc 4)) s.pc s.x) (omega (arith, left))
          (λ f. left ∙ ap (λ ws. length s.words + length ws) (ends (act_in s e ∙ f)) ∙ (omega arith))
          ∙ sym (act_in s e)

ended : (s : State) → act s ≡ Faults InputEnd → step_of s ≡ Faulted InputEnd
unfolding step_of act_event
ended s e = ap (λ a. act_event a s) e

pub foot_same : (s t : State) → t.pc ≡ s.pc → act t ≡ act s → foot_of t ≡ foot_of s
unfolding foot_of
foot_same s t e f =
    ap₂ foot_at e f

cost_same : (s t : State) → act t ≡ act s → step_cost t ≡ step_cost s
unfolding step_cost
cost_same s t e = ap cost_of_act e

events : (pages : List ℕ) (more : Beside) (s t : State) → act t ≡ act s → AlikeEvents pages more (act_event (act s) s) (act_event (act s) t)
    → AlikeEvents pages more (step_of s) (step_of t)
unfolding step_of
events pages more s t e h = subst (λ (a : Act). AlikeEvents pages more (act_event (act s) s) (act_event a t)) (sym e) h

pub step_reads_its_foot : StepReadsItsFoot
step_reads_its_foot pages more s t aligned same shown ends =
    let e : act t ≡ act s = act_same pages more s t aligned same shown (λ f. ends (ended s f)) in (
      foot_same s t same.pc e,
      cost_same s t e,
      events pages more s t e
          (done_alike pages more s t same (act s) (acts_are_sound s aligned).below (λ p h. shown p (data_within s p h)) (supplied_act s)),
    )
