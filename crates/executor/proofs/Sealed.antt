-- The seal of a segment that is whole. H is the digest function.
use Rattle.std.proofs.Common.{◌≡◌, ◌≢◌, ◌⊎◌, inl, inr, ℕ, zero, suc, ◌+◌, ◌-◌, ◌/◌, ◌%◌, ◌^◌, ◌<◌, ◌≤◌, List, [], ◌∷◌, ◌++◌, length, take, drop, Option, Some, None, refl, sym, ap, ap₂, ◌∙◌, subst, arith, length-append, append-nil, append_assoc}
use Rattle.std.specs.Prelude.{All, Contains}
use Rattle.page_core.specs.Images.{Image}
use Rattle.page_core.specs.Memory.{ascending}
use Rattle.page_core.specs.Memories.{page_of}
use Rattle.page_core.specs.Pages.{Pages, ArePages}
use Rattle.page_core.specs.Stored.{Stored, stored_pages}
use Rattle.page_core.proofs.Bytes.{page_same}
use Rattle.page_core.proofs.Listed.{Contains-head, Contains-tail}
use Rattle.digest_core.specs.Digests.{IsDigest}
use Rattle.part_tree.specs.Part.{part_of}
use Rattle.part_tree.specs.Canonical.{IsCanonical}
use Rattle.part_tree.proofs.Formed.{canonical_form}
use Rattle.page_tree.specs.Grown.{AscendFrom}
use Rattle.page_tree.proofs.Parted.{same_part}
use Rattle.rv_step.proofs.Full.{full-below}
use Rattle.rv_step.specs.Machine.{State, Halted, step_of, full}
use Rattle.rv_step.specs.Laws.{IsReady}
use Rattle.rv_step.specs.Runs.{start, after, run_pages}
use Rattle.rv_step.proofs.Runs.{after-add}
use Rattle.claim_types.specs.declared.claim.Exit.{Exit}
use Rattle.claim_types.specs.declared.claim.Exit.TheVariants.{Split, Halted as HaltedWith}
use Rattle.receipt_types.specs.Seals.{Seal}
use Rattle.receipt_types.specs.Bundles.{item}
use Rattle.flat_machine.specs.Going.{Going, flat_state, went_steps_in, HaltsWith, IsRunOf}
use Rattle.seal_replay.specs.Replay.{stop_of}
use Rattle.executor.specs.Segments.{done_in, segments, lengths}
use Rattle.executor.specs.Proving.{read_by, read_at, run_words, seal_from, seals_from, cut_seals, EndsAfter}
use Rattle.flat_machine.specs.Following.{HoldsMemory}
use Rattle.executor.specs.Cutting.{Cutting, seal_of, AreOpened, IsUnderWay, IsOver, CutsRun, IsLongest, IsWhole, IsCutting, IsCut}
use Rattle.executor.proofs.Cutting.{run_ready, before_end, fits_tells, segments_some, item-seals_from}
use Rattle.executor.proofs.Ordered.{ascending_some}
use Rattle.page_core.proofs.Ascending.{Ascend, ascends, Contains-ascending, Contains-from_ascending}
use Rattle.executor.proofs.Limited.{used_few, steps_cost, touched_low, touched_registers}
use Rattle.executor.proofs.Replays.{touched_in}
use Rattle.executor.proofs.Claimed.{stretches_replay, run_leaves}
use Rattle.executor.proofs.UnderWay.{went_all}
use Rattle.flat_machine.proofs.Followed.{all_below}
use Rattle.executor.proofs.Forward.{run_words_are, halt_takes}

-- ---- where a segment ends
-- how so many steps from s end, and which words are left then
pub record EndsThere (s : State) (n : ℕ) (words : List ℕ) : Type 0 where
  pub exit : Exit
  pub z : State
  pub ends : EndsAfter s n exit z
  pub words_are : s.words ≡ run_words s n ++ words
  pub each : (k : ℕ) → k < n → (u : State) × (after s k ≡ Some u)

-- a halt reads no word
read_none : (z : State) (code : ℕ) → step_of z ≡ Halted code → read_by z ≡ []
unfolding read_by
read_none z code halts = ap (λ (n : ℕ). take n z.words) (halt_takes z code halts)

words_halted : (s : State) (n : ℕ) (z : State) (code : ℕ) → 1 ≤ n → after s (n - 1) ≡ Some z → step_of z ≡ Halted code → s.words ≡ run_words s n ++ z.words
unfolding run_words
words_halted s zero z code some at halts = absurd (omega arith)
words_halted s (suc m) z code some at halts =
    let there : after s m ≡ Some z = ap (after s) (omega arith) ∙ at in
    let none : read_at (after s m) ≡ [] = ap read_at there ∙ read_none z code halts in
    run_words_are s m z there ∙ ap (λ (ws : List ℕ). ws ++ z.words) (sym (ap (λ (ws : List ℕ). run_words s m ++ ws) none ∙ append-nil (run_words s m)))

ends_there : (g : Going) (image : Image) (words : List ℕ) → IsRunOf g image words → (b n : ℕ) (s : State) → after (start image words) b ≡ Some s → g.steps ≡ b + n → 1 ≤ n → EndsThere s n g.words
ends_there g image words run b n s reached steps some = go g.halted refl
  where
    go : (o : Option ℕ) → g.halted ≡ o → EndsThere s n g.words
    go None on =
        let at : after s n ≡ Some (flat_state g) =
        sym (after-add (start image words) b n s reached) ∙ ap (after (start image words)) (sym steps) ∙ ap (λ (o : Option ℕ). after (start image words) (went_steps_in g.steps o)) (sym on) ∙ run.reached in
        record { exit = Split; z = flat_state g; ends = at; words_are = run_words_are s n (flat_state g) at; each = λ k low. before_end s n (flat_state g) k at (omega (arith, low)) }
    go (Some code) halted =
        let halts : (1 ≤ g.steps) × (step_of (flat_state g) ≡ Halted code) = subst (λ (o : Option ℕ). HaltsWith (flat_state g) g.steps o) halted run.halts in
        let last : b + (n - 1) ≡ g.steps - 1 = omega (arith, steps, some) in
        let at : after s (n - 1) ≡ Some (flat_state g) =
        sym (after-add (start image words) b (n - 1) s reached) ∙ ap (after (start image words)) last ∙ ap (λ (o : Option ℕ). after (start image words) (went_steps_in g.steps o)) (sym halted) ∙ run.reached in
        record { exit = HaltedWith code; z = flat_state g; ends = (at, halts.1); words_are = words_halted s n (flat_state g) code some at halts.1; each = λ k low. before_end s (n - 1) (flat_state g) k at (omega (arith, low, some)) }

-- ---- the parts of its seal
append-left : (xs ys zs ws : List ℕ) → xs ++ ys ≡ zs ++ ws → length xs ≡ length zs → xs ≡ zs
append-left [] ys [] ws e same = refl
append-left [] ys (z ∷ zs) ws e same = absurd (omega (arith, same))
append-left (x ∷ xs) ys [] ws e same = absurd (omega (arith, same))
append-left (x ∷ xs) ys (z ∷ zs) ws e same = ap₂ (λ (a : ℕ) (l : List ℕ). a ∷ l) (first x z (xs ++ ys) (zs ++ ws) e) (append-left xs ys zs ws (rest x z (xs ++ ys) (zs ++ ws) e) (omega (arith, same)))
  where
    first : (x z : ℕ) (xs zs : List ℕ) → ◌≡◌ {A = List ℕ} (x ∷ xs) (z ∷ zs) → x ≡ z
    first x z xs zs e = cc

    rest : (x z : ℕ) (xs zs : List ℕ) → ◌≡◌ {A = List ℕ} (x ∷ xs) (z ∷ zs) → xs ≡ zs
    rest x z xs zs e = cc

drop-append : (xs ys : List ℕ) → drop (length xs) (xs ++ ys) ≡ ys
drop-append [] ys = refl
drop-append (x ∷ xs) ys = drop-append xs ys

-- the words that were read since the segment began
pub words_read : (g : Going) (image : Image) (words : List ℕ) → IsRunOf g image words → (b n : ℕ) (s : State) → after (start image words) b ≡ Some s → s.words ≡ run_words s n ++ g.words → (read : ℕ) → read ≡ length (run_words (start image words) b)
    → drop read g.read ≡ run_words s n
words_read g image words run b n s reached left read is =
    let earlier : List ℕ = run_words (start image words) b in
    let all : g.read ++ g.words ≡ (earlier ++ run_words s n) ++ g.words =
    run.all ∙ run_words_are (start image words) b s reached ∙ ap (λ (ws : List ℕ). earlier ++ ws) left ∙ sym (append_assoc earlier (run_words s n) g.words) in
    let sizes : length g.read + length g.words ≡ length (earlier ++ run_words s n) + length g.words =
    sym (length-append g.read g.words) ∙ ap length all ∙ length-append (earlier ++ run_words s n) g.words in
    let parts : g.read ≡ earlier ++ run_words s n = append-left g.read g.words (earlier ++ run_words s n) g.words all (omega (arith, sizes)) in
    ap₂ (λ (n : ℕ) (ws : List ℕ). drop n ws) is parts ∙ drop-append earlier (run_words s n)

-- the part trees of a tree are those of the state whose memory it holds
pub tree_of : (H : List ℕ → List ℕ) (tree : Stored) (s : State) (pages : List ℕ) → HoldsMemory tree s → part_of H (stored_pages tree) pages 18 0 ≡ part_of H (page_of (full s)) pages 18 0
tree_of H tree s pages holds = same_part H (page_of (full s)) (stored_pages tree) pages 18 0 (λ page below. holds page (omega (arith, below)))

-- ---- the pages that it opens
pub ascend_from : (least : ℕ) (ps : List ℕ) → Ascend least ps → ((p : ℕ) → Contains ps p → p < 262144) → AscendFrom least ps
ascend_from least [] up low = tt
ascend_from least (p ∷ ps) up low =
    (up.0, low p (Contains-head p p ps refl), subst (λ (n : ℕ). AscendFrom n ps) (omega arith) (ascend_from (suc p) ps up.1 (λ q h. low q (Contains-tail q p ps h))))

-- ---- the lengths of the segments, this one among them
pub cuts_here : (r : State) (c : Cutting) (u : IsUnderWay r c) → IsLongest r c u → 1 ≤ c.steps
    → lengths c.limits r ≡ u.place.given ++ c.steps ∷ segments c.limits (done_in c.limits.limit r - c.number - 1) (after u.place.s c.steps) (done_in c.limits.limit r - u.place.b - c.steps)
cuts_here r c u whole some =
    let most : done_in c.limits.limit r - c.number ≡ suc (done_in c.limits.limit r - c.number - 1) = omega (arith, u.place.fewer, u.within, some) in
    u.place.cuts
    ∙ ap (λ (ns : List ℕ). u.place.given ++ ns)
    (ap (λ (k : ℕ). segments c.limits k (Some u.place.s) (done_in c.limits.limit r - u.place.b)) most
    ∙ segments_some c.limits (done_in c.limits.limit r - c.number - 1) u.place.s (done_in c.limits.limit r - u.place.b) (omega (arith, u.within, some))
    ∙ ap (λ (n : ℕ). n ∷ segments c.limits (done_in c.limits.limit r - c.number - 1) (after u.place.s n) (done_in c.limits.limit r - u.place.b - n)) whole.longest)

-- ---- the seal
module _ (H : List ℕ → List ℕ) (c : Cutting) (some : 1 ≤ c.steps) (pc : ℕ) (words' : List ℕ) (shared : Stored) (pages : List ℕ)
    (pc_is : pc ≡ c.beginning.pc) (words_are : words' ≡ drop c.beginning.read c.going.read) (shared_is : shared ≡ c.beginning.tree) (pages_are : pages ≡ c.meter.touched) where
  abbrev pub made : Seal
  made = seal_of H pc c.steps words' shared pages

  seal_is : (image : Image) (words : List ℕ) → IsRunOf c.going image words → (u : IsUnderWay (start image words) c) → made ≡ seal_from H u.place.s c.steps
  seal_is image words run u =
      let ends = ends_there c.going image words run u.place.b c.steps u.place.s u.place.reached u.steps some in
      let one : pc ≡ u.place.s.pc = pc_is ∙ u.beginning.pc in
      let two : words' ≡ run_words u.place.s c.steps = words_are ∙ words_read c.going image words run u.place.b c.steps u.place.s u.place.reached ends.words_are c.beginning.read u.beginning.read in
      let three : part_of H (stored_pages shared) pages 18 0 ≡ part_of H (page_of (full u.place.s)) (ascending (run_pages u.place.s c.steps)) 18 0 =
      ap₂ (λ (t : Stored) (ps : List ℕ). part_of H (stored_pages t) ps 18 0) shared_is (pages_are ∙ u.touched)
      ∙ tree_of H c.beginning.tree u.place.s (ascending (run_pages u.place.s c.steps)) u.beginning.memory in
      λ i. record { pc = one i; steps = c.steps; words = two i; tree = three i }

  -- it is the one of the run's seals whose number comes next
  pub seal_next : (image : Image) (words : List ℕ) → (stands : CutsRun c image words) → IsWhole (start image words) c stands.segment → item (cut_seals H c.limits (start image words)) c.number ≡ Some made
  seal_next image words stands whole = go stands.segment whole
    where
      go : (segment : IsUnderWay (start image words) c ⊎ IsOver (start image words) c) → IsWhole (start image words) c segment → item (cut_seals H c.limits (start image words)) c.number ≡ Some made
      go (inl u) whole =
          ap (λ (ns : List ℕ). item (seals_from H (Some (start image words)) ns) c.number) (cuts_here (start image words) c u whole some)
          ∙ ap (item (seals_from H (Some (start image words)) (u.place.given ++ c.steps ∷ segments c.limits (done_in c.limits.limit (start image words) - c.number - 1) (after u.place.s c.steps) (done_in c.limits.limit (start image words) - u.place.b - c.steps)))) (sym u.place.number)
          ∙ item-seals_from H (start image words) u.place.given c.steps _ u.place.s (ap (after (start image words)) u.place.at ∙ u.place.reached)
          ∙ ap Some (sym (seal_is image words stands.run u))
      go (inr over) whole = absurd (omega (arith, over.steps, some))

  -- it keeps the limits of a receipt, and replays without a stop
  pub is_cut : IsCutting c → All (λ word. word < 2 ^ 32) words' → IsCanonical (part_of H (stored_pages shared) pages 18 0) → IsCut (record { number = c.number; seal = made })
  is_cut h small canonical = go h.stands.segment
    where
      go : IsUnderWay (start h.image h.words) c ⊎ IsOver (start h.image h.words) c → IsCut (record { number = c.number; seal = made })
      go (inl u) =
          let same = seal_is h.image h.words h.stands.run u in
          let ends = ends_there c.going h.image h.words h.stands.run u.place.b c.steps u.place.s u.place.reached u.steps some in
          let ready : IsReady u.place.s = run_ready (start h.image h.words) u.place.b u.place.s h.ready u.place.reached in
          let pc : pc ≡ u.place.s.pc = pc_is ∙ u.beginning.pc in
          let two : length words' ≡ length (run_words u.place.s c.steps) = ap (λ (seal : Seal). length seal.words) same in
          let bounds = fits_tells c.limits u.place.s c.steps u.fits in
          record {
            limits = record {
              numbers = record {
                aligned = ap (λ (n : ℕ). n % 4) pc ∙ ready.aligned;
                is_word = omega (arith, pc, ready.is_word);
                some_steps = omega (arith, some);
                few_steps = omega (arith, steps_cost u.place.s c.steps ends.each, bounds.0, h.limits.most_cycles);
                few_words = omega (arith, two, used_few u.place.s c.steps, bounds.0, h.limits.most_cycles);
              };
              are_words = small;
              tree = canonical;
            };
            unstopped = ap stop_of same ∙ stretches_replay H u.place.s c.steps ends.exit ends.z ready (omega (arith, some)) ends.ends;
          }
      go (inr over) = absurd (omega (arith, over.steps, some))

pub opened_pages : (c : Cutting) → IsCutting c → 1 ≤ c.steps → AreOpened c.meter.touched
opened_pages c h some = go h.stands.segment
  where
    go : IsUnderWay (start h.image h.words) c ⊎ IsOver (start h.image h.words) c → AreOpened c.meter.touched
    go (inl u) =
        let ready : IsReady u.place.s = run_ready (start h.image h.words) u.place.b u.place.s h.ready u.place.reached in
        let bounds = fits_tells c.limits u.place.s c.steps u.fits in
        let pages : List ℕ = run_pages u.place.s c.steps in
        subst AreOpened (sym u.touched) (record {
          some = ascending_some pages 262143 (touched_registers u.place.s c.steps (omega (arith, some)));
          few = omega (arith, bounds.1, h.limits.most_pages);
          ascending = ascend_from 0 (ascending pages) (ascends pages) (λ p e. touched_low u.place.s c.steps ready p (Contains-from_ascending pages p e));
        })
    go (inr over) = absurd (omega (arith, over.steps, some))

-- so its part tree has its canonical form
pub opened_canonical : (H : List ℕ → List ℕ) → ((x : List ℕ) → IsDigest (H x)) → (memory : Pages) → ArePages memory → (pages : List ℕ) → AreOpened pages → IsCanonical (part_of H memory pages 18 0)
opened_canonical H is_digest memory are pages opened = canonical_form H memory pages is_digest are (all_below 0 pages opened.ascending) opened.some opened.few

-- it begins where words were read
pub read_within : (c : Cutting) → IsCutting c → 1 ≤ c.steps → c.beginning.read ≤ length c.going.read
read_within c h some = go h.stands.segment
  where
    go : IsUnderWay (start h.image h.words) c ⊎ IsOver (start h.image h.words) c → c.beginning.read ≤ length c.going.read
    go (inl u) =
        let ends = ends_there c.going h.image h.words h.stands.run u.place.b c.steps u.place.s u.place.reached u.steps some in
        let all : length c.going.read + length c.going.words ≡ length (run_words (start h.image h.words) u.place.b) + (length (run_words u.place.s c.steps) + length c.going.words) =
        sym (length-append c.going.read c.going.words) ∙ ap length (h.stands.run.all ∙ run_words_are (start h.image h.words) u.place.b u.place.s u.place.reached ∙ ap (λ (ws : List ℕ). run_words (start h.image h.words) u.place.b ++ ws) ends.words_are)
        ∙ length-append (run_words (start h.image h.words) u.place.b) (run_words u.place.s c.steps ++ c.going.words) ∙ ap (λ (n : ℕ). length (run_words (start h.image h.words) u.place.b) + n) (length-append (run_words u.place.s c.steps) c.going.words) in
        omega (arith, u.beginning.read, all)
    go (inr over) = absurd (omega (arith, over.steps, some))

-- ---- the memory at its end
-- a page that it didn't touch is as it was
pub pages_left : (c : Cutting) → IsCutting c → 1 ≤ c.steps → c.outcome ≡ None → (page : ℕ) → page < 262144 → ¬ Contains c.meter.touched page → stored_pages c.beginning.tree page ≡ page_of (full (flat_state c.going)) page
pages_left c h some untold page low away = go h.stands.segment
  where
    go : IsUnderWay (start h.image h.words) c ⊎ IsOver (start h.image h.words) c → stored_pages c.beginning.tree page ≡ page_of (full (flat_state c.going)) page
    go (inl u) =
        let here : after u.place.s c.steps ≡ Some (flat_state c.going) =
        sym (after-add (start h.image h.words) u.place.b c.steps u.place.s u.place.reached) ∙ ap (after (start h.image h.words)) (sym u.steps) ∙ went_all c.going h.image h.words h.stands.run (h.halted untold) in
        let touched = λ (p : ℕ) (e : Contains (run_pages u.place.s c.steps) p). subst (λ (ps : List ℕ). Contains ps p) (sym u.touched) (Contains-ascending (run_pages u.place.s c.steps) p e) in
        let other : page ≢ 262143 = λ same. away (subst (λ (p : ℕ). Contains c.meter.touched p) (sym same) (touched 262143 (touched_registers u.place.s c.steps (omega (arith, some))))) in
        let left : (a : ℕ) → a / 1024 ≡ page → (flat_state c.going).memory a ≡ u.place.s.memory a =
        λ a at. run_leaves c.meter.touched u.place.s c.steps (flat_state c.going) here (λ k v less e p f. touched p (touched_in u.place.s c.steps k v less e p f)) a
        (λ f. away (subst (λ (p : ℕ). Contains c.meter.touched p) at f)) in
        u.beginning.memory page low
        ∙ page_same (full u.place.s) (full (flat_state c.going)) page
        (λ a at. full-below u.place.s.memory u.place.s.x a (omega (arith, at, low, other)) ∙ sym (left a at) ∙ sym (full-below (flat_state c.going).memory c.going.x a (omega (arith, at, low, other))))
    go (inr over) = absurd (omega (arith, over.steps, some))
