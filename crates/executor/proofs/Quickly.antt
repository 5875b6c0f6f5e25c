-- Several steps more of the segment that is under way, each of which merely went on in pages that it had touched.
use Rattle.std.proofs.Common.{◌≡◌, ◌⊎◌, inl, inr, ℕ, zero, suc, ◌+◌, ◌<◌, ◌≤◌, Bool, true, false, ◌||◌, eqb, List, ◌++◌, length, Some, None, IsTrue, refl, sym, ap, ap₂, ◌∙◌, arith, add-zero, append-nil, append_assoc}
use Rattle.std.specs.Prelude.{Contains}
use Rattle.std.proofs.lemmas.List.Folds.{list_any-append}
use Rattle.page_core.specs.Images.{Image}
use Rattle.page_core.specs.Memory.{ascending, is_among}
use Rattle.page_core.proofs.Ascending.{is_among-ascending}
use Rattle.page_core.proofs.Listed.{Contains-from_is_among}
use Rattle.host_calls.specs.Meters.{Metered}
use Rattle.rv_step.specs.Machine.{State, foot_of, step_cost}
use Rattle.rv_step.specs.Runs.{start, after, run_cost, run_pages}
use Rattle.rv_step.specs.Quick.{GoesQuickly}
use Rattle.rv_step.proofs.Runs.{step_back, after-add, spent_next}
use Rattle.flat_machine.specs.Going.{Going, flat_state, IsRunOf}
use Rattle.executor.specs.Segments.{is_fault, done_in}
use Rattle.executor.specs.Marked.{with_steps}
use Rattle.executor.specs.Cutting.{Cutting, IsUnderWay, IsOver, CutsRun, IsCutting}
use Rattle.executor.proofs.Ordered.{ascending_same}
use Rattle.executor.proofs.Cutting.{done_at_from, done_in_from, fits_tells, fits_from}
use Rattle.executor.proofs.UnderWay.{went_all, touched-suc, some_not_none, none_told}

-- ---- the steps of a run and then n more
-- what they cost
run_cost-add : (s : State) (b n : ℕ) (t u : State) → after s b ≡ Some t → after t n ≡ Some u → run_cost s (b + n) ≡ run_cost s b + run_cost t n
unfolding run_cost
run_cost-add s b zero t u h k = ap (run_cost s) (add-zero b) ∙ sym (add-zero (run_cost s b))
run_cost-add s b (suc n) t u h k =
    let (v, before, went) = step_back t n u k in
    let next : b + suc n ≡ suc (b + n) = omega arith in
    let here : after s (b + n) ≡ Some v = after-add s b n t h ∙ before in
    let one : run_cost s (suc (b + n)) ≡ run_cost s (b + n) + step_cost v = spent_next s (b + n) v here in
    let other : run_cost t (suc n) ≡ run_cost t n + step_cost v = spent_next t n v before in
    ap (run_cost s) next ∙ omega (arith, one, other, run_cost-add s b n t v h before)

-- the pages that they touch
run_pages-add : (s : State) (b n : ℕ) (t u : State) → after s b ≡ Some t → after t n ≡ Some u → run_pages s (b + n) ≡ run_pages s b ++ run_pages t n
unfolding run_pages
run_pages-add s b zero t u h k = ap (run_pages s) (add-zero b) ∙ sym (append-nil (run_pages s b))
run_pages-add s b (suc n) t u h k =
    let (v, before, went) = step_back t n u k in
    let next : b + suc n ≡ suc (b + n) = omega arith in
    let here : after s (b + n) ≡ Some v = after-add s b n t h ∙ before in
    ap (run_pages s) next ∙ touched-suc s (b + n) v here
    ∙ ap (λ (ps : List ℕ). ps ++ foot_of v) (run_pages-add s b n t v h before)
    ∙ append_assoc (run_pages s b) (run_pages t n) (foot_of v)
    ∙ ap (λ (ps : List ℕ). run_pages s b ++ ps) (sym (touched-suc t n v before))

-- pages that are there already change nothing
or_there : (a b : Bool) → (b ≡ true → a ≡ true) → (a || b) ≡ a
or_there true b h = refl
or_there false true h = sym (h refl)
or_there false false h = refl

ascending_there : (ps qs : List ℕ) → ((p : ℕ) → Contains qs p → IsTrue (is_among (ascending ps) p)) → ascending (ps ++ qs) ≡ ascending ps
ascending_there ps qs there =
    ascending_same (ps ++ qs) ps
    (λ p. list_any-append (eqb p) ps qs ∙ or_there (is_among ps p) (is_among qs p) (λ e. sym (is_among-ascending ps p) ∙ there p (Contains-from_is_among qs p e)))

-- ---- n steps more
abbrev pub gone_on : Cutting → Going → ℕ → Metered → Cutting
gone_on c g n m = record c { going = g; steps = c.steps + n; meter = m }

module _ (c : Cutting) (g : Going) (n : ℕ) (m : Metered) (untold : c.outcome ≡ None) (on : c.going.halted ≡ None)
    (went : GoesQuickly (is_among c.meter.touched) (flat_state c.going) n (flat_state g)) (steps : g.steps ≡ c.going.steps + n) (cycles : g.cycles ≡ c.going.cycles + n)
    (halted : g.halted ≡ c.going.halted) (keeps : c.going.cycles + n ≤ c.limits.limit) (room : c.meter.cost + n ≤ c.limits.cycles) (meter : m ≡ with_steps n c.meter) where
  -- the last of them is done, and so all are
  last_done : (k : ℕ) → n ≡ suc k → (image : Image) (words : List ℕ) → IsRunOf g image words → c.going.steps + k < done_in c.limits.limit (start image words)
  last_done k is image words run =
      let r : State = start image words in
      let all : after r (suc (c.going.steps + k)) ≡ Some (flat_state g) = ap (after r) (omega (arith, steps, is)) ∙ went_all g image words run (halted ∙ on) in
      let (v, before, goes) = step_back r (c.going.steps + k) (flat_state g) all in
      let cost : run_cost r (suc (c.going.steps + k)) ≡ run_cost r (c.going.steps + k) + step_cost v = spent_next r (c.going.steps + k) v before in
      let same : g.cycles ≡ run_cost r (suc (c.going.steps + k)) = run.cost ∙ ap (run_cost r) (omega (arith, steps, is)) in
      done_in_from c.limits.limit r (c.going.steps + k)
      (done_at_from c.limits.limit (run_cost r (c.going.steps + k)) _ v before (omega (arith, cost, same, cycles, keeps)) (ap is_fault goes))

  all_done : (k : ℕ) → n ≡ k → (image : Image) (words : List ℕ) → IsRunOf g image words → c.going.steps ≤ done_in c.limits.limit (start image words)
      → c.going.steps + n ≤ done_in c.limits.limit (start image words)
  all_done zero is image words run before = omega (arith, is, before)
  all_done (suc k) is image words run before = omega (arith, is, last_done k is image words run)

  segment_gone_on : (image : Image) (words : List ℕ) → IsRunOf c.going image words → IsRunOf g image words
      → IsUnderWay (start image words) c ⊎ IsOver (start image words) c → IsUnderWay (start image words) (gone_on c g n m) ⊎ IsOver (start image words) (gone_on c g n m)
  segment_gone_on image words run after_run (inl u) =
      let at : after u.place.s c.steps ≡ Some (flat_state c.going) =
      sym (after-add (start image words) u.place.b c.steps u.place.s u.place.reached) ∙ ap (after (start image words)) (sym u.steps) ∙ went_all c.going image words run on in
      let cost : run_cost u.place.s (c.steps + n) ≡ c.meter.cost + n =
      run_cost-add u.place.s c.steps n (flat_state c.going) (flat_state g) at went.reached ∙ ap₂ (λ (a b : ℕ). a + b) (sym u.cost) went.cost in
      let pages : ascending (run_pages u.place.s (c.steps + n)) ≡ c.meter.touched =
      ap ascending (run_pages-add u.place.s c.steps n (flat_state c.going) (flat_state g) at went.reached)
      ∙ ascending_there (run_pages u.place.s c.steps) (run_pages (flat_state c.going) n) (λ p h. ap (λ (ps : List ℕ). is_among ps p) (sym u.touched) ∙ went.within p h)
      ∙ sym u.touched in
      let few = (fits_tells c.limits u.place.s c.steps u.fits).1 in
      inl (record {
        place = u.place;
        steps = omega (arith, steps, u.steps);
        within = omega (arith, u.steps, all_done n refl image words after_run (omega (arith, u.within, u.steps)));
        fits = fits_from c.limits u.place.s (c.steps + n) (omega (arith, cost, room)) (omega (arith, ap length pages, ap length u.touched, few));
        beginning = u.beginning;
        cost = ap (λ (x : Metered). x.cost) meter ∙ sym cost;
        touched = ap (λ (x : Metered). x.touched) meter ∙ sym pages;
        outcome = none_told c.limits.limit (start image words) (u.place.b + (c.steps + n)) c.outcome untold;
      })
  segment_gone_on image words run after_run (inr over) = some_not_none over.outcome c.outcome over.told untold

  pub stands_gone_on : (image : Image) (words : List ℕ) → IsRunOf g image words → CutsRun c image words → CutsRun (gone_on c g n m) image words
  stands_gone_on image words after_run stands = record { run = after_run; segment = segment_gone_on image words stands.run after_run stands.segment }

  pub cutting_gone_on : ((image : Image) (words : List ℕ) → IsRunOf c.going image words → IsRunOf g image words) → IsCutting c → IsCutting (gone_on c g n m)
  cutting_gone_on runs h = record {
    image = h.image;
    words = h.words;
    ready = h.ready;
    stands = stands_gone_on h.image h.words (runs h.image h.words h.stands.run) h.stands;
    limits = h.limits;
    cycles = ap (λ (x : Metered). x.cycles) meter ∙ h.cycles;
    pages = ap (λ (x : Metered). x.pages) meter ∙ h.pages;
    number = h.number;
    within = omega (arith, cycles, keeps);
    halted = λ _. halted ∙ on;
  }
