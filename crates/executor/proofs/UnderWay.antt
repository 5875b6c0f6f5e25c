-- The segment that is under way, from one call to the next.
use Rattle.std.proofs.Common.{◌≡◌, ◌⊎◌, inl, inr, ℕ, suc, ◌+◌, ◌-◌, ◌*◌, ◌<◌, ◌≤◌, Bool, true, false, leb, ltb, List, [], ◌++◌, length, Option, Some, None, refl, sym, ap, ap₂, ◌∙◌, subst, arith}
use Rattle.std.proofs.lemmas.Option.{same_Some}
use Rattle.std.proofs.lemmas.Bool.{true≢false}
use Rattle.std.specs.Prelude.{is_some, replicate, ◌&&◌}
use Rattle.page_core.specs.Images.{Image}
use Rattle.page_core.specs.Memory.{top, ascending}
use Rattle.page_core.specs.Stored.{IsStoredFrom, stored_pages, memory_of}
use Rattle.page_core.proofs.Bytes.{page_same, bytes_hold_pages}
use Rattle.page_core.proofs.Zeros.{pages_are}
use Rattle.host_calls.specs.Meters.{Metered, with_step, has_room}
use Rattle.rv_isa.specs.Registers.{AreRegisters}
use Rattle.rv_step.specs.Machine.{State, Halted, step_of, foot_of, step_cost, full, first_closed}
use Rattle.rv_step.specs.Laws.{IsReady}
use Rattle.rv_step.specs.Runs.{start, after, run_cost, run_pages, pages_at, IsOutcome}
use Rattle.rv_step.specs.declared.outcome.Outcome.{Outcome}
use Rattle.rv_step.proofs.Full.{full-start}
use Rattle.rv_step.proofs.Runs.{step_back, after-add, spent_next}
use Rattle.seal_replay.proofs.Chains.{start_ready}
use Rattle.flat_machine.proofs.RunFeet.{none_closed}
use Rattle.flat_machine.specs.Going.{Going, flat_state, went_steps, went_steps_in, HaltsWith, IsRunOf, DoesOne, DoesNone, IsRunEnd}
use Rattle.executor.specs.Segments.{Limits, is_fault, done_in, segment_fits, segments}
use Rattle.executor.specs.Proving.{run_words}
use Rattle.executor.specs.Laws.{AreLimits}
use Rattle.executor.specs.Cutting.{Beginning, Cutting, IsBeginning, HasOutcome, IsUnderWay, IsOver, CutsRun, IsWhole, IsCutting}
use Rattle.executor.proofs.Ordered.{ascending_added}
use Rattle.executor.proofs.Cutting.{run_ready, done_at_from, done_in_from, fits_none, fits_tells, spent_least, longest_is}
use Rattle.executor.proofs.Covered.{one_fits, done_to_outcome}

-- ---- where a run is
-- where no step has halted, all went
pub went_all : (g : Going) (image : Image) (words : List ℕ) → IsRunOf g image words → g.halted ≡ None → after (start image words) g.steps ≡ Some (flat_state g)
went_all g image words run on = ap (λ (o : Option ℕ). after (start image words) (went_steps_in g.steps o)) (sym on) ∙ run.reached

-- ---- a beginning
-- the first segment begins where an image does, whose memory is zero from the register page on
pub first_begins : (image : Image) (words : List ℕ) (at : Beginning) → ((a : ℕ) → top ≤ a → image.memory a ≡ 0) → at.pc ≡ image.entry → at.read ≡ 0
    → IsStoredFrom 0 at.tree → memory_of at.tree ≡ image.memory → IsBeginning (start image words) 0 (start image words) at
unfolding run_words
first_begins image words at rest pc read are same = record {
  pc = pc;
  read = read;
  memory = λ page low.
      sym (bytes_hold_pages (stored_pages at.tree) page (pages_are at.tree 0 are))
      ∙ page_same (memory_of at.tree) (full (start image words)) page (λ a _. ap (λ (m : ℕ → ℕ). m a) same ∙ sym (full-start image.memory rest a));
}

pub stands_new : (c : Cutting) (image : Image) (words : List ℕ) → IsRunOf c.going image words → c.going.steps ≡ 0 → c.number ≡ 0 → IsBeginning (start image words) 0 (start image words) c.beginning → c.steps ≡ 0
    → c.meter.cost ≡ 0 → c.meter.touched ≡ [] → c.outcome ≡ None → CutsRun c image words
unfolding after run_cost run_pages ascending
stands_new c image words run steps number beginning none cost pages outcome = record {
  run = run;
  segment = inl (record {
    place = record {
      b = 0;
      s = start image words;
      reached = refl;
      given = [];
      cuts = ap (λ (n : ℕ). segments c.limits n (Some (start image words)) (done_in c.limits.limit (start image words))) (omega (arith, number))
          ∙ ap (λ (n : ℕ). segments c.limits (done_in c.limits.limit (start image words) - c.number) (Some (start image words)) n) (omega arith);
      number = sym number;
      at = refl;
      fewer = omega (arith, number);
    };
    steps = omega (arith, steps, none);
    within = omega (arith, none);
    fits = ap (segment_fits c.limits (start image words)) none ∙ fits_none c.limits (start image words);
    beginning = beginning;
    cost = cost ∙ ap (run_cost (start image words)) (sym none);
    touched = pages ∙ ap (λ (n : ℕ). ascending (run_pages (start image words) n)) (sym none);
    outcome = subst (λ (o : Option Outcome). HasOutcome c.limits.limit (start image words) (0 + c.steps) o) (sym outcome) tt;
  });
}

-- the registers of a start
pub zero_registers : AreRegisters (replicate 32 0)
zero_registers = (start_ready (record { entry = 0; memory = λ _. 0 }) [] (record { aligned = refl; below = omega arith; bytes = λ a. omega arith; rest = λ a h. refl })).registers

-- a run of no step has not halted
unhalted : (s : State) (n : ℕ) (o : Option ℕ) → n ≡ 0 → HaltsWith s n o → o ≡ None
unhalted s n None none halts = refl
unhalted s n (Some code) none halts = absurd (omega (arith, none, halts.0))

pub cutting_new : (c : Cutting) (image : Image) (words : List ℕ) → IsReady (start image words) → CutsRun c image words → c.going.steps ≡ 0 → c.going.cycles ≤ 257 * c.going.steps → c.number ≡ 0
    → AreLimits c.limits → c.meter.cycles ≡ c.limits.cycles → c.meter.pages ≡ c.limits.pages → IsCutting c
cutting_new c image words ready stands steps most number limits cycles pages = record {
  image = image;
  words = words;
  ready = ready;
  stands = stands;
  limits = limits;
  cycles = cycles;
  pages = pages;
  number = omega (arith, number);
  within = omega (arith, most, steps);
  halted = λ _. unhalted (flat_state c.going) c.going.steps c.going.halted steps stands.run.halts;
}

-- ---- the run alone is another value of the same steps
going_moved : (c : Cutting) (g : Going) (r : State) → g.steps ≡ c.going.steps → IsUnderWay r c ⊎ IsOver r c → IsUnderWay r (record c { going = g }) ⊎ IsOver r (record c { going = g })
going_moved c g r same (inl u) = inl (record {
  place = u.place;
  steps = same ∙ u.steps;
  within = u.within;
  fits = u.fits;
  beginning = u.beginning;
  cost = u.cost;
  touched = u.touched;
  outcome = u.outcome;
})
going_moved c g r same (inr o) = inr (record { number = o.number; steps = o.steps; outcome = o.outcome; told = o.told; ends = o.ends })

pub stands_moved : (c : Cutting) (g : Going) (image : Image) (words : List ℕ) → g.steps ≡ c.going.steps → IsRunOf g image words → CutsRun c image words → CutsRun (record c { going = g }) image words
stands_moved c g image words same run stands = record { run = run; segment = going_moved c g (start image words) same stands.segment }

pub cutting_moved : (c : Cutting) (g : Going) → DoesNone c.going g → ((image : Image) (words : List ℕ) → IsRunOf c.going image words → IsRunOf g image words) → IsCutting c → IsCutting (record c { going = g })
cutting_moved c g none run h = record {
  image = h.image;
  words = h.words;
  ready = h.ready;
  stands = stands_moved c g h.image h.words none.steps (run h.image h.words h.stands.run) h.stands;
  limits = h.limits;
  cycles = h.cycles;
  pages = h.pages;
  number = h.number;
  within = omega (arith, none.cycles, h.within);
  halted = λ e. none.halted ∙ h.halted e;
}

-- ---- one step more
pub touched-suc : (s : State) (n : ℕ) (u : State) → after s n ≡ Some u → run_pages s (suc n) ≡ run_pages s n ++ foot_of u
unfolding run_pages
touched-suc s n u here = ap (λ (o : Option State). run_pages s n ++ pages_at o) here

touched_on : (s : State) (n : ℕ) (m : Metered) (u : State) → after s n ≡ Some u → m.touched ≡ ascending (run_pages s n) → ascending (run_pages s (suc n)) ≡ ascending (foot_of u ++ m.touched)
touched_on s n m u here is = ap ascending (touched-suc s n u here) ∙ sym (ascending_added (run_pages s n) (foot_of u)) ∙ ap (λ (ps : List ℕ). ascending (foot_of u ++ ps)) (sym is)

-- a meter is within its limits with the next step exactly where the segment fits with it
room_fits : (l : Limits) (s : State) (n : ℕ) (m : Metered) (u : State) → after s n ≡ Some u → m.cycles ≡ l.cycles → m.pages ≡ l.pages → m.cost ≡ run_cost s n → m.touched ≡ ascending (run_pages s n)
    → segment_fits l s (suc n) ≡ has_room (foot_of u) (step_cost u) m
unfolding segment_fits
room_fits l s n m u here cycles pages cost pages_are =
    ap₂ (λ (a : Bool) (b : Bool). a && b)
    (ap₂ leb (spent_next s n u here ∙ ap (λ (c : ℕ). c + step_cost u) (sym cost)) (sym cycles))
    (ap₂ (λ (ps : List ℕ) (most : ℕ). leb (length ps) most) (touched_on s n m u here pages_are) (sym pages))

-- an outcome's steps are all that are done
pub has_outcome : (g : Going) (image : Image) (words : List ℕ) (limit : ℕ) (o : Outcome) → IsRunEnd g image words limit o → HasOutcome limit (start image words) g.steps (Some o)
has_outcome g image words limit o ends = (ends.ends, ends.steps ∙ sym (done_to_outcome limit (start image words) o ends.ends))

pub some_not_none : {A : Type 0} {B : Type 0} → (x : A) (o : Option A) → o ≡ Some x → o ≡ None → B
some_not_none x o is none = absurd (cc)

module _ (g h : Going) (image : Image) (words : List ℕ) (limit : ℕ) (on : g.halted ≡ None) (run : IsRunOf g image words) (after_run : IsRunOf h image words) (one : DoesOne g h) (keeps : h.cycles ≤ limit) where
  here : after (start image words) g.steps ≡ Some (flat_state g)
  here = went_all g image words run on

  no_fault : (o : Option ℕ) → h.halted ≡ o → is_fault (step_of (flat_state g)) ≡ false
  no_fault None is =
      let next : after (start image words) (suc g.steps) ≡ Some (flat_state h) = ap (after (start image words)) (omega (arith, one.steps)) ∙ went_all h image words after_run is in
      let (u, before, went) = step_back (start image words) g.steps (flat_state h) next in
      ap (λ (s : State). is_fault (step_of s)) (same_Some _ _ (sym here ∙ before)) ∙ ap is_fault went
  no_fault (Some code) is =
      let halts : (1 ≤ h.steps) × (step_of (flat_state h) ≡ Halted code) = subst (λ (o : Option ℕ). HaltsWith (flat_state h) h.steps o) is after_run.halts in
      let there : after (start image words) g.steps ≡ Some (flat_state h) =
      ap (after (start image words)) (omega (arith, one.steps)) ∙ ap (λ (o : Option ℕ). after (start image words) (went_steps_in h.steps o)) (sym is) ∙ after_run.reached in
      ap (λ (s : State). is_fault (step_of s)) (same_Some _ _ (sym here ∙ there)) ∙ ap is_fault halts.1

  -- so the step is done
  pub step_done : g.steps < done_in limit (start image words)
  step_done =
      let all : run_cost (start image words) (suc g.steps) ≡ run_cost (start image words) g.steps + step_cost (flat_state g) = spent_next (start image words) g.steps (flat_state g) here in
      let cost : h.cycles ≡ run_cost (start image words) (suc g.steps) = after_run.cost ∙ ap (run_cost (start image words)) (omega (arith, one.steps)) in
      done_in_from limit (start image words) g.steps (done_at_from limit (run_cost (start image words) g.steps) _ (flat_state g) here (omega (arith, all, cost, keeps)) (no_fault h.halted refl))

-- one step more of the segment, which fits, with the outcome if it ended the run
abbrev pub stepped : Cutting → Going → Metered → Option Outcome → Cutting
stepped c g m o = record c { going = g; steps = c.steps + 1; meter = m; outcome = o }

module _ (c : Cutting) (g : Going) (m : Metered) (o : Option Outcome) (untold : c.outcome ≡ None) (on : c.going.halted ≡ None) (one : DoesOne c.going g) (keeps : g.cycles ≤ c.limits.limit)
    (cycles : c.meter.cycles ≡ c.limits.cycles) (pages : c.meter.pages ≡ c.limits.pages) (foot : List ℕ) (cost : ℕ) (foot_is : foot ≡ foot_of (flat_state c.going)) (cost_is : cost ≡ step_cost (flat_state c.going))
    (room : has_room foot cost c.meter ≡ true) (meter : m ≡ with_step foot cost c.meter) where
  segment_stepped : (image : Image) (words : List ℕ) → IsRunOf c.going image words → IsRunOf g image words → HasOutcome c.limits.limit (start image words) g.steps o
      → IsUnderWay (start image words) c ⊎ IsOver (start image words) c → IsUnderWay (start image words) (stepped c g m o) ⊎ IsOver (start image words) (stepped c g m o)
  segment_stepped image words run after_run told (inl u) =
      let at : after u.place.s c.steps ≡ Some (flat_state c.going) = sym (after-add (start image words) u.place.b c.steps u.place.s u.place.reached) ∙ ap (after (start image words)) (sym u.steps) ∙ went_all c.going image words run on in
      let more : c.steps + 1 ≡ suc c.steps = omega arith in
      let total : g.steps ≡ u.place.b + (c.steps + 1) = omega (arith, one.steps, u.steps) in
      let done : c.going.steps < done_in c.limits.limit (start image words) = step_done c.going g image words c.limits.limit on run after_run one keeps in
      let fitting : has_room (foot_of (flat_state c.going)) (step_cost (flat_state c.going)) c.meter ≡ true = ap₂ (λ (f : List ℕ) (n : ℕ). has_room f n c.meter) (sym foot_is) (sym cost_is) ∙ room in
      let metered : m ≡ with_step (foot_of (flat_state c.going)) (step_cost (flat_state c.going)) c.meter = meter ∙ ap₂ (λ (f : List ℕ) (n : ℕ). with_step f n c.meter) foot_is cost_is in
      inl (record {
        place = u.place;
        steps = total;
        within = omega (arith, done, u.steps);
        fits = ap (segment_fits c.limits u.place.s) more ∙ room_fits c.limits u.place.s c.steps c.meter (flat_state c.going) at cycles pages u.cost u.touched ∙ fitting;
        beginning = u.beginning;
        cost = ap (λ (x : Metered). x.cost) metered ∙ ap (λ (n : ℕ). n + step_cost (flat_state c.going)) u.cost ∙ sym (spent_next u.place.s c.steps (flat_state c.going) at) ∙ ap (run_cost u.place.s) (sym more);
        touched = ap (λ (x : Metered). x.touched) metered ∙ sym (ap (λ (n : ℕ). ascending (run_pages u.place.s n)) more ∙ touched_on u.place.s c.steps c.meter (flat_state c.going) at u.touched);
        outcome = subst (λ (n : ℕ). HasOutcome c.limits.limit (start image words) n o) total told;
      })
  segment_stepped image words run after_run told (inr over) = some_not_none over.outcome c.outcome over.told untold

  pub stands_stepped : (image : Image) (words : List ℕ) → IsRunOf g image words → HasOutcome c.limits.limit (start image words) g.steps o → CutsRun c image words → CutsRun (stepped c g m o) image words
  stands_stepped image words after_run told stands = record { run = after_run; segment = segment_stepped image words stands.run after_run told stands.segment }

  pub cutting_stepped : ((image : Image) (words : List ℕ) → IsRunOf c.going image words → IsRunOf g image words)
      → ((image : Image) (words : List ℕ) → IsRunOf c.going image words → HasOutcome c.limits.limit (start image words) g.steps o)
      → (o ≡ None → g.halted ≡ None) → IsCutting c → IsCutting (stepped c g m o)
  cutting_stepped runs told off h = record {
    image = h.image;
    words = h.words;
    ready = h.ready;
    stands = stands_stepped h.image h.words (runs h.image h.words h.stands.run) (told h.image h.words h.stands.run) h.stands;
    limits = h.limits;
    cycles = ap (λ (x : Metered). x.cycles) meter ∙ h.cycles;
    pages = ap (λ (x : Metered). x.pages) meter ∙ h.pages;
    number = h.number;
    within = keeps;
    halted = off;
  }

-- ---- the outcome of a run whose next step isn't done
abbrev pub ended : Cutting → Going → Outcome → Cutting
ended c g o = record c { going = g; outcome = Some o }

module _ (c : Cutting) (g : Going) (o : Outcome) (untold : c.outcome ≡ None) (none : DoesNone c.going g) where
  segment_ended : (r : State) → HasOutcome c.limits.limit r g.steps (Some o) → IsUnderWay r c ⊎ IsOver r c → IsUnderWay r (ended c g o) ⊎ IsOver r (ended c g o)
  segment_ended r told (inl u) = inl (record {
    place = u.place;
    steps = none.steps ∙ u.steps;
    within = u.within;
    fits = u.fits;
    beginning = u.beginning;
    cost = u.cost;
    touched = u.touched;
    outcome = subst (λ (n : ℕ). HasOutcome c.limits.limit r n (Some o)) (none.steps ∙ u.steps) told;
  })
  segment_ended r told (inr over) = some_not_none over.outcome c.outcome over.told untold

  pub stands_ended : (image : Image) (words : List ℕ) → IsRunOf g image words → HasOutcome c.limits.limit (start image words) g.steps (Some o) → CutsRun c image words → CutsRun (ended c g o) image words
  stands_ended image words run told stands = record { run = run; segment = segment_ended (start image words) told stands.segment }

  pub cutting_ended : ((image : Image) (words : List ℕ) → IsRunOf c.going image words → IsRunOf g image words)
      → ((image : Image) (words : List ℕ) → IsRunOf c.going image words → HasOutcome c.limits.limit (start image words) g.steps (Some o)) → IsCutting c → IsCutting (ended c g o)
  cutting_ended runs told h = record {
    image = h.image;
    words = h.words;
    ready = h.ready;
    stands = stands_ended h.image h.words (runs h.image h.words h.stands.run) (told h.image h.words h.stands.run) h.stands;
    limits = h.limits;
    cycles = h.cycles;
    pages = h.pages;
    number = h.number;
    within = omega (arith, none.cycles, h.within);
    halted = λ e. some_not_none o (Some o) refl e;
  }

-- ---- the segment is whole
-- where the run's outcome is known
pub whole_ended : (r : State) (c : Cutting) (o : Outcome) → c.outcome ≡ Some o → (segment : IsUnderWay r c ⊎ IsOver r c) → IsWhole r c segment
whole_ended r c o told (inl u) =
    let all : IsOutcome r c.limits.limit o × (u.place.b + c.steps ≡ done_in c.limits.limit r) = subst (λ (t : Option Outcome). HasOutcome c.limits.limit r (u.place.b + c.steps) t) told u.outcome in
    let rest : c.steps ≡ done_in c.limits.limit r - u.place.b = omega (arith, all.1) in
    record {
      longest = longest_is c.limits u.place.s c.steps (done_in c.limits.limit r - u.place.b) u.fits (omega (arith, rest)) (inl rest);
      ended = λ _. ap is_some told;
    }
whole_ended r c o told (inr over) = tt

-- or where the next step doesn't fit
begins_here : (s t : State) (n : ℕ) → n ≡ 0 → after s n ≡ Some t → s ≡ t
unfolding after
begins_here s t n none at = same_Some s t (ap (after s) (sym none) ∙ at)

pub whole_full : (c : Cutting) → IsCutting c → c.outcome ≡ None → has_room (foot_of (flat_state c.going)) (step_cost (flat_state c.going)) c.meter ≡ false
    → (image : Image) (words : List ℕ) → (run : IsRunOf c.going image words) → (segment : IsUnderWay (start image words) c ⊎ IsOver (start image words) c) → IsWhole (start image words) c segment
whole_full c h untold room image words run (inl u) =
    let at : after u.place.s c.steps ≡ Some (flat_state c.going) =
    sym (after-add (start image words) u.place.b c.steps u.place.s u.place.reached) ∙ ap (after (start image words)) (sym u.steps) ∙ went_all c.going image words run (h.halted untold) in
    let over : segment_fits c.limits u.place.s (suc c.steps) ≡ false = room_fits c.limits u.place.s c.steps c.meter (flat_state c.going) at h.cycles h.pages u.cost u.touched ∙ room in
    let ready : IsReady (flat_state c.going) = run_ready (start h.image h.words) (went_steps c.going) (flat_state c.going) h.ready h.stands.run.reached in
    let one : segment_fits c.limits (flat_state c.going) 1 ≡ true = one_fits c.limits (flat_state c.going) h.limits ready.aligned in
    record {
      longest = longest_is c.limits u.place.s c.steps (done_in c.limits.limit (start image words) - u.place.b) u.fits (omega (arith, u.within)) (inr over);
      ended = λ none.
          absurd (true≢false (sym one ∙ ap (λ (s : State). segment_fits c.limits s 1) (sym (begins_here u.place.s (flat_state c.going) c.steps none at)) ∙ ap (λ (n : ℕ). segment_fits c.limits u.place.s (suc n)) (sym none) ∙ over));
    }
whole_full c h untold room image words run (inr over) = some_not_none over.outcome c.outcome over.told untold

pub room_at : (c d : Cutting) → c ≡ d → (foot : List ℕ) (cost : ℕ) (v : Bool) → foot ≡ foot_of (flat_state c.going) → cost ≡ step_cost (flat_state c.going) → has_room foot cost c.meter ≡ v
    → has_room (foot_of (flat_state d.going)) (step_cost (flat_state d.going)) d.meter ≡ v
room_at c d same foot cost v foot_is cost_is room =
    subst (λ (x : Cutting). has_room (foot_of (flat_state x.going)) (step_cost (flat_state x.going)) x.meter ≡ v) same (ap₂ (λ (f : List ℕ) (n : ℕ). has_room f n c.meter) (sym foot_is) (sym cost_is) ∙ room)

-- a segment has at most as many steps as it may cost
pub few_steps : (c : Cutting) → IsCutting c → c.outcome ≡ None → c.steps ≤ 16777216
few_steps c h untold = go h.stands.segment
  where
    go : IsUnderWay (start h.image h.words) c ⊎ IsOver (start h.image h.words) c → c.steps ≤ 16777216
    go (inl u) =
        let at : after u.place.s c.steps ≡ Some (flat_state c.going) =
        sym (after-add (start h.image h.words) u.place.b c.steps u.place.s u.place.reached) ∙ ap (after (start h.image h.words)) (sym u.steps) ∙ went_all c.going h.image h.words h.stands.run (h.halted untold) in
        omega (arith, spent_least u.place.s c.steps (flat_state c.going) at, (fits_tells c.limits u.place.s c.steps u.fits).0, h.limits.most_cycles)
    go (inr over) = some_not_none over.outcome c.outcome over.told untold

-- the pages of the next step are those of a memory
pub foot_within : (c : Cutting) → IsCutting c → (foot : List ℕ) → foot ≡ foot_of (flat_state c.going) → first_closed (λ page. ltb page 262144) foot ≡ None
foot_within c h foot is =
    ap (first_closed (λ page. ltb page 262144)) is
    ∙ none_closed (flat_state c.going) (run_ready (start h.image h.words) (went_steps c.going) (flat_state c.going) h.ready h.stands.run.reached).aligned

-- ---- an executor before a step that fits
-- this is what the step touches and costs
pub record IsBefore (c : Cutting) (foot : List ℕ) (cost : ℕ) : Type 0 where
  pub untold : c.outcome ≡ None
  pub on : c.going.halted ≡ None
  pub cutting : IsCutting c
  pub foot_is : foot ≡ foot_of (flat_state c.going)
  pub cost_is : cost ≡ step_cost (flat_state c.going)
  pub room : has_room foot cost c.meter ≡ true

abbrev pub with_meter : Cutting → Metered → Cutting
with_meter c m = record c { meter = m }

-- but for the room of its meter it is that of before
pub before : (c : Cutting) (m : Metered) (foot : List ℕ) (cost : ℕ) → m ≡ c.meter → IsCutting c → c.outcome ≡ None → foot ≡ foot_of (flat_state c.going) → cost ≡ step_cost (flat_state c.going)
    → has_room foot cost c.meter ≡ true → IsBefore (with_meter c m) foot cost
before c m foot cost same h untold foot_is cost_is room = record {
  untold = untold;
  on = h.halted untold;
  cutting = subst (λ (x : Metered). IsCutting (with_meter c x)) (sym same) h;
  foot_is = foot_is;
  cost_is = cost_is;
  room = ap (has_room foot cost) same ∙ room;
}

pub stands_before : (c now : Cutting) (m : Metered) → c ≡ now → m ≡ c.meter → (image : Image) (words : List ℕ) → CutsRun now image words → CutsRun (with_meter c m) image words
stands_before c now m is same image words stands =
    subst (λ (x : Metered). CutsRun (with_meter c x) image words) (sym same) (subst (λ (x : Cutting). CutsRun x image words) (sym is) stands)

-- the state of a run is told by no outcome
pub none_told : (limit : ℕ) (r : State) (n : ℕ) (o : Option Outcome) → o ≡ None → HasOutcome limit r n o
none_told limit r n o none = subst (λ (t : Option Outcome). HasOutcome limit r n t) (sym none) tt

pub some_of : {A : Type 0} (o : Option A) → is_some o ≡ true → (x : A) × (o ≡ Some x)
some_of (Some x) h = (x, refl)
some_of None h = absurd (cc)
