-- One step more of an uncut run, and how it ends.
use Rattle.std.proofs.Common.{◌≡◌, ℕ, suc, ◌+◌, ◌-◌, ◌%◌, ◌<◌, ◌≤◌, true, false, ltb, List, [], ◌++◌, take, drop, Option, Some, None, refl, sym, ap, ap₂, ◌∙◌, subst, arith}
use Rattle.std.specs.Prelude.{option_and_then, is_some, replicate}
use Rattle.std.proofs.lemmas.Bool.Decides.{nat_tests}
use Rattle.std.proofs.lemmas.List.{take-append-drop}
use Rattle.rv_isa.specs.declared.fault.Fault.{Fault}
use Rattle.page_core.specs.Images.{Image}
use Rattle.rv_step.specs.Machine.{State, Event, Went, Halted, Faulted, step_of, step_cost}
use Rattle.rv_step.specs.Runs.{start, after, run_cost, state_gone, ends_with, verdict, IsOutcome}
use Rattle.rv_step.specs.Tapes.{Tape}
use Rattle.rv_step.specs.declared.outcome.Outcome.TheVariants.{Halted as HaltedAt, Faulted as FaultedAt, OverLimit}
use Rattle.rv_step.proofs.Runs.{step_on, spent_next}
use Rattle.flat_machine.specs.Layers.{memory_in}
use Rattle.flat_machine.specs.Going.{Going, IsUncut, flat_state, went_steps, went_steps_in, HaltsWith, IsRunOf, IsRunEnd}

-- ---- any run
stops_on : (s : State) (n : ℕ) (t : State) (e : Event) → after s n ≡ Some t → step_of t ≡ e → state_gone e ≡ None → after s (suc n) ≡ None
unfolding after
stops_on s n t e h is none = ap (option_and_then (λ u. state_gone (step_of u))) h ∙ ap state_gone is ∙ none

-- the outcome at a step, by what the step is
over_limit : (limit c k : ℕ) (t : State) → limit < c + step_cost t → verdict limit c k t ≡ Some (OverLimit k)
over_limit limit c k t h = let e : ltb limit (c + step_cost t) ≡ true = grind (arith, nat_tests) in rw e refl

in_limit : (limit c k : ℕ) (t : State) (e : Event) → c + step_cost t ≤ limit → step_of t ≡ e → verdict limit c k t ≡ ends_with k t.pc e
in_limit limit c k t e h is = let f : ltb limit (c + step_cost t) ≡ false = grind (arith, nat_tests) in rw f (ap (ends_with k t.pc) is)

-- ---- this one
-- what was taken of a tape and what is left are its words
pub all_words : (t u : Tape) → u.words ≡ t.words → take u.used u.words ++ drop u.used u.words ≡ take t.used t.words ++ drop t.used t.words
all_words t u same = take-append-drop u.used u.words ∙ same ∙ sym (take-append-drop t.used t.words)

-- where it starts
pub stands_new : (g : Going) (image : Image) (words : List ℕ) → g.pc ≡ image.entry → g.x ≡ replicate 32 0 → ((a : ℕ) → memory_in g.memory a ≡ image.memory a)
    → g.read ≡ [] → g.words ≡ words → g.journal ≡ [] → g.calls ≡ [] → g.steps ≡ 0 → g.cycles ≡ 0 → g.halted ≡ None → IsRunOf g image words
unfolding after run_cost
stands_new g image words pc x memory none taken journal calls steps cycles halted =
    let same : flat_state g ≡ start image words =
    λ i. record { pc = pc i; x = x i; memory = λ a. memory a i; words = taken i; journal = journal i; calls = calls i } in
    record {
      reached = ap₂ (λ (n : ℕ) (o : Option ℕ). after (start image words) (went_steps_in n o)) steps halted ∙ ap Some (sym same);
      cost = cycles ∙ ap (run_cost (start image words)) (sym steps);
      halts = subst (λ (o : Option ℕ). HaltsWith (flat_state g) g.steps o) (sym halted) tt;
      all = ap₂ (λ (xs ys : List ℕ). xs ++ ys) none taken;
    }

-- the state, the words, the numbers and the halt alone count
pub stands_still : (g h : Going) → flat_state h ≡ flat_state g → h.read ++ h.words ≡ g.read ++ g.words → h.steps ≡ g.steps → h.cycles ≡ g.cycles → h.halted ≡ g.halted
    → (image : Image) (words : List ℕ) → IsRunOf g image words → IsRunOf h image words
stands_still g h state all steps cycles halted image words stands = record {
  reached = ap₂ (λ (n : ℕ) (o : Option ℕ). after (start image words) (went_steps_in n o)) steps halted ∙ stands.reached ∙ ap Some (sym state);
  cost = cycles ∙ stands.cost ∙ ap (run_cost (start image words)) (sym steps);
  halts = subst (λ (o : Option ℕ). HaltsWith (flat_state h) h.steps o) (sym halted)
      (subst (λ (n : ℕ). HaltsWith (flat_state h) n g.halted) (sym steps)
      (subst (λ (s : State). HaltsWith s g.steps g.halted) (sym state) stands.halts));
  all = all ∙ stands.all;
}

module _ (g h : Going) (all : h.read ++ h.words ≡ g.read ++ g.words) (steps : h.steps ≡ g.steps + 1) (cycles : h.cycles ≡ g.cycles + step_cost (flat_state g)) (on : g.halted ≡ None)
    (image : Image) (words : List ℕ) (stands : IsRunOf g image words) where
  -- all steps went
  reached_so : after (start image words) g.steps ≡ Some (flat_state g)
  reached_so = ap (λ (o : Option ℕ). after (start image words) (went_steps_in g.steps o)) (sym on) ∙ stands.reached

  more : h.steps ≡ suc g.steps
  more = omega (arith, steps)

  cost_on : h.cycles ≡ run_cost (start image words) h.steps
  cost_on =
      cycles ∙ ap (λ (c : ℕ). c + step_cost (flat_state g)) stands.cost ∙ sym (spent_next (start image words) g.steps (flat_state g) reached_so)
      ∙ ap (run_cost (start image words)) (sym more)

  pub stands_on : h.halted ≡ None → step_of (flat_state g) ≡ Went (flat_state h) → IsRunOf h image words
  stands_on none went = record {
    reached = ap₂ (λ (n : ℕ) (o : Option ℕ). after (start image words) (went_steps_in n o)) more none
        ∙ step_on (start image words) g.steps (flat_state g) (flat_state h) reached_so went;
    cost = cost_on;
    halts = subst (λ (o : Option ℕ). HaltsWith (flat_state h) h.steps o) (sym none) tt;
    all = all ∙ stands.all;
  }

  pub stands_halted : (code : ℕ) → h.halted ≡ Some code → step_of (flat_state g) ≡ Halted code → flat_state h ≡ flat_state g → IsRunOf h image words
  stands_halted code some halts same =
      let before : suc g.steps - 1 ≡ g.steps = omega arith in
      record {
        reached = ap₂ (λ (n : ℕ) (o : Option ℕ). after (start image words) (went_steps_in n o)) more some
            ∙ ap (after (start image words)) before ∙ reached_so ∙ ap Some (sym same);
        cost = cost_on;
        halts = subst (λ (o : Option ℕ). HaltsWith (flat_state h) h.steps o) (sym some) (omega (arith, steps), ap step_of same ∙ halts);
        all = all ∙ stands.all;
      }

-- ---- how it ends
-- a run that has halted did so within any limit that its cost keeps
halted_outcome : (s t : State) (n steps code cycles limit : ℕ) → steps - 1 ≡ n → 1 ≤ steps → after s n ≡ Some t → step_of t ≡ Halted code → cycles ≡ run_cost s steps → cycles ≤ limit
    → IsOutcome s limit (HaltedAt code)
halted_outcome s t n steps code cycles limit before some reached halts cost keeps =
    let last : steps ≡ suc n = omega arith in
    let all : cycles ≡ run_cost s n + step_cost t = cost ∙ ap (run_cost s) last ∙ spent_next s n t reached in
    record {
      step = n;
      state = t;
      reached = reached;
      afforded = omega (arith, all, keeps);
      ended = in_limit limit (run_cost s n) n t (Halted code) (omega (arith, all, keeps)) halts;
    }

module _ (g : Going) (image : Image) (words : List ℕ) (limit : ℕ) (stands : IsRunOf g image words) (keeps : g.cycles ≤ limit) where
  pub ends_halted : (code : ℕ) → g.halted ≡ Some code → IsRunEnd g image words limit (HaltedAt code)
  unfolding halted_outcome
  ends_halted code some =
      let halts : (1 ≤ g.steps) × (step_of (flat_state g) ≡ Halted code) = subst (λ (o : Option ℕ). HaltsWith (flat_state g) g.steps o) some stands.halts in
      let before : went_steps g ≡ g.steps - 1 = ap (went_steps_in g.steps) some in
      record {
        stands = stands;
        ends = halted_outcome (start image words) (flat_state g) (g.steps - 1) g.steps code g.cycles limit refl halts.0
            (ap (after (start image words)) (sym before) ∙ stands.reached) halts.1 stands.cost keeps;
        reached = before;
        steps = omega (arith, halts.0);
      }

  module _ (on : g.halted ≡ None) where
    here : after (start image words) g.steps ≡ Some (flat_state g)
    here = ap (λ (o : Option ℕ). after (start image words) (went_steps_in g.steps o)) (sym on) ∙ stands.reached

    pub ends_over : limit - g.cycles < step_cost (flat_state g) → IsRunEnd g image words limit (OverLimit g.steps)
    ends_over room = record {
      stands = stands;
      ends = record {
        step = g.steps;
        state = flat_state g;
        reached = here;
        afforded = omega (arith, stands.cost, keeps);
        ended = over_limit limit (run_cost (start image words) g.steps) g.steps (flat_state g) (omega (arith, stands.cost, keeps, room));
      };
      reached = ap (went_steps_in g.steps) on;
      steps = refl;
    }

    pub ends_faulted : (fault : Fault) → step_cost (flat_state g) ≤ limit - g.cycles → step_of (flat_state g) ≡ Faulted fault
        → IsRunEnd g image words limit (FaultedAt fault g.pc g.steps)
    ends_faulted fault room faults = record {
      stands = stands;
      ends = record {
        step = g.steps;
        state = flat_state g;
        reached = here;
        afforded = omega (arith, stands.cost, keeps);
        ended = in_limit limit (run_cost (start image words) g.steps) g.steps (flat_state g) (Faulted fault) (omega (arith, stands.cost, keeps, room)) faults;
      };
      reached = ap (went_steps_in g.steps) on;
      steps = refl;
    }

-- ---- where it can't go on
pub stops : (g : Going) (image : Image) (words : List ℕ) → IsRunOf g image words → (e : Event) → step_of (flat_state g) ≡ e → state_gone e ≡ None
    → after (start image words) (went_steps g + 1) ≡ None
stops g image words stands e is none =
    let next : went_steps g + 1 ≡ suc (went_steps g) = omega arith in
    ap (after (start image words)) next ∙ stops_on (start image words) (went_steps g) (flat_state g) e stands.reached is none

-- after a halt
pub stopped : (g : Going) (code : ℕ) → g.halted ≡ Some code → (image : Image) (words : List ℕ) → IsRunOf g image words → after (start image words) (went_steps g + 1) ≡ None
stopped g code some image words stands =
    let halts : (1 ≤ g.steps) × (step_of (flat_state g) ≡ Halted code) = subst (λ (o : Option ℕ). HaltsWith (flat_state g) g.steps o) some stands.halts in
    stops g image words stands (Halted code) halts.1 refl

pub some_code : (o : Option ℕ) → is_some o ≡ true → (code : ℕ) × (o ≡ Some code)
some_code (Some code) h = (code, refl)
some_code None h = absurd (cc)

pub no_code : (o : Option ℕ) → is_some o ≡ false → o ≡ None
no_code (Some code) h = absurd (cc)
no_code None h = refl

-- where neither the pc, nor a byte, nor a number changes
pub uncut_same : (g h : Going) → h.pc ≡ g.pc → memory_in h.memory ≡ memory_in g.memory → h.steps ≡ g.steps → h.cycles ≡ g.cycles → IsUncut g → IsUncut h
uncut_same g h pc bytes steps cycles uncut = record {
  going = record {
    aligned = ap (λ (n : ℕ). n % 4) pc ∙ uncut.going.aligned;
    least = omega (arith, steps, cycles, uncut.going.least);
    most = omega (arith, steps, cycles, uncut.going.most);
  };
  rest = λ a far. ap (λ (m : ℕ → ℕ). m a) bytes ∙ uncut.rest a far;
}
