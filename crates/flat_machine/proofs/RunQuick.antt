-- Several steps more of an uncut run, each of which merely went on.
use Rattle.std.proofs.Common.{◌≡◌, ℕ, zero, suc, ◌+◌, ◌/◌, ◌%◌, ◌<◌, Bool, List, ◌++◌, Option, Some, None, sym, ap, ap₂, ◌∙◌, subst, arith, IsTrue, add-zero}
use Rattle.std.specs.Prelude.{Contains}
use Rattle.std.proofs.lemmas.List.Elements.{Contains-append_left, Contains-append_right}
use Rattle.page_core.specs.Images.{Image}
use Rattle.rv_step.specs.Machine.{State, foot_of, step_cost}
use Rattle.rv_step.specs.Runs.{start, after, run_cost, run_pages}
use Rattle.rv_step.specs.Quick.{GoesQuickly}
use Rattle.rv_step.proofs.Kept.{step_keeps}
use Rattle.rv_step.proofs.QuickSteps.{pages_next}
use Rattle.rv_step.proofs.Runs.{step_back, spent_next, after-add}
use Rattle.flat_machine.specs.Going.{Going, IsUncut, flat_state, went_steps_in, HaltsWith, IsRunOf}

-- a run changes the pages of its footprints alone
pub run_keeps_others : (s : State) (n : ℕ) (t : State) (a : ℕ) → after s n ≡ Some t → ¬ Contains (run_pages s n) (a / 1024) → t.memory a ≡ s.memory a
unfolding after
run_keeps_others s zero t a h away = let same : Some s ≡ Some t = h in let e : s ≡ t = cc in ap (λ (u : State). u.memory a) (sym e)
run_keeps_others s (suc n) t a h away =
    let (u, before, went) = step_back s n t h in
    let pages = pages_next s n u before in
    (step_keeps u t went).outside a (λ m. away (subst (λ (ps : List ℕ). Contains ps (a / 1024)) (sym pages) (Contains-append_right (run_pages s n) (foot_of u) (a / 1024) m)))
    ∙ run_keeps_others s n u a before (λ m. away (subst (λ (ps : List ℕ). Contains ps (a / 1024)) (sym pages) (Contains-append_left (run_pages s n) (foot_of u) (a / 1024) m)))

-- what the steps of a run and then n more cost
pub run_cost-add : (s : State) (b n : ℕ) (t u : State) → after s b ≡ Some t → after t n ≡ Some u → run_cost s (b + n) ≡ run_cost s b + run_cost t n
unfolding run_cost
run_cost-add s b zero t u h k = ap (run_cost s) (add-zero b) ∙ sym (add-zero (run_cost s b))
run_cost-add s b (suc n) t u h k =
    let (v, before, went) = step_back t n u k in
    let next : b + suc n ≡ suc (b + n) = omega arith in
    let here : after s (b + n) ≡ Some v = after-add s b n t h ∙ before in
    let one : run_cost s (suc (b + n)) ≡ run_cost s (b + n) + step_cost v = spent_next s (b + n) v here in
    let other : run_cost t (suc n) ≡ run_cost t n + step_cost v = spent_next t n v before in
    ap (run_cost s) next ∙ omega (arith, one, other, run_cost-add s b n t v h before)

module _ (holds : ℕ → Bool) (g h : Going) (n : ℕ) (went : GoesQuickly holds (flat_state g) n (flat_state h)) (steps : h.steps ≡ g.steps + n) (cycles : h.cycles ≡ g.cycles + n) where
  pub stands_further : h.read ++ h.words ≡ g.read ++ g.words → g.halted ≡ None → h.halted ≡ None
      → (image : Image) (words : List ℕ) → IsRunOf g image words → IsRunOf h image words
  stands_further all on none image words stands =
      let here : after (start image words) g.steps ≡ Some (flat_state g) = ap (λ (o : Option ℕ). after (start image words) (went_steps_in g.steps o)) (sym on) ∙ stands.reached in
      record {
        reached = ap₂ (λ (k : ℕ) (o : Option ℕ). after (start image words) (went_steps_in k o)) steps none ∙ after-add (start image words) g.steps n (flat_state g) here ∙ went.reached;
        cost = cycles ∙ ap₂ (λ a b. a + b) stands.cost (sym went.cost) ∙ sym (run_cost-add (start image words) g.steps n (flat_state g) (flat_state h) here went.reached)
            ∙ ap (run_cost (start image words)) (sym steps);
        halts = subst (λ (o : Option ℕ). HaltsWith (flat_state h) h.steps o) (sym none) tt;
        all = all ∙ stands.all;
      }

  pub uncut_further : ((page : ℕ) → IsTrue (holds page) → page < 262144) → h.pc % 4 ≡ 0 → IsUncut g → IsUncut h
  uncut_further pages aligned uncut = record {
    going = record {
      aligned = aligned;
      least = omega (arith, steps, cycles, uncut.going.least);
      most = omega (arith, steps, cycles, uncut.going.most);
    };
    rest = λ a far. run_keeps_others (flat_state g) n (flat_state h) a went.reached (λ m. absurd (omega (arith, pages (a / 1024) (went.within (a / 1024) m), far))) ∙ uncut.rest a far;
  }
