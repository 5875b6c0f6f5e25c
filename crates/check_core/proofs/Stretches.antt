-- What a seal that replays and agrees with the run tells of the run's next stretch.
use Rattle.std.proofs.Common.{◌≡◌, ◌⊎◌, inl, inr, ℕ, zero, suc, ◌+◌, ◌/◌, ◌<◌, List, ◌++◌, Some, None, sym, ap, ◌∙◌, subst, arith}
use Rattle.std.specs.Prelude.{Contains}
use Rattle.part_tree.specs.Tree.{root, tree_strings}
use Rattle.part_tree.specs.Laws.{SameUnopened}
use Rattle.part_tree.specs.Part.{Part, open_numbers, part_strings, root_of, Agree}
use Rattle.part_tree.proofs.Change.{put_has_new_strings}
use Rattle.page_core.specs.Memory.{Within}
use Rattle.rv_step.specs.Machine.{State, foot_of, full}
use Rattle.rv_step.specs.Runs.{after}
use Rattle.seal_replay.specs.Replay.{enter, stop_of, ending}
use Rattle.claim_types.specs.declared.claim.Exit.TheVariants.{Split}
use Rattle.rv_step.specs.Laws.{IsReady, Beside, Alike}
use Rattle.seal_replay.specs.Laws.{BeginsAt, beside}
use Rattle.rv_step.proofs.Frame.{step_reads_its_foot}
use Rattle.seal_replay.proofs.Puts.{unopened, same_put, new_root}
use Rattle.rv_step.proofs.Kept.{step_keeps}
use Rattle.std.proofs.lemmas.Option.{same_Some}
use Rattle.rv_step.proofs.Runs.{step_back, not_ended, after-add, run_reads_its_feet}
use Rattle.seal_replay.proofs.Chains.{feet_open, all_used, splits, seal_runs, enters_ready, enters_alike, opens_registers, ready_like}
use Rattle.page_core.specs.Memories.{page_of}
use Rattle.receipt_types.specs.Seals.{Seal}
use Rattle.seal_replay.specs.Claiming.{put_tree}
use Rattle.part_tree.proofs.Shown.{tree_shows}

-- a run that is like another over pages that hold the other's footprints leaves all else in memory as it is
pub run_leaves : (pages : List ℕ) (more : Beside) (s r : State) (n : ℕ) (t v : State) → IsReady s → Alike pages more s r → after s n ≡ Some t
    → ((k : ℕ) (u : State) → k < n → after s k ≡ Some u → Within (foot_of u) pages)
    → after r n ≡ Some v → (a : ℕ) → ¬ Contains pages (a / 1024) → v.memory a ≡ r.memory a
unfolding after
run_leaves pages more s r zero t v ready same h feet g a closed = ap (λ (w : State). w.memory a) (sym (same_Some r v g))
run_leaves pages more s r (suc n) t v ready same h feet g a closed =
    let (u, before, goes) = step_back s n t h in
    let (w, there, on) = step_back r n v g in
    let (x, reached, alike, costs, fit) = run_reads_its_feet pages more s r n u ready same before (λ k y l e. feet k y (omega arith) e) in
    let x_is : x ≡ w = same_Some x w (sym reached ∙ there) in
    let (foot, cost, events) = step_reads_its_foot pages more u x fit.aligned alike (feet n u (omega arith) before) (λ f. absurd (not_ended u t _ goes f)) in
    let w_foot : foot_of w ≡ foot_of u = ap foot_of (sym x_is) ∙ foot in
    (step_keeps w v on).outside a
    (λ c. closed (feet n u (omega arith) before (a / 1024) (subst (λ (f : List ℕ). Contains f (a / 1024)) w_foot c)))
    ∙ run_leaves pages more s r n u w ready same before (λ k y l e. feet k y (omega arith) e) there a closed

-- where the run is after a seal that ends in Split
pub record Onward (H : List ℕ → List ℕ) (r s : State) (b : ℕ) (seal : Seal) (rest : List ℕ) (t : State) : Type 0 where
  pub state : State
  pub reached : after r (b + seal.steps) ≡ Some state
  pub ready : IsReady state
  pub words : state.words ≡ rest
  pub pc : state.pc ≡ t.pc
  pub root_is : root_of H (put_tree seal t) ≡ root H (page_of (full state))
  pub unopened : SameUnopened (page_of (full s)) (page_of (full state)) 18 0 seal.tree
  pub strings : (x : List ℕ) → Contains (tree_strings H (page_of (full state)) 18 0) x
      → Contains (tree_strings H (page_of (full s)) 18 0) x ⊎ Contains (part_strings H (put_tree seal t)) x

module _ (H : List ℕ → List ℕ) (r s : State) (b : ℕ) (seal : Seal) (rest : List ℕ) (reached : after r b ≡ Some s) (fit : IsReady s) (supplied : s.words ≡ seal.words ++ rest)
    (clean : stop_of seal ≡ None) (some_steps : 0 < seal.steps) (same_pc : seal.pc ≡ s.pc) (agree : Agree H (page_of (full s)) 18 0 seal.tree) where
  pub begins : BeginsAt r b seal
  begins = record { state = s; reached = reached; pc = same_pc; shows = tree_shows H (full s) seal.tree agree }

  module _ (t : State) (ends : ending seal ≡ Some (Split, t)) (v : State) (there : after s seal.steps ≡ Some v) (like : Alike (open_numbers 0 seal.tree) (beside s rest) t v) where
    -- the run changes no page that is closed
    leaves : (a : ℕ) → ¬ Contains (open_numbers 0 seal.tree) (a / 1024) → v.memory a ≡ s.memory a
    leaves a closed =
        run_leaves (open_numbers 0 seal.tree) (beside s rest) (enter seal) s seal.steps t v
        (enters_ready r s b seal rest reached fit supplied clean some_steps begins)
        (enters_alike r s b seal rest reached fit supplied clean some_steps begins)
        (splits seal t ends) (λ k u l e. feet_open seal clean k u l e) there a closed

    registers : Contains (open_numbers 0 seal.tree) 262143
    registers = opens_registers r s b seal rest reached fit supplied clean some_steps begins

    pub same_unopened : SameUnopened (page_of (full s)) (page_of (full v)) 18 0 seal.tree
    same_unopened = unopened H seal s v t agree registers leaves like.memory

    pub root_after : root_of H (put_tree seal t) ≡ root H (page_of (full v))
    root_after = new_root H seal s v t agree registers leaves like.memory

    pub new_strings : (x : List ℕ) → Contains (tree_strings H (page_of (full v)) 18 0) x
        → Contains (tree_strings H (page_of (full s)) 18 0) x ⊎ Contains (part_strings H (put_tree seal t)) x
    new_strings x c =
        elim (put_has_new_strings H (page_of (full s)) (page_of (full v)) 18 0 seal.tree agree same_unopened x c) [
          | inl old ↦ inl old
          | inr new ↦ inr (subst (λ (p : Part). Contains (part_strings H p) x) (sym (same_put H seal s v t agree registers leaves like.memory)) new)
        ]

  pub onward : (t : State) → ending seal ≡ Some (Split, t) → Onward H r s b seal rest t
  onward t ends =
      let (v, there, like, good) =
      seal_runs r s b seal rest reached fit supplied clean some_steps begins seal.steps t (omega arith) (splits seal t ends) in
      let from_s : after s seal.steps ≡ Some v = sym (after-add r b seal.steps s reached) ∙ there in
      record {
        state = v;
        reached = there;
        ready = ready_like (open_numbers 0 seal.tree) (beside s rest) t v good like;
        words = like.words ∙ ap (λ (ws : List ℕ). ws ++ rest) (all_used seal Split t clean ends);
        pc = like.pc;
        root_is = root_after t ends v from_s like;
        unopened = same_unopened t ends v from_s like;
        strings = new_strings t ends v from_s like;
      }
