-- The seal of a stretch of a run claims what the run does there. H is the digest function.
use Rattle.std.proofs.Common.{◌≡◌, ℕ, zero, suc, ◌/◌, ◌<◌, List, Some, refl, sym, ap, ◌∙◌, arith}
use Rattle.std.specs.Prelude.{Contains}
use Rattle.page_core.specs.Memory.{Within}
use Rattle.page_core.specs.Memories.{page_of}
use Rattle.part_tree.specs.Part.{Part, open_numbers}
use Rattle.part_tree.proofs.Change.{root_of-agree}
use Rattle.rv_step.specs.Machine.{State, foot_of, full}
use Rattle.rv_step.specs.Runs.{after}
use Rattle.rv_step.specs.Laws.{IsReady}
use Rattle.seal_replay.proofs.Puts.{new_root}
use Rattle.rv_step.proofs.Kept.{step_keeps}
use Rattle.std.proofs.lemmas.Option.{same_Some}
use Rattle.rv_step.proofs.Runs.{step_back}
use Rattle.claim_types.specs.declared.claim.Exit.{Exit}
use Rattle.claim_types.specs.declared.claim.Exit.TheVariants.{Split, Halted as HaltedWith}
use Rattle.seal_replay.specs.Claiming.{claim_at}
use Rattle.seal_replay.proofs.Endings.{claim_from}
use Rattle.executor.specs.Proving.{seal_from, EndsAfter, system_state}
use Rattle.executor.specs.Laws.{StretchesReplay, StretchesClaim}
use Rattle.executor.proofs.Replays.{Replayed, agrees, feet, opens_registers, split_end, halt_end}

replayed : (H : List ℕ → List ℕ) (s : State) (n : ℕ) (exit : Exit) (z : State) → IsReady s → 0 < n → EndsAfter s n exit z → Replayed H s n exit z
replayed H s n Split z ready some ends = split_end H s n ready some z ends
replayed H s zero (HaltedWith code) z ready some ends = absurd (omega arith)
replayed H s (suc m) (HaltedWith code) z ready some ends = halt_end H s m ready z code (ap (after s) (omega arith) ∙ ends.0) ends.1

pub stretches_replay : (H : List ℕ → List ℕ) → StretchesReplay H
stretches_replay H s n exit z ready some ends = (replayed H s n exit z ready some ends).clean

-- a run leaves the memory outside its footprints as it is
pub run_leaves : (pages : List ℕ) (s : State) (n : ℕ) (z : State) → after s n ≡ Some z → ((k : ℕ) (v : State) → k < n → after s k ≡ Some v → Within (foot_of v) pages)
    → (a : ℕ) → ¬ Contains pages (a / 1024) → z.memory a ≡ s.memory a
unfolding after
run_leaves pages s zero z h shown a closed = ap (λ (u : State). u.memory a) (sym (same_Some s z h))
run_leaves pages s (suc n) z h shown a closed =
    let (u, before, goes) = step_back s n z h in
    (step_keeps u z goes).outside a (λ c. closed (shown n u (omega arith) before (a / 1024) c))
    ∙ run_leaves pages s n u before (λ k v low e. shown k v (omega arith) e) a closed

module _ (H : List ℕ → List ℕ) (s : State) (n : ℕ) (ready : IsReady s) (some : 0 < n) where
  abbrev tree : Part
  tree = (seal_from H s n).tree

  before_is : (claim_at H (seal_from H s n) (Split, s)).before ≡ system_state H s
  before_is = λ i. record { pc = s.pc; root = root_of-agree H (page_of (full s)) 18 0 tree (agrees H s n ready some) i }

  module _ (z : State) (goes : after s n ≡ Some z) (r : Replayed H s n Split z) where
    split_after : (claim_at H (seal_from H s n) (Split, r.state)).after ≡ system_state H z
    split_after = λ i. record { pc = sym r.like.pc i; root = new_root H (seal_from H s n) s z r.state (agrees H s n ready some) (opens_registers H s n ready some) (run_leaves (open_numbers 0 tree) s n z goes (feet H s n ready some)) r.like.memory i }

pub stretches_claim : (H : List ℕ → List ℕ) → StretchesClaim H
stretches_claim H s n Split z ready some ends =
    let r = replayed H s n Split z ready some ends in
    record {
      claim = claim_at H (seal_from H s n) (Split, r.state);
      is_claim = claim_from H (seal_from H s n) (Split, r.state) r.clean r.ends;
      claims = record {
        before = before_is H s n ready some;
        after = split_after H s n ready some z ends r;
        exit_is = refl;
        journal = sym r.like.journal;
        calls = sym r.like.calls;
      };
    }
stretches_claim H s n (HaltedWith code) z ready some ends =
    let r = replayed H s n (HaltedWith code) z ready some ends in
    record {
      claim = claim_at H (seal_from H s n) (HaltedWith code, r.state);
      is_claim = claim_from H (seal_from H s n) (HaltedWith code, r.state) r.clean r.ends;
      claims = record {
        before = before_is H s n ready some;
        after = refl;
        exit_is = refl;
        journal = sym r.like.journal;
        calls = sym r.like.calls;
      };
    }
