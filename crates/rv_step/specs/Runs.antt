-- The uncut run: an image and words, one step after the other.
use Rattle.std.specs.Prelude.{◌≡◌, ℕ, zero, suc, ◌+◌, ◌≤◌, cond, ltb, List, [], ◌++◌, replicate, Option, Some, None, option_and_then}
use Rattle.page_core.specs.Images.{Image}
use Rattle.rv_step.specs.Machine.{State, Event, Went, Halted, Faulted, step_of, foot_of, step_cost}
use Rattle.rv_step.specs.declared.outcome.Outcome.{Outcome}
use Rattle.rv_step.specs.declared.outcome.Outcome.TheVariants.{Halted as HaltedAt, Faulted as FaultedAt, OverLimit}

-- where the run of an image and input words begins: all registers are zero
abbrev pub start : Image → List ℕ → State
start image words = record { pc = image.entry; x = replicate 32 0; memory = image.memory; words = words; journal = []; calls = [] }

abbrev pub state_gone : Event → Option State
state_gone (Went s) = Some s
state_gone (Halted code) = None
state_gone (Faulted fault) = None

-- the state after n steps from s that went
unfoldable pub after : State → ℕ → Option State
after s zero = Some s
after s (suc n) = option_and_then (λ t. state_gone (step_of t)) (after s n)

-- a number at a state, 0 where there is none
abbrev pub at_some : (State → ℕ) → Option State → ℕ
at_some f (Some s) = f s
at_some f None = 0

-- what n steps from s cost
unfoldable pub run_cost : State → ℕ → ℕ
run_cost s zero = 0
run_cost s (suc n) = run_cost s n + at_some step_cost (after s n)

-- the pages that n steps from s touch
abbrev pub pages_at : Option State → List ℕ
pages_at (Some s) = foot_of s
pages_at None = []

unfoldable pub run_pages : State → ℕ → List ℕ
run_pages s zero = []
run_pages s (suc n) = run_pages s n ++ pages_at (after s n)

-- how step k, at this pc, ends a run, if it does
abbrev pub ends_with : ℕ → ℕ → Event → Option Outcome
ends_with k pc (Went u) = None
ends_with k pc (Halted code) = Some (HaltedAt code)
ends_with k pc (Faulted fault) = Some (FaultedAt fault pc k)

-- what ends a run at its step k, from the state t before that step, the earlier steps having cost c
abbrev pub verdict : ℕ → ℕ → ℕ → State → Option Outcome
verdict limit c k t = cond (ltb limit (c + step_cost t)) (Some (OverLimit k)) (ends_with k t.pc (step_of t))

-- the outcome of the run from s under a limit
pub record IsOutcome (s : State) (limit : ℕ) (o : Outcome) : Type 0 where
  pub step : ℕ
  pub state : State
  pub reached : after s step ≡ Some state
  pub afforded : run_cost s step ≤ limit
  pub ended : verdict limit (run_cost s step) step state ≡ Some o

-- how many steps were done by then, of which the first k went: the one that halts is one of them, one that faults or costs too much isn't
abbrev pub steps_done : ℕ → Outcome → ℕ
steps_done k (HaltedAt code) = k + 1
steps_done k (FaultedAt fault pc step) = k
steps_done k (OverLimit step) = k
