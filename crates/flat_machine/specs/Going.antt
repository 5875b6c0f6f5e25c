-- An uncut run that is under way.
use Rattle.std.specs.Prelude.{◌≡◌, ℕ, ◌+◌, ◌-◌, ◌*◌, ◌%◌, ◌≤◌, List, ◌++◌, Option, Some, None}
use Rattle.host_calls.specs.declared.call.AssumeCall.{AssumeCall}
use Rattle.page_core.specs.Images.{Image}
use Rattle.rv_step.specs.Machine.{State, Halted, step_of}
use Rattle.rv_step.specs.Runs.{start, after, run_cost, IsOutcome, steps_done}
use Rattle.rv_step.specs.declared.outcome.Outcome.{Outcome}
use Rattle.rv_step.specs.declared.outcome.Outcome.TheVariants.{Halted as HaltedAt}
use Rattle.flat_machine.specs.Layers.{Layers, memory_in}

-- where it is, which words it has read and which come next, what it has said, how many steps it did and what they cost, and with
-- which code the last one halted, if it did
pub record Going : Type 0 where
  pub pc : ℕ
  pub x : List ℕ
  pub memory : Layers
  pub read : List ℕ
  pub words : List ℕ
  pub journal : List ℕ
  pub calls : List AssumeCall
  pub steps : ℕ
  pub cycles : ℕ
  pub halted : Option ℕ

-- the state that it is in; a halt changes none
abbrev pub flat_state : Going → State
flat_state g = record { pc = g.pc; x = g.x; memory = memory_in g.memory; words = g.words; journal = g.journal; calls = g.calls }

-- how many of its steps went: all but the one that halted
abbrev pub went_steps_in : ℕ → Option ℕ → ℕ
went_steps_in steps None = steps
went_steps_in steps (Some code) = steps - 1

abbrev pub went_steps : Going → ℕ
went_steps g = went_steps_in g.steps g.halted

abbrev pub HaltsWith : State → ℕ → Option ℕ → Type 0
HaltsWith s steps None = Unit {0}
HaltsWith s steps (Some code) = (1 ≤ steps) × (step_of s ≡ Halted code)

-- the pc is aligned, and each step cost 1 to 257
pub record IsGoing (g : Going) : Type 0 where
  pub aligned : g.pc % 4 ≡ 0
  pub least : g.steps ≤ g.cycles
  pub most : g.cycles ≤ 257 * g.steps

-- and its memory is zero from 2 ^ 28 on
pub record IsUncut (g : Going) : Type 0 where
  pub going : IsGoing g
  pub rest : (a : ℕ) → 268435456 ≤ a → memory_in g.memory a ≡ 0

-- it is the run of an image and input words, after so many steps
pub record IsRunOf (g : Going) (image : Image) (words : List ℕ) : Type 0 where
  pub reached : after (start image words) (went_steps g) ≡ Some (flat_state g)
  pub cost : g.cycles ≡ run_cost (start image words) g.steps
  pub halts : HaltsWith (flat_state g) g.steps g.halted
  pub all : g.read ++ g.words ≡ words

-- one step more is done, which costs at least 1
pub record DoesOne (before after : Going) : Type 0 where
  pub steps : after.steps ≡ before.steps + 1
  pub cycles : before.cycles + 1 ≤ after.cycles

-- none is done
pub record DoesNone (before after : Going) : Type 0 where
  pub steps : after.steps ≡ before.steps
  pub cycles : after.cycles ≡ before.cycles
  pub halted : after.halted ≡ before.halted

-- what a step that ends a run does: one that halts is done, one that faults or costs too much isn't
abbrev pub DoesLast : Going → Going → Outcome → Type 0
DoesLast before after (HaltedAt code) = DoesOne before after × (after.halted ≡ Some code)
DoesLast before after outcome = DoesNone before after

-- the run of an image and words ends so under a limit, and this is that run, after the steps that were done by then
pub record IsRunEnd (g : Going) (image : Image) (words : List ℕ) (limit : ℕ) (outcome : Outcome) : Type 0 where
  pub stands : IsRunOf g image words
  pub ends : IsOutcome (start image words) limit outcome
  pub reached : went_steps g ≡ ends.step
  pub steps : g.steps ≡ steps_done ends.step outcome
