-- Steps that merely go on: each costs 1, takes no memory, and touches pages of a set alone.
use Rattle.std.specs.Prelude.{◌≡◌, ⊤, ℕ, Bool, Some, None, IsTrue, Contains}
use Rattle.rv_step.specs.declared.act.Act.{Act}
use Rattle.rv_step.specs.declared.act.Act.TheVariants.{Sets, Loads, Stores, Does, Faults}
use Rattle.rv_step.specs.declared.place.Core.{Core}
use Rattle.rv_step.specs.Machine.{State, Went, data_of, pages_of_all, act_event, step_of, foot_of, step_cost, first_closed}
use Rattle.rv_step.specs.Runs.{after, run_cost, run_pages}
use Rattle.rv_step.specs.Tapes.{Tape, Log}
use Rattle.rv_step.specs.Stepping.{state_at}

-- an act that is no host call and no fault
abbrev pub IsPlain : Act → Type 0
IsPlain (Sets pc rd v) = ⊤
IsPlain (Loads op rd a) = ⊤
IsPlain (Stores op a v) = ⊤
IsPlain (Does call) = ⊥
IsPlain (Faults fault) = ⊥

-- a plain act whose data lie in pages of the set, from one core and memory to others
pub record DoesPlainly (holds : ℕ → Bool) (a : Act) (core new : Core) (m n : ℕ → ℕ) : Type 0 where
  pub plain : IsPlain a
  pub touches : first_closed holds (pages_of_all (data_of a)) ≡ None
  pub went : (tape : Tape) (log : Log) → act_event a (state_at core m tape log) ≡ Went (state_at new n tape log)

-- a step that costs 1 and whose footprint lies in the set
pub record StepsQuickly (holds : ℕ → Bool) (s t : State) : Type 0 where
  pub went : step_of s ≡ Went t
  pub cost : step_cost s ≡ 1
  pub within : first_closed holds (foot_of s) ≡ None

-- n such steps lead from s to t
pub record GoesQuickly (holds : ℕ → Bool) (s : State) (n : ℕ) (t : State) : Type 0 where
  pub reached : after s n ≡ Some t
  pub cost : run_cost s n ≡ n
  pub within : (page : ℕ) → Contains (run_pages s n) page → IsTrue (holds page)
