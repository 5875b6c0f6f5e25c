-- What a step over a bus answers, and what it leaves.
use Rattle.std.specs.Prelude.{◌≡◌, ℕ, ◌+◌, ◌/◌, ◌<◌, ◌≤◌, Bool, cond, leb, List, [], ◌∷◌, drop, IsTrue, Option, Some, None, Result, Ok, Err}
use Rattle.rv_isa.specs.declared.fault.Fault.{Fault}
use Rattle.page_core.specs.Memory.{top}
use Rattle.rv_step.specs.declared.act.Act.{Act}
use Rattle.rv_step.specs.declared.act.Act.TheVariants.{Sets, Loads, Stores, Does, Faults}
use Rattle.rv_step.specs.Machine.{State, Event, Went, Halted, Faulted, act, step_of, foot_of, step_cost, first_closed}
use Rattle.rv_step.specs.Tapes.{Tape, Log}
use Rattle.rv_step.specs.declared.place.Core.{Core}
use Rattle.rv_step.specs.declared.looking.Looked.{Looked}
use Rattle.rv_step.specs.declared.stepping.Event.{Event as StepEvent}
use Rattle.rv_step.specs.declared.stepping.Event.TheVariants as E
use Rattle.rv_step.specs.declared.stepping.Paid.{Paid}
use Rattle.rv_step.specs.declared.stepping.StepStop.{StepStop}
use Rattle.rv_step.specs.declared.stepping.StepStop.TheVariants as S
use Rattle.page_core.specs.declared.sizes.TheConstants.{REGISTER_PAGE}

-- each byte of a range lies in a page of these
abbrev pub Opens : (ℕ → Bool) → ℕ → ℕ → Type 0
Opens opens a n = (k : ℕ) → k < n → IsTrue (opens ((a + k) / 1024))

-- and each range does
abbrev pub AllOpen : (ℕ → Bool) → List (ℕ × ℕ) → Type 0
AllOpen opens [] = Unit {0}
AllOpen opens (r ∷ rs) = Opens opens r.0 r.1 × AllOpen opens rs

-- the machine's state, on a memory
abbrev pub state_at : Core → (ℕ → ℕ) → Tape → Log → State
state_at core memory tape log =
    record { pc = core.pc; x = core.regs; memory = memory; words = drop tape.used tape.words; journal = log.journal; calls = log.calls }

-- the register that an act writes is one of the 32
abbrev pub HasTarget : Act → Type 0
HasTarget (Sets pc rd v) = rd < 32
HasTarget (Loads op rd a) = rd < 32
HasTarget (Stores op a v) = Unit {0}
HasTarget (Does call) = Unit {0}
HasTarget (Faults fault) = Unit {0}

-- ---- looking
-- the pages of a fetch: the register page, and the code page where the pc is in range
abbrev pub fetch_foot : State → List ℕ
fetch_foot s = cond (leb top s.pc) (REGISTER_PAGE ∷ []) (REGISTER_PAGE ∷ s.pc / 1024 ∷ [])

-- a value where no page is closed
abbrev pub unless_closed : {A : Type 0} → Option ℕ → A → Result A ℕ
unless_closed (Some page) a = Err page
unless_closed None a = Ok a

-- the act, or the first page of the fetch that isn't open
abbrev pub fetched_act : (ℕ → Bool) → State → Result Act ℕ
fetched_act opens s = unless_closed (first_closed opens (fetch_foot s)) (act s)

abbrev pub fault_in : Event → Option Fault
fault_in (Went t) = None
fault_in (Halted code) = None
fault_in (Faulted fault) = Some fault

abbrev pub act_fault : Act → Option Fault
act_fault (Sets pc rd v) = None
act_fault (Loads op rd a) = None
act_fault (Stores op a v) = None
act_fault (Does call) = None
act_fault (Faults fault) = Some fault

-- the footprint, cost and fault of the step, or the first page of the fetch that isn't open
abbrev pub looked_of : (ℕ → Bool) → State → Result Looked ℕ
looked_of opens s =
    unless_closed (first_closed opens (fetch_foot s)) (record { foot = foot_of s; cost = step_cost s; fault = fault_in (step_of s) })

-- ---- stepping
-- this is the act of a step whose footprint is open
pub record IsNext (opens : ℕ → Bool) (s : State) (a : Act) : Type 0 where
  pub is : a ≡ act s
  pub no_closed : first_closed opens (foot_of s) ≡ None

-- the answer that an event gives, where the step leads from s to t; want of memory may always be one
abbrev pub AnswersEvent : Event → State → State → Result StepEvent StepStop → Type 0
AnswersEvent event s t (Ok E.Went) = event ≡ Went t
AnswersEvent event s t (Ok (E.Halted code)) = (event ≡ Halted code) × (t ≡ s)
AnswersEvent event s t (Err (S.Miss page)) = ⊥
AnswersEvent event s t (Err (S.Fault fault)) = (event ≡ Faulted fault) × (t ≡ s)
AnswersEvent event s t (Err S.Memory) = t ≡ s

-- from s the step over these open pages leads to t with this answer: it misses the first page of the footprint that
-- isn't open, and where all are open it answers what the step is
abbrev pub IsStepOf : (ℕ → Bool) → State → State → Result StepEvent StepStop → Type 0
IsStepOf opens s t (Err (S.Miss page)) = (first_closed opens (foot_of s) ≡ Some page) × (t ≡ s)
IsStepOf opens s t answer = (first_closed opens (foot_of s) ≡ None) × AnswersEvent (step_of s) s t answer

-- so it is of a step that is done only where it costs at most so much, which is tested before its fault
abbrev pub IsPaidStepOf : (ℕ → Bool) → ℕ → State → State → Result (Option Paid) StepStop → Type 0
IsPaidStepOf opens room s t (Ok None) = (first_closed opens (foot_of s) ≡ None) × (room < step_cost s) × (t ≡ s)
IsPaidStepOf opens room s t (Ok (Some paid)) = (paid.cost ≡ step_cost s) × (step_cost s ≤ room) × IsStepOf opens s t (Ok paid.event)
IsPaidStepOf opens room s t (Err (S.Fault fault)) = (step_cost s ≤ room) × IsStepOf opens s t (Err (S.Fault fault))
IsPaidStepOf opens room s t (Err stop) = IsStepOf opens s t (Err stop)
