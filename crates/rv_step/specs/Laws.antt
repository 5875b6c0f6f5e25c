-- Laws of a step and of a run: what they read, and how a run halts.
use Rattle.std.specs.Prelude.{◌≡◌, ℕ, ◌%◌, ◌^◌, ◌<◌, List, [], ◌++◌, Some}
use Rattle.rv_isa.specs.declared.fault.Fault.TheVariants.{InputEnd}
use Rattle.page_core.specs.Memory.{Within, AgreeOn}
use Rattle.host_calls.specs.declared.call.AssumeCall.{AssumeCall}
use Rattle.rv_step.specs.Machine.{State, Event, Went, Halted, Faulted, full, step_of, foot_of, step_cost}
use Rattle.rv_step.specs.Runs.{after, run_cost}
use Rattle.rv_isa.specs.Registers.{AreRegisters}

-- a state as every run has it
pub record IsReady (s : State) : Type 0 where
  pub aligned : s.pc % 4 ≡ 0
  pub registers : AreRegisters s.x
  pub is_word : s.pc < 2 ^ 32

-- what one run has beside another: words still to come, and the journal and calls so far
pub record Beside : Type 0 where
  pub words : List ℕ
  pub journal : List ℕ
  pub calls : List AssumeCall

-- t is s with these beside it, and the two show the same bytes in these pages
pub record Alike (pages : List ℕ) (more : Beside) (s t : State) : Type 0 where
  pub pc : t.pc ≡ s.pc
  pub x : t.x ≡ s.x
  pub words : t.words ≡ s.words ++ more.words
  pub journal : t.journal ≡ more.journal ++ s.journal
  pub calls : t.calls ≡ more.calls ++ s.calls
  pub memory : AgreeOn pages (full s) (full t)

abbrev pub AlikeEvents : List ℕ → Beside → Event → Event → Type 0
AlikeEvents pages more (Went s) (Went t) = Alike pages more s t
AlikeEvents pages more (Halted c) (Halted d) = d ≡ c
AlikeEvents pages more (Faulted f) (Faulted g) = g ≡ f
AlikeEvents pages more _ _ = ⊥

-- Two states that are alike on the pages of the one's footprint do the same step, unless the words of the first run out.
abbrev pub StepReadsItsFoot : Type 0
StepReadsItsFoot =
    (pages : List ℕ) (more : Beside) (s t : State)
    → s.pc % 4 ≡ 0
    → Alike pages more s t
    → Within (foot_of s) pages
    → (step_of s ≡ Faulted InputEnd → more.words ≡ [])
    → (foot_of t ≡ foot_of s) × (step_cost t ≡ step_cost s) × AlikeEvents pages more (step_of s) (step_of t)

-- Over pages that all footprints lie in, a run does what the other does.
abbrev pub RunReadsItsFeet : Type 0
RunReadsItsFeet =
    (pages : List ℕ) (more : Beside) (s r : State) (n : ℕ) (t : State)
    → IsReady s
    → Alike pages more s r
    → after s n ≡ Some t
    → ((k : ℕ) (u : State) → k < n → after s k ≡ Some u → Within (foot_of u) pages)
    → (v : State) × (after r n ≡ Some v) × Alike pages more t v × (run_cost r n ≡ run_cost s n) × IsReady t

-- the run from r halts in its step n with this code, journal and calls, and no word left
pub record HaltsAfter (r : State) (n : ℕ) (code : ℕ) (journal : List ℕ) (calls : List AssumeCall) : Type 0 where
  pub state : State
  pub reached : after r n ≡ Some state
  pub halts : step_of state ≡ Halted code
  pub journal_is : state.journal ≡ journal
  pub calls_are : state.calls ≡ calls
  pub no_words : state.words ≡ []
