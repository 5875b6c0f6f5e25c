-- What holds of every act, and what a step keeps.
use Rattle.std.specs.Prelude.{◌≡◌, ℕ, ◌/◌, ◌%◌, ◌^◌, ◌<◌, ◌≤◌, List, [], ◌∷◌, length, IsTrue, Contains}
use Rattle.std.specs.Int.{byte_len}
use Rattle.digest_core.specs.Digests.{IsBytes, IsDigest}
use Rattle.rv_isa.specs.Registers.{register}
use Rattle.host_calls.specs.declared.call.Call.TheVariants.{Halt, Read, Commit, Assume}
use Rattle.host_calls.specs.declared.call.AssumeCall.{AssumeCall}
use Rattle.host_calls.specs.Calls.{fits_below}
use Rattle.rv_step.specs.declared.act.Act.{Act}
use Rattle.rv_step.specs.declared.act.Act.TheVariants.{Sets, Loads, Stores, Does}
use Rattle.rv_step.specs.Machine.{data_of, State, Went, Halted, load_width, store_width, act, pages_of_all, cost_of_act, step_of, foot_of, step_cost}
use Rattle.rv_step.specs.Laws.{IsReady}

-- ---- an act
-- each range ends at the register page or below
abbrev pub AllBelow : List (ℕ × ℕ) → Type 0
AllBelow [] = Unit {0}
AllBelow (r ∷ rs) = IsTrue (fits_below r.0 r.1) × AllBelow rs

-- where it goes on is a word and a multiple of 4
abbrev pub GoesAligned : Act → Type 0
GoesAligned (Sets pc rd v) = (pc % 4 ≡ 0) × (pc < 2 ^ 32)
GoesAligned a = Unit {0}

-- the exit code of a halt is a word
abbrev pub HaltsWithWord : Act → Type 0
HaltsWithWord (Does (Halt code)) = code < 2 ^ 32
HaltsWithWord a = Unit {0}

-- a call takes at most 256 words, or 1,024 bytes
abbrev pub IsShortCall : Act → Type 0
IsShortCall (Does (Read pointer count)) = count ≤ 256
IsShortCall (Does (Commit pointer count)) = count ≤ 1024
IsShortCall a = Unit {0}

-- words are read and written at multiples of 4, halfwords at even addresses
abbrev pub IsAligned : Act → Type 0
IsAligned (Loads op rd a) = a % byte_len (load_width op) ≡ 0
IsAligned (Stores op a v) = a % byte_len (store_width op) ≡ 0
IsAligned (Does (Read pointer count)) = pointer % 4 ≡ 0
IsAligned (Does (Assume image journal)) = (image % 4 ≡ 0) × (journal % 4 ≡ 0)
IsAligned a = Unit {0}

-- what holds of an act by the registers x: where its data lie, where it goes on, how it halts, and what it takes, costs and touches
pub record IsSound (x : List ℕ) (a : Act) : Type 0 where
  pub below : AllBelow (data_of a)
  pub aligned : IsAligned a
  pub goes : GoesAligned a
  pub exit : register x 10 < 2 ^ 32 → HaltsWithWord a
  pub limits : IsShortCall a
  pub cost : cost_of_act a ≤ 257
  pub pages : length (pages_of_all (data_of a)) ≤ 4

-- All that holds of the act of a state whose pc is a multiple of 4.
abbrev pub ActsAreSound : Type 0
ActsAreSound = (s : State) → s.pc % 4 ≡ 0 → IsSound s.x (act s)

-- ---- a step
-- each call names two digests
abbrev pub AreCalls : List AssumeCall → Type 0
AreCalls [] = Unit {0}
AreCalls (call ∷ calls) = (IsDigest call.image × IsDigest call.journal) × AreCalls calls

-- a state of bytes: its memory, its journal, and the digests of its calls
pub record IsMade (s : State) : Type 0 where
  pub memory : (a : ℕ) → s.memory a < 256
  pub journal : IsBytes s.journal
  pub calls : AreCalls s.calls

-- what a step that went from s to t keeps: the memory outside its footprint, and what every run's states have
pub record Keeps (s t : State) : Type 0 where
  pub outside : (a : ℕ) → ¬ Contains (foot_of s) (a / 1024) → t.memory a ≡ s.memory a
  pub ready : IsReady s → IsReady t
  pub made : IsMade s → IsMade t

-- A step that goes on keeps all that.
abbrev pub StepKeeps : Type 0
StepKeeps = (s t : State) → step_of s ≡ Went t → Keeps s t

-- A step that halts, from a state that is ready, does so with a word.
abbrev pub StepHaltsWithWord : Type 0
StepHaltsWithWord = (s : State) (code : ℕ) → IsReady s → step_of s ≡ Halted code → code < 2 ^ 32

-- A step whose pc is a multiple of 4 costs at most 257, and touches at most six pages.
abbrev pub StepIsSmall : Type 0
StepIsSmall = (s : State) → s.pc % 4 ≡ 0 → (step_cost s ≤ 257) × (length (foot_of s) ≤ 6)
