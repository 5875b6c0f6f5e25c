-- An executor that is under way.
use Rattle.std.specs.Prelude.{◌≡◌, ◌⊎◌, ⊤, true, ℕ, ◌+◌, ◌-◌, ◌≤◌, List, ◌++◌, length, Option, Some, None, is_some, IsTrue}
use Rattle.std.specs.Coded.{Coded, code_by, coded×, coded_ℕ}
use Rattle.std.proofs.Common.{inl, inr, refl}
use Rattle.page_core.specs.Images.{Image}
use Rattle.page_core.specs.Memory.{ascending}
use Rattle.page_core.specs.Stored.{Stored, stored_pages}
use Rattle.part_tree.specs.Part.{part_of}
use Rattle.page_tree.specs.Grown.{AscendFrom}
use Rattle.host_calls.specs.Meters.{Metered}
use Rattle.rv_step.specs.Machine.{State}
use Rattle.rv_step.specs.Laws.{IsReady}
use Rattle.rv_step.specs.Runs.{start, after, run_cost, run_pages, IsOutcome}
use Rattle.rv_step.specs.declared.outcome.Outcome.{Outcome}
use Rattle.receipt_types.specs.Seals.{Seal, seal_code}
use Rattle.receipt_types.specs.Limits.{SealLimits}
use Rattle.flat_machine.specs.Following.{HoldsMemory}
use Rattle.flat_machine.specs.Going.{Going, IsRunOf}
use Rattle.seal_replay.specs.Replay.{stop_of}
use Rattle.executor.specs.Segments.{Limits, done_in, segment_fits, longest, segments, lengths, total}
use Rattle.executor.specs.Proving.{run_words}
use Rattle.executor.specs.Laws.{AreLimits}
use Rattle.part_tree.specs.declared.sizes.TheConstants.{HEIGHT, MOST_PAGES}
use Rattle.receipt_types.specs.declared.sizes.TheConstants.{MOST_SEALS}

-- ---- a cut: the number of its segment, and the segment's seal
pub record Cut : Type 0 where
  pub number : ℕ
  pub seal : Seal

-- it is stored as its fields
abbrev pub cut_code : Coded Cut
cut_code = code_by (ℕ × Seal) (coded× coded_ℕ seal_code) (λ c. (c.number, c.seal)) (λ p. record { number = p.0; seal = p.1 }) (λ _. refl)

-- the seal of n steps that begin at this pc over the memory of a tree, with the words that they read and the pages that they touch
abbrev pub seal_of : (List ℕ → List ℕ) → ℕ → ℕ → List ℕ → Stored → List ℕ → Seal
seal_of H pc n words tree pages = record { pc = pc; steps = n; words = words; tree = part_of H (stored_pages tree) pages HEIGHT 0 }

-- the pages that a seal opens are 1 to 4,096 of the memory's, ascending
pub record AreOpened (pages : List ℕ) : Type 0 where
  pub some : 1 ≤ length pages
  pub few : length pages ≤ MOST_PAGES
  pub ascending : AscendFrom 0 pages

-- the seal keeps the limits of a receipt, and replays without a stop
pub record IsCut (cut : Cut) : Type 0 where
  pub limits : SealLimits cut.seal
  pub unstopped : stop_of cut.seal ≡ None

-- ---- an executor
-- where a segment begins: the pc, how many words were read before, and the memory with the registers
pub record Beginning : Type 0 where
  pub pc : ℕ
  pub read : ℕ
  pub tree : Stored

-- the run so far, the limits, how many cuts were given, and of the segment that is under way its beginning, its steps and what
-- they cost and touch; and the outcome of the run, if it was reached
pub record Cutting : Type 0 where
  pub going : Going
  pub limits : Limits
  pub number : ℕ
  pub beginning : Beginning
  pub steps : ℕ
  pub meter : Metered
  pub outcome : Option Outcome

-- it is the beginning of the segment after b steps of the run from r, in the state s
pub record IsBeginning (r : State) (b : ℕ) (s : State) (at : Beginning) : Type 0 where
  pub pc : at.pc ≡ s.pc
  pub read : at.read ≡ length (run_words r b)
  pub memory : HoldsMemory at.tree s

-- the run has this outcome, where it is told, and n steps are all that are done
abbrev pub HasOutcome : ℕ → State → ℕ → Option Outcome → Type 0
HasOutcome limit r n None = ⊤
HasOutcome limit r n (Some outcome) = IsOutcome r limit outcome × (n ≡ done_in limit r)

-- after k cuts the run from r is cut at its state s after b steps
pub record IsPlace (r : State) (l : Limits) (k : ℕ) : Type 0 where
  pub b : ℕ
  pub s : State
  pub reached : after r b ≡ Some s
  pub given : List ℕ
  pub cuts : lengths l r ≡ given ++ segments l (done_in l.limit r - k) (Some s) (done_in l.limit r - b)
  pub number : length given ≡ k
  pub at : total given ≡ b
  pub fewer : k ≤ b

-- and the segment that begins there is under way
pub record IsUnderWay (r : State) (c : Cutting) : Type 0 where
  pub place : IsPlace r c.limits c.number
  pub steps : c.going.steps ≡ place.b + c.steps
  pub within : place.b + c.steps ≤ done_in c.limits.limit r
  pub fits : segment_fits c.limits place.s c.steps ≡ true
  pub beginning : IsBeginning r place.b place.s c.beginning
  pub cost : c.meter.cost ≡ run_cost place.s c.steps
  pub touched : c.meter.touched ≡ ascending (run_pages place.s c.steps)
  pub outcome : HasOutcome c.limits.limit r (place.b + c.steps) c.outcome

-- all its segments were given
pub record IsOver (r : State) (c : Cutting) : Type 0 where
  pub number : c.number ≡ length (lengths c.limits r)
  pub steps : c.steps ≡ 0
  pub outcome : Outcome
  pub told : c.outcome ≡ Some outcome
  pub ends : IsOutcome r c.limits.limit outcome

-- it cuts the run of an image and input words
pub record CutsRun (c : Cutting) (image : Image) (words : List ℕ) : Type 0 where
  pub run : IsRunOf c.going image words
  pub segment : IsUnderWay (start image words) c ⊎ IsOver (start image words) c

-- the segment that is under way is as long as can be: where it has no step, the run has ended
pub record IsLongest (r : State) (c : Cutting) (under : IsUnderWay r c) : Type 0 where
  pub longest : longest c.limits under.place.s (done_in c.limits.limit r - under.place.b) ≡ c.steps
  pub ended : c.steps ≡ 0 → IsTrue (is_some c.outcome)

abbrev pub IsWhole : (r : State) (c : Cutting) → IsUnderWay r c ⊎ IsOver r c → Type 0
IsWhole r c (inl under) = IsLongest r c under
IsWhole r c (inr over) = ⊤

-- it cuts some run, within the limits
pub record IsCutting (c : Cutting) : Type 0 where
  pub image : Image
  pub words : List ℕ
  pub ready : IsReady (start image words)
  pub stands : CutsRun c image words
  pub limits : AreLimits c.limits
  pub cycles : c.meter.cycles ≡ c.limits.cycles
  pub pages : c.meter.pages ≡ c.limits.pages
  pub number : c.number ≤ MOST_SEALS
  pub within : c.going.cycles ≤ c.limits.limit
  pub halted : c.outcome ≡ None → c.going.halted ≡ None
