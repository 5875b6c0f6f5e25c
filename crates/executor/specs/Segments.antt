-- How a run is cut: each segment is the longest stretch of it that costs at most so much and touches at most so many pages.
use Rattle.std.specs.Prelude.{ℕ, zero, suc, ◌+◌, ◌-◌, Bool, true, false, cond, ◌&&◌, leb, eqb, List, [], ◌∷◌, length, Option, Some, None}
use Rattle.page_core.specs.Memory.{ascending}
use Rattle.rv_step.specs.Machine.{State, Event, Went, Halted, Faulted, step_of, step_cost}
use Rattle.rv_step.specs.Runs.{after, run_cost, run_pages}

-- the most that a segment costs and the most pages that it touches, and the limit on the cost of the whole run
pub record Limits : Type 0 where
  pub cycles : ℕ
  pub pages : ℕ
  pub limit : ℕ

-- the greatest of the numbers from 1 to n that pass the test, or 0 where none does
unfoldable pub greatest : (ℕ → Bool) → ℕ → ℕ
greatest test zero = 0
greatest test (suc n) = cond (test (suc n)) (suc n) (greatest test n)

-- ---- how many steps are in segments
abbrev pub is_fault : Event → Bool
is_fault (Went t) = false
is_fault (Halted code) = false
is_fault (Faulted fault) = true

-- whether a step from t is done, where the steps before it cost c: within the limit, and without a fault
abbrev pub is_done : ℕ → ℕ → State → Bool
is_done limit c t = cond (leb (c + step_cost t) limit) (cond (is_fault (step_of t)) false true) false

abbrev pub is_done_at : ℕ → ℕ → Option State → Bool
is_done_at limit c (Some t) = is_done limit c t
is_done_at limit c None = false

-- whether the n-th step from s is done, counted from 1
abbrev pub is_nth_done : ℕ → State → ℕ → Bool
is_nth_done limit s zero = false
is_nth_done limit s (suc n) = is_done_at limit (run_cost s n) (after s n)

-- how many steps from s are done, each of which costs at least 1: those before the run's outcome, and the one that halts
abbrev pub done_in : ℕ → State → ℕ
done_in limit s = greatest (is_nth_done limit s) limit

-- ---- the segments
-- n steps from s fit into a segment
unfoldable pub segment_fits : Limits → State → ℕ → Bool
segment_fits l s n = leb (run_cost s n) l.cycles && leb (length (ascending (run_pages s n))) l.pages

-- the greatest number of steps from s, at most n, that fit
abbrev pub longest : Limits → State → ℕ → ℕ
longest l s n = greatest (segment_fits l s) n

-- the lengths of the segments of n steps, at most `most` of them
unfoldable pub segments : Limits → ℕ → Option State → ℕ → List ℕ
segments l zero o n = []
segments l (suc most) None n = []
segments l (suc most) (Some s) n = cond (eqb n 0) [] (longest l s n ∷ segments l most (after s (longest l s n)) (n - longest l s n))

-- the lengths of the segments of a run from s: none is empty, so there are no more of them than steps
abbrev pub lengths : Limits → State → List ℕ
lengths l s = segments l (done_in l.limit s) (Some s) (done_in l.limit s)

abbrev pub total : List ℕ → ℕ
total [] = 0
total (n ∷ ns) = n + total ns
