-- The cost of a run.
use Rattle.std.specs.Prelude.{◌≡◌, ℕ, List}
use Rattle.page_core.specs.Images.{Image}
use Rattle.rv_step.specs.Runs.{start, run_cost, steps_done, IsOutcome}
use Rattle.rv_step.specs.declared.outcome.Outcome.{Outcome}

-- the run of an image and input words has an outcome under the limit, and this is what its steps cost that are done by then
pub record HasCost (image : Image) (words : List ℕ) (limit cycles : ℕ) : Type 0 where
  pub outcome : Outcome
  pub ends : IsOutcome (start image words) limit outcome
  pub cost : cycles ≡ run_cost (start image words) (steps_done ends.step outcome)
