use Rattle.std.proofs.Common.{ℕ, ◌-◌, ◌≤◌, List}
use Rattle.page_core.specs.Images.{Image as PlainImage}
use Rattle.flat_machine.specs.Going.{IsRunOf}
use Rattle.flat_machine.proofs.flat.Flat.run.Given as goal

abbrev pub invariant-loop-outcome : goal.invariant-loop-outcome
invariant-loop-outcome l =
    ((image : PlainImage) (words : List ℕ) → IsRunOf l.fn.self image words → IsRunOf l.self image words)
    × (l.self.cycles ≤ l.limit)
    × (l.fn.self.steps ≤ l.self.steps)

abbrev pub decreases-loop-outcome : goal.decreases-loop-outcome
decreases-loop-outcome l = l.limit - l.self.cycles
