use Rattle.std.proofs.Common.{◌≡◌, ℕ, ◌+◌, ◌≤◌, List}
use Rattle.page_core.specs.Images.{Image as PlainImage}
use Rattle.flat_machine.specs.Going.{IsRunOf}
use Rattle.flat_machine.proofs.flat.Flat.go.Given as goal

abbrev pub invariant-loop-left : goal.invariant-loop-left
invariant-loop-left l =
    record {
      stands : (image : PlainImage) (words : List ℕ) → IsRunOf l.fn.self image words → IsRunOf l.self image words;
      steps : l.self.steps + l.left ≡ l.fn.self.steps + l.steps;
      within : l.left ≤ l.steps;
      halted : l.self.halted ≡ l.fn.self.halted;
    }

abbrev pub decreases-loop-left : goal.decreases-loop-left
decreases-loop-left l = l.left
