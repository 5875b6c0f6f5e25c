use Rattle.std.proofs.Common.{◌≡◌, ℕ, ◌-◌, List}
use Rattle.page_core.specs.Images.{Image as PlainImage}
use Rattle.executor.specs.Cutting.{CutsRun}
use Rattle.executor.proofs.executor.Executor.next.Given as goal

abbrev pub invariant-loop : goal.invariant-loop
invariant-loop g l =
    ((image : PlainImage) (words : List ℕ) → CutsRun l.fn.self image words → CutsRun l.self image words) × (l.self.limits ≡ l.fn.self.limits) × (l.self.number ≡ l.fn.self.number)

abbrev pub decreases-loop : goal.decreases-loop
decreases-loop g l = l.self.limits.limit - l.self.going.cycles

-- no digest is counted
abbrev pub ghosts-turn : goal.ghosts-turn
ghosts-turn g a = record { name = a.blank.name; parts = a.blank.parts }
