-- The limits of a run and of its segments.
use Rattle.std.specs.Prelude.{ℕ, ◌≤◌}
use Rattle.rv_step.specs.declared.limits.TheConstants.{CYCLES_MIN, CYCLES_MAX, PAGES_MIN, PAGES_MAX, LIMIT_MAX}

-- a limit on the cost of a segment
abbrev pub IsCycleLimit : ℕ → Type 0
IsCycleLimit n = (CYCLES_MIN ≤ n) × (n ≤ CYCLES_MAX)

-- a limit on the distinct pages that a segment touches
abbrev pub IsPageLimit : ℕ → Type 0
IsPageLimit n = (PAGES_MIN ≤ n) × (n ≤ PAGES_MAX)

-- a limit on the cost of a whole run
abbrev pub IsLimit : ℕ → Type 0
IsLimit n = (1 ≤ n) × (n ≤ LIMIT_MAX)
