-- Meters: what the steps of a segment cost so far and which pages they touched, with the limits of both.
use Rattle.std.specs.Prelude.{ℕ, ◌+◌, Bool, ◌&&◌, leb, List, [], ◌++◌, length}
use Rattle.page_core.specs.Memory.{ascending}

-- the most that the steps may cost and the most pages that they may touch, their cost, and their pages, ascending, each once
pub record Metered : Type 0 where
  pub cycles : ℕ
  pub pages : ℕ
  pub cost : ℕ
  pub touched : List ℕ

-- without a step
abbrev pub fresh_meter : ℕ → ℕ → Metered
fresh_meter cycles pages = record { cycles = cycles; pages = pages; cost = 0; touched = [] }

-- with one more step
abbrev pub with_step : List ℕ → ℕ → Metered → Metered
with_step foot cost m = record { cycles = m.cycles; pages = m.pages; cost = m.cost + cost; touched = ascending (foot ++ m.touched) }

-- it stays within both limits
abbrev pub is_within : Metered → Bool
is_within m = leb m.cost m.cycles && leb (length m.touched) m.pages

-- and does so with one more step
abbrev pub has_room : List ℕ → ℕ → Metered → Bool
has_room foot cost m = is_within (with_step foot cost m)

-- a meter, and for how many more pages it has room without asking for memory
pub record Meter : Type 0 where
  pub segment : Metered
  pub spare : ℕ
