-- A meter whose pages are marked.
use Rattle.std.specs.Prelude.{◌≡◌, ℕ, ◌+◌, ◌≤◌, Bool, false, List, length, slice_index_or}
use Rattle.page_core.specs.Memory.{is_among}
use Rattle.page_core.specs.declared.sizes.TheConstants.{PAGES}
use Rattle.host_calls.specs.Meters.{Metered}

-- with n more steps that cost 1 each and touch its pages alone
abbrev pub with_steps : ℕ → Metered → Metered
with_steps n m = record { cycles = m.cycles; pages = m.pages; cost = m.cost + n; touched = m.touched }

-- the marks of a whole memory are set for exactly these pages
pub record AreMarksOf (pages : List ℕ) (marks : List Bool) : Type 0 where
  pub size : length marks ≡ PAGES
  pub exact : (page : ℕ) → slice_index_or marks page false ≡ is_among pages page

-- a cost within its limit, a meter of pages that counts no cost, and the marks of these pages
pub record IsMarked (cycles cost : ℕ) (m : Metered) (marks : List Bool) : Type 0 where
  pub within : cost ≤ cycles
  pub free : m.cost ≡ 0
  pub marks_are : AreMarksOf m.touched marks
