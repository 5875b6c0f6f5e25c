-- What holds of every memory.
use Rattle.std.specs.Prelude.{◌≡◌, ℕ, ◌+◌, ◌<◌, ◌≤◌, ◌⊎◌, List, length}
use Rattle.page_core.specs.Memory.{bytes, put}
use Rattle.page_core.specs.Pages.{Pages, ArePages}
use Rattle.page_core.specs.Memories.{page_of, flat}

-- a memory's pages hold its bytes
abbrev pub PagesHoldBytes : Type 0
PagesHoldBytes = (m : ℕ → ℕ) (a : ℕ) → flat (page_of m) a ≡ m a

-- pages that are put one after the other are the pages of the memory that they make
abbrev pub BytesHoldPages : Type 0
BytesHoldPages = (pages : Pages) (i : ℕ) → ArePages pages → page_of (flat pages) i ≡ pages i

-- what was put is read back
abbrev pub PutReadsBack : Type 0
PutReadsBack = (m : ℕ → ℕ) (a : ℕ) (bs : List ℕ) → bytes (put m a bs) a (length bs) ≡ bs

-- and no other byte changes
abbrev pub PutLeavesOthers : Type 0
PutLeavesOthers = (m : ℕ → ℕ) (a : ℕ) (bs : List ℕ) (k : ℕ) → (k < a) ⊎ (a + length bs ≤ k) → put m a bs k ≡ m k
