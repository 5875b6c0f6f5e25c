-- The root of a memory that is stored by pages.
use Rattle.std.proofs.Common.{◌≡◌, ℕ, List, sym, ap}
use Rattle.page_core.specs.Memories.{page_of}
use Rattle.page_core.specs.Stored.{Stored, IsStoredFrom, stored_pages, memory_of}
use Rattle.page_core.proofs.Bytes.{bytes_hold_pages}
use Rattle.part_tree.specs.Tree.{root}
use Rattle.part_tree.proofs.Change.{same_pages}
use Rattle.page_core.proofs.Zeros.{pages_are}

-- the root over the stored pages is that over the pages of the memory's bytes
pub image_root : (H : List ℕ → List ℕ) (stored : Stored) → IsStoredFrom 0 stored → root H (stored_pages stored) ≡ root H (page_of (memory_of stored))
image_root H stored are =
    let same = same_pages H (page_of (memory_of stored)) (stored_pages stored) 18 0 (λ page below. sym (bytes_hold_pages (stored_pages stored) page (pages_are stored 0 are))) in
    ap H same.0
