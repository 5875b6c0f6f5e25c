-- The part tree of a memory rests on the pages below its node.
use Rattle.std.proofs.Common.{ℕ, zero, suc, ◌+◌, ◌*◌, List, refl, ap}
use Rattle.part_tree.specs.Part.{part_of}
use Rattle.part_tree.proofs.Below.{below_left, below_right, below_itself}
use Rattle.part_tree.proofs.Change.{same_pages}
use Rattle.page_tree.specs.Laws.{PartOfPages}

pub same_part : (H : List ℕ → List ℕ) → PartOfPages H
unfolding part_of
same_part H m m' pages zero i same =
    rw (same i (below_itself i), ap H (same_pages H m m' 0 i same).0) refl
same_part H m m' pages (suc h) i same =
    rw (
      same_part H m m' pages h (2 * i) (λ page b. same page (below_left h i page b)),
      same_part H m m' pages h (2 * i + 1) (λ page b. same page (below_right h i page b)),
      ap H (same_pages H m m' (suc h) i same).0,
    ) refl
