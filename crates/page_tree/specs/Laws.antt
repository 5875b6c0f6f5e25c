-- What holds of every memory's tree: it rests on the pages below alone, whether they are stored or not.
use Rattle.std.specs.Prelude.{◌≡◌, ℕ, List}
use Rattle.page_core.specs.Pages.{Pages}
use Rattle.part_tree.specs.Tree.{node, IsBelow}
use Rattle.part_tree.specs.Part.{part_of}

-- two memories with the same pages below a node have one digest there
abbrev pub NodeOfPages : (List ℕ → List ℕ) → Type 0
NodeOfPages H = (m m' : Pages) (h i : ℕ) → ((page : ℕ) → IsBelow h i page → m' page ≡ m page) → node H m' h i ≡ node H m h i

-- and one part tree
abbrev pub PartOfPages : (List ℕ → List ℕ) → Type 0
PartOfPages H = (m m' : Pages) (pages : List ℕ) (h i : ℕ) → ((page : ℕ) → IsBelow h i page → m' page ≡ m page) → part_of H m' pages h i ≡ part_of H m pages h i
