-- The memory with the registers, where the run of an image begins whose memory is zero from the register page on.
use Rattle.std.proofs.Common.{◌≡◌, ℕ, ◌≤◌, List, ap}
use Rattle.part_tree.specs.Tree.{root, tree_strings}
use Rattle.part_tree.proofs.Change.{same_pages}
use Rattle.page_core.specs.Memory.{top}
use Rattle.rv_step.specs.Machine.{full}
use Rattle.page_core.specs.Images.{Image}
use Rattle.rv_step.specs.Runs.{start}
use Rattle.rv_step.proofs.Full.{full-start}
use Rattle.page_core.specs.Memories.{page_of}
use Rattle.page_core.proofs.Bytes.{page_same}

module _ (image : Image) (words : List ℕ) (rest : (a : ℕ) → top ≤ a → image.memory a ≡ 0) where
  start_pages : (H : List ℕ → List ℕ)
      → (root H (page_of (full (start image words))) ≡ root H (page_of image.memory)) × (tree_strings H (page_of (full (start image words))) 18 0 ≡ tree_strings H (page_of image.memory) 18 0)
  start_pages H =
      let same =
      same_pages H (page_of image.memory) (page_of (full (start image words))) 18 0
      (λ page b. page_same (full (start image words)) image.memory page (λ a at. full-start image.memory rest a)) in
      (ap H same.0, same.1)

pub start_root : (H : List ℕ → List ℕ) (image : Image) (words : List ℕ) → ((a : ℕ) → top ≤ a → image.memory a ≡ 0)
    → root H (page_of (full (start image words))) ≡ root H (page_of image.memory)
start_root H image words rest = (start_pages image words rest H).0

pub start_strings : (H : List ℕ → List ℕ) (image : Image) (words : List ℕ) → ((a : ℕ) → top ≤ a → image.memory a ≡ 0)
    → tree_strings H (page_of (full (start image words))) 18 0 ≡ tree_strings H (page_of image.memory) 18 0
start_strings H image words rest = (start_pages image words rest H).1
