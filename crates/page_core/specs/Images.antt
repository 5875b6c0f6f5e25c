-- Images: where a guest begins, and its memory.
use Rattle.std.specs.Prelude.{◌≡◌, ℕ, ◌%◌, ◌^◌, ◌<◌, ◌≤◌}
use Rattle.page_core.specs.Memory.{top}

pub record Image : Type 0 where
  pub entry : ℕ
  pub memory : ℕ → ℕ

-- the entry is a multiple of 4 below the register page, and the memory has bytes, zero from there on
pub record IsImage (image : Image) : Type 0 where
  pub aligned : image.entry % 4 ≡ 0
  pub below : image.entry < top
  pub bytes : (a : ℕ) → image.memory a < 2 ^ 8
  pub rest : (a : ℕ) → top ≤ a → image.memory a ≡ 0
