-- Numbers in a file, from their bytes.
use Rattle.std.proofs.Common.{◌≡◌, ℕ, ◌+◌, List, [], ◌∷◌, get_or, sym, ap, ◌∙◌}
use Rattle.std.specs.Int.{w16, w32, from_le_bytes}
use Rattle.page_core.proofs.Bytes.{two, four}
use Rattle.elf_image.specs.Fields.{half_at, word_at}

-- the number of two bytes
pub half_read : (file : List ℕ) (at w : ℕ) → w ≡ from_le_bytes w16 (get_or file at 0 ∷ get_or file (at + 1) 0 ∷ []) → w ≡ half_at file at
half_read file at w is = is ∙ ap (from_le_bytes w16) (sym (two (λ k. get_or file k 0) at))

-- the number of four bytes
pub word_read : (file : List ℕ) (at w : ℕ)
    → w ≡ from_le_bytes w32 (get_or file at 0 ∷ get_or file (at + 1) 0 ∷ get_or file (at + 2) 0 ∷ get_or file (at + 3) 0 ∷ []) → w ≡ word_at file at
word_read file at w is = is ∙ ap (from_le_bytes w32) (sym (four (λ k. get_or file k 0) at))
