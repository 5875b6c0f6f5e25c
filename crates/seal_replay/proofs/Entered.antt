-- The registers that a replay begins with.
use Rattle.std.proofs.Common.{◌≡◌, ℕ, zero, suc, ◌+◌, ◌*◌, ◌/◌, ◌%◌, ◌^◌, ◌<◌, ◌≤◌, List, ◌∷◌, get_or, length, set, replicate, refl, sym, ap, ◌∙◌, arith, mod-eq_of_lt, length-set, get_or-set_same, get_or-set_other, ⊎_elim, Option, None}
use Rattle.std.specs.Int.{w32, from_le_bytes}
use Rattle.page_core.proofs.Zeros.{get_or-same, zero_byte}
use Rattle.std.proofs.lemmas.List.{ext_get_or}
use Rattle.std.proofs.lemmas.Bool.Decides.{eqb_tells}
use Rattle.std.specs.Prelude.{unwrap_or}
use Rattle.page_core.specs.Pages.{zero_page}
use Rattle.page_core.specs.Memories.{flat}
use Rattle.rv_step.specs.Opened.{page_in, pages_in}
use Rattle.page_core.specs.Memory.{top, bytes}
use Rattle.rv_isa.specs.Registers.{with_register}
use Rattle.seal_replay.specs.Replay.{words_at, registers_in}

-- the word of register n in the register page
abbrev pub shown_word : (ℕ → ℕ) → ℕ → ℕ
shown_word m n = from_le_bytes w32 (bytes m (top + 4 * n) 4)

-- x0 is zero, and the registers from x1 to that before n are those that the memory shows
pub record AreShown (m : ℕ → ℕ) (x : List ℕ) (n : ℕ) : Type 0 where
  pub size : length x ≡ 32
  pub zero_first : get_or x 0 0 ≡ 0
  pub shown : (j : ℕ) → 1 ≤ j → j < n → get_or x j 0 ≡ shown_word m j

pub length-words_at : (m : ℕ → ℕ) (a n : ℕ) → length (words_at m a n) ≡ n
unfolding words_at
length-words_at m a zero = refl
length-words_at m a (suc n) = ap suc (length-words_at m (a + 4) n)

get_or-words_at : (m : ℕ → ℕ) (a n k : ℕ) → k < n → get_or (words_at m a n) k 0 ≡ from_le_bytes w32 (bytes m (a + 4 * k) 4)
unfolding words_at
get_or-words_at m a zero k h = absurd (omega arith)
get_or-words_at m a (suc n) zero h = ap (λ (b : ℕ). from_le_bytes w32 (bytes m b 4)) (omega arith)
get_or-words_at m a (suc n) (suc k) h = get_or-words_at m (a + 4) n k (omega arith) ∙ ap (λ (b : ℕ). from_le_bytes w32 (bytes m b 4)) (omega arith)

-- one more register
pub one_more : (m : ℕ → ℕ) (x : List ℕ) (n w : ℕ) → AreShown m x n → 1 ≤ n → n < 32 → w < 2 ^ 32 → w ≡ shown_word m n → AreShown m (with_register x n w) (n + 1)
one_more m x zero w are some low word is = absurd (omega arith)
one_more m x (suc n) w are some low word is =
    let size : length x ≡ 32 = are.size in
    let cut : w % 2 ^ 32 ≡ w = mod-eq_of_lt word in
    let within : suc n < length x = omega arith in
    record {
      size = length-set x (suc n) (w % 2 ^ 32) ∙ size;
      zero_first = get_or-set_other x (suc n) 0 (w % 2 ^ 32) 0 (omega arith) ∙ are.zero_first;
      shown = λ j from below.
          ⊎_elim
          (λ t. ap (λ (k : ℕ). get_or (set x (suc n) (w % 2 ^ 32)) k 0) t.1 ∙ get_or-set_same x (suc n) (w % 2 ^ 32) 0 within ∙ cut ∙ is ∙ ap (shown_word m) (sym t.1))
          (λ t. get_or-set_other x (suc n) j (w % 2 ^ 32) 0 t.1 ∙ are.shown j from (omega (arith, t.1)))
          (eqb_tells j (suc n));
    }

-- at the beginning none was read
pub none_read : (m : ℕ → ℕ) → AreShown m (replicate 32 0) 1
none_read m = record { size = refl; zero_first = refl; shown = λ j from below. absurd (omega arith) }

-- all registers
pub all_shown : (m : ℕ → ℕ) (x : List ℕ) → AreShown m x 32 → x ≡ registers_in m
unfolding registers_in
all_shown m x are = ext_get_or 0 x (0 ∷ words_at m (top + 4) 31) (are.size ∙ sym (ap suc (length-words_at m (top + 4) 31))) (λ i within. each i (omega (arith, are.size)))
  where
    each : (i : ℕ) → i < 32 → get_or x i 0 ≡ get_or (0 ∷ words_at m (top + 4) 31) i 0
    each zero low = are.zero_first
    each (suc k) low =
        are.shown (suc k) (omega arith) low
        ∙ ap (λ (b : ℕ). from_le_bytes w32 (bytes m b 4)) (omega arith)
        ∙ sym (get_or-words_at m (top + 4) 31 k (omega arith))

shut_byte : (pages : List (Option (List ℕ))) (a : ℕ) → page_in pages 262143 ≡ None → a / 1024 ≡ 262143 → flat (pages_in pages) a ≡ 0
shut_byte pages a shut at =
    ap (λ (n : ℕ). get_or (unwrap_or (page_in pages n) zero_page) (a % 1024) 0) at
    ∙ ap (λ (o : Option (List ℕ)). get_or (unwrap_or o zero_page) (a % 1024) 0) shut
    ∙ zero_byte (a % 1024)

zero_word : (pages : List (Option (List ℕ))) (a : ℕ) → page_in pages 262143 ≡ None → top ≤ a → a + 4 ≤ top + 1024
    → from_le_bytes w32 (bytes (flat (pages_in pages)) a 4) ≡ 0
unfolding bytes
zero_word pages a shut low high =
    let b0 = shut_byte pages a shut (omega arith) in
    let b1 = shut_byte pages (a + 1) shut (omega arith) in
    let b2 = shut_byte pages (a + 1 + 1) shut (omega arith) in
    let b3 = shut_byte pages (a + 1 + 1 + 1) shut (omega arith) in
    rw (b0, b1, b2, b3) refl

-- where the register page isn't open the registers are zero
pub none_shown : (pages : List (Option (List ℕ))) → page_in pages 262143 ≡ None → AreShown (flat (pages_in pages)) (replicate 32 0) 32
none_shown pages shut = record {
  size = refl;
  zero_first = refl;
  shown = λ j from below. get_or-same 32 j 0 ∙ sym (zero_word pages (top + 4 * j) shut (omega arith) (omega arith));
}
