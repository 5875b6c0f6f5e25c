-- Memories with the registers written into them.
use Rattle.std.proofs.Common.{◌≡◌, ℕ, zero, suc, ◌+◌, ◌-◌, ◌/◌, ◌<◌, ◌≤◌, Bool, true, false, cond, ◌&&◌, leb, ltb, List, length, get_or, drop, replicate, refl, sym, ◌∙◌, arith, inl, ⊎_elim, length-drop, length-set}
use Rattle.std.specs.Int.{w32, to_le_bytes}
use Rattle.std.specs.List.{flat_map}
use Rattle.std.proofs.lemmas.Bool.{cond_both}
use Rattle.std.proofs.lemmas.Bool.Decides.{leb_tells}
use Rattle.page_core.specs.Memory.{top, bytes, put, pages_of, Within, AgreeOn}
use Rattle.rv_isa.specs.Registers.{with_register}
use Rattle.rv_step.specs.Machine.{full_of}
use Rattle.page_core.proofs.Bytes.{bytes-same, put-outside, in_pages_of, length-words}

pub full-below : (m : ℕ → ℕ) (x : List ℕ) (k : ℕ) → k < top → full_of m x k ≡ m k
unfolding full_of
full-below m x k h = put-outside m (top + 4) (flat_map (to_le_bytes w32) (drop 1 x)) k (inl (omega arith))

-- ---- the registers of a start, which are zero, in a memory that is zero from the register page on
zero_words : (n k : ℕ) → get_or (flat_map (to_le_bytes w32) (replicate n 0)) k 0 ≡ 0
zero_words zero k = refl
zero_words (suc n) zero = refl
zero_words (suc n) (suc zero) = refl
zero_words (suc n) (suc (suc zero)) = refl
zero_words (suc n) (suc (suc (suc zero))) = refl
zero_words (suc n) (suc (suc (suc (suc k)))) = zero_words n k

zeros_in : (m : ℕ → ℕ) (a : ℕ) → m a ≡ 0 → full_of m (replicate 32 0) a ≡ m a
unfolding full_of put
zeros_in m a e =
    cond_both (leb (top + 4) a && ltb a (top + 4 + length (flat_map (to_le_bytes w32) (replicate 31 0)))) (get_or (flat_map (to_le_bytes w32) (replicate 31 0)) (a - (top + 4)) 0) (m a)
    (λ b. b ≡ m a) (λ _. zero_words 31 (a - (top + 4)) ∙ sym e) (λ _. refl)

pub full-start : (m : ℕ → ℕ) → ((a : ℕ) → top ≤ a → m a ≡ 0) → (a : ℕ) → full_of m (replicate 32 0) a ≡ m a
full-start m rest a = ⊎_elim (λ t. zeros_in m a (rest a t.1)) (λ t. full-below m (replicate 32 0) a t.1) (leb_tells top a)

-- ---- memories that agree
pub bytes-agree : (pages : List ℕ) (m n : ℕ → ℕ) (x y : List ℕ) → AgreeOn pages (full_of m x) (full_of n y)
    → (a k : ℕ) → a + k ≤ top → Within (pages_of a k) pages → bytes m a k ≡ bytes n a k
bytes-agree pages m n x y same a k fits within =
    bytes-same m n a k
    (λ j lo hi. sym (full-below m x j (omega arith)) ∙ same.at j (within (j / 1024) (in_pages_of a k j lo hi)) ∙ full-below n y j (omega arith))

either_way : (b : Bool) (g h u v p q : ℕ) → cond b g u ≡ cond b g v → (u ≡ v → p ≡ q) → cond b h p ≡ cond b h q
either_way true g h u v p q e f = refl
either_way false g h u v p q e f = f e

pub length-with_register : (x : List ℕ) (rd v : ℕ) → length (with_register x rd v) ≡ length x
length-with_register x zero v = refl
length-with_register x (suc n) v = length-set x (suc n) _

-- what a step changes in both memories alike leaves them in agreement
pub agree-after : (pages : List ℕ) (m n p q : ℕ → ℕ) (x y : List ℕ) → length y ≡ length x → AgreeOn pages (full_of m x) (full_of n x)
    → ((a : ℕ) → m a ≡ n a → p a ≡ q a) → AgreeOn pages (full_of p y) (full_of q y)
unfolding full_of put
agree-after pages m n p q x y size same step =
    let sizes : length (flat_map (to_le_bytes w32) (drop 1 y)) ≡ length (flat_map (to_le_bytes w32) (drop 1 x)) =
    omega (arith, length-words (drop 1 y), length-words (drop 1 x), length-drop 1 y, length-drop 1 x) in
    record {
      at = λ a shown.
          rw sizes
          (either_way (leb (top + 4) a && ltb a (top + 4 + length (flat_map (to_le_bytes w32) (drop 1 x))))
          (get_or (flat_map (to_le_bytes w32) (drop 1 x)) (a - (top + 4)) 0)
          (get_or (flat_map (to_le_bytes w32) (drop 1 y)) (a - (top + 4)) 0) (m a) (n a) (p a) (q a) (same.at a shown) (step a));
    }
