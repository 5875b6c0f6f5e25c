-- Bytes, halfwords and words of a memory.
use Rattle.std.proofs.Common.{◌≡◌, ℕ, zero, suc, ◌+◌, ◌-◌, ◌*◌, ◌/◌, ◌%◌, ◌<◌, ◌≤◌, List, [], ◌∷◌, ◌++◌, length, get_or, take, set, refl, sym, ap, ap₂, ◌∙◌, arith, inl, inr, ◌⊎◌, ⊎_elim, length-set, get_or-set_same, get_or-set_other, drop}
use Rattle.std.specs.List.{flat_map}
use Rattle.std.specs.Int.{w16, w32, to_le_bytes, from_le_bytes}
use Rattle.std.proofs.lemmas.Bool.Decides.{leb_tells}
use Rattle.std.proofs.lemmas.List.{flat_map_more, length-take-le}
use Rattle.std.proofs.Math.Seq.{take-suc, take-suc-set, take-length}
use Rattle.page_core.specs.Memory.{top, bytes, put}
use Rattle.rv_step.specs.Machine.{full_of}
use Rattle.page_core.proofs.Ranges.{put_append}
use Rattle.page_core.proofs.Bytes.{two, length-bytes, length-words, get_or-bytes, put-outside, put-inside}

-- a byte of the word in which it lies
pub byte_in : (m : ℕ → ℕ) (a : ℕ) → get_or (bytes m (a / 4 * 4) 4) (a % 4) 0 ≡ m a
byte_in m a = get_or-bytes m (a / 4 * 4) 4 (a % 4) (omega arith) ∙ ap m (omega arith)

next_in : (m : ℕ → ℕ) (a : ℕ) → a % 2 ≡ 0 → get_or (bytes m (a / 4 * 4) 4) (a % 4 + 1) 0 ≡ m (a + 1)
next_in m a even = get_or-bytes m (a / 4 * 4) 4 (a % 4 + 1) (omega arith) ∙ ap m (omega arith)

pub half_in : (m : ℕ → ℕ) (a : ℕ) (bs : List ℕ) → a % 2 ≡ 0 → bs ≡ bytes m (a / 4 * 4) 4
    → from_le_bytes w16 (get_or bs (a % 4) 0 ∷ get_or bs (a % 4 + 1) 0 ∷ []) ≡ from_le_bytes w16 (bytes m a 2)
half_in m a bs even is =
    ap₂ (λ i j. from_le_bytes w16 (i ∷ j ∷ [])) (ap (λ xs. get_or xs (a % 4) 0) is ∙ byte_in m a) (ap (λ xs. get_or xs (a % 4 + 1) 0) is ∙ next_in m a even)
    ∙ ap (from_le_bytes w16) (sym (two m a))

-- ---- writing a part of a word
-- bytes that differ from the memory's in a part alone are written as that part
patched_at : (m : ℕ → ℕ) (b r : ℕ) (cs vs : List ℕ) → r + length vs ≤ length cs
    → ((j : ℕ) → j < length vs → get_or cs (r + j) 0 ≡ get_or vs j 0)
    → ((j : ℕ) → j < length cs → (j < r) ⊎ (r + length vs ≤ j) → get_or cs j 0 ≡ m (b + j))
    → (k : ℕ) → put m b cs k ≡ put m (b + r) vs k
patched_at m b r cs vs fits same others k =
    ⊎_elim (λ low. ⊎_elim (λ high. put-outside m b cs k (inr high.1) ∙ sym (put-outside m (b + r) vs k (inr (omega (arith, high.1, fits))))) (λ high. inside low.1 high.1) (leb_tells (b + length cs) k))
    (λ low. put-outside m b cs k (inl low.1) ∙ sym (put-outside m (b + r) vs k (inl (omega (arith, low.1)))))
    (leb_tells b k)
  where
    kept : b ≤ k → k < b + length cs → (k - b < r) ⊎ (r + length vs ≤ k - b) → put m b cs k ≡ m k
    kept low high away =
        ap (put m b cs) (omega arith) ∙ put-inside m b cs (k - b) (omega arith) ∙ others (k - b) (omega arith) away ∙ ap m (omega arith)

    written : b ≤ k → k < b + length cs → b + r ≤ k → k < b + r + length vs → put m b cs k ≡ put m (b + r) vs k
    written low high from to =
        ap (put m b cs) (omega arith) ∙ put-inside m b cs (k - b) (omega arith)
        ∙ ap (λ (j : ℕ). get_or cs j 0) (omega arith) ∙ same (k - (b + r)) (omega arith)
        ∙ sym (put-inside m (b + r) vs (k - (b + r)) (omega arith)) ∙ ap (put m (b + r) vs) (omega arith)

    inside : b ≤ k → k < b + length cs → put m b cs k ≡ put m (b + r) vs k
    inside low high =
        ⊎_elim
        (λ from. ⊎_elim
        (λ past. kept low high (inr (omega (arith, past.1))) ∙ sym (put-outside m (b + r) vs k (inr past.1)))
        (λ to. written low high from.1 to.1) (leb_tells (b + r + length vs) k))
        (λ before. kept low high (inl (omega (arith, before.1))) ∙ sym (put-outside m (b + r) vs k (inl before.1)))
        (leb_tells (b + r) k)

-- a byte of a word
pub byte_patched : (m : ℕ → ℕ) (a v : ℕ) → put m (a / 4 * 4) (set (bytes m (a / 4 * 4) 4) (a % 4) v) ≡ put m a (v ∷ [])
byte_patched m a v =
    λ i k. (patched_at m b r (set old r v) (v ∷ []) (omega (arith, size, length-set old r v)) same others k ∙ ap (λ (c : ℕ). put m c (v ∷ []) k) whole) i
  where
    whole : a / 4 * 4 + a % 4 ≡ a
    whole = omega arith

    b : ℕ
    b = a / 4 * 4

    r : ℕ
    r = a % 4

    old : List ℕ
    old = bytes m (a / 4 * 4) 4

    size : length (bytes m (a / 4 * 4) 4) ≡ 4
    size = length-bytes m (a / 4 * 4) 4

    same : (j : ℕ) → j < length (v ∷ []) → get_or (set old r v) (r + j) 0 ≡ get_or (v ∷ []) j 0
    same zero h = ap (λ (n : ℕ). get_or (set old r v) n 0) (omega arith) ∙ get_or-set_same old r v 0 (omega (arith, size))
    same (suc j) h = absurd (omega arith)

    others : (j : ℕ) → j < length (set old r v) → (j < r) ⊎ (r + length (v ∷ []) ≤ j) → get_or (set old r v) j 0 ≡ m (b + j)
    others j h away =
        get_or-set_other old r j v 0 (⊎_elim (λ t. omega (arith, t)) (λ t. omega (arith, t)) away)
        ∙ get_or-bytes m b 4 j (omega (arith, h, size, length-set old r v))

-- two bytes of a word
pub half_patched : (m : ℕ → ℕ) (a v w : ℕ) → a % 2 ≡ 0
    → put m (a / 4 * 4) (set (set (bytes m (a / 4 * 4) 4) (a % 4) v) (a % 4 + 1) w) ≡ put m a (v ∷ w ∷ [])
half_patched m a v w even =
    λ i k. (patched_at m b r new (v ∷ w ∷ []) (omega (arith, sizes)) same others k ∙ ap (λ (c : ℕ). put m c (v ∷ w ∷ []) k) whole) i
  where
    whole : a / 4 * 4 + a % 4 ≡ a
    whole = omega arith

    b : ℕ
    b = a / 4 * 4

    r : ℕ
    r = a % 4

    old : List ℕ
    old = bytes m (a / 4 * 4) 4

    new : List ℕ
    new = set (set (bytes m (a / 4 * 4) 4) (a % 4) v) (a % 4 + 1) w

    size : length (bytes m (a / 4 * 4) 4) ≡ 4
    size = length-bytes m (a / 4 * 4) 4

    sizes : length (set (set (bytes m (a / 4 * 4) 4) (a % 4) v) (a % 4 + 1) w) ≡ 4
    sizes = length-set (set old r v) (r + 1) w ∙ length-set old r v ∙ size

    same : (j : ℕ) → j < length (v ∷ w ∷ []) → get_or new (r + j) 0 ≡ get_or (v ∷ w ∷ []) j 0
    same zero h =
        ap (λ (n : ℕ). get_or new n 0) (omega arith) ∙ get_or-set_other (set old r v) (r + 1) r w 0 (omega arith)
        ∙ get_or-set_same old r v 0 (omega (arith, size))
    same (suc zero) h = get_or-set_same (set old r v) (r + 1) w 0 (omega (arith, size, length-set old r v))
    same (suc (suc j)) h = absurd (omega arith)

    others : (j : ℕ) → j < length new → (j < r) ⊎ (r + length (v ∷ w ∷ []) ≤ j) → get_or new j 0 ≡ m (b + j)
    others j h away =
        get_or-set_other (set old r v) (r + 1) j w 0 (⊎_elim (λ t. omega (arith, t)) (λ t. omega (arith, t)) away)
        ∙ get_or-set_other old r j v 0 (⊎_elim (λ t. omega (arith, t)) (λ t. omega (arith, t)) away)
        ∙ get_or-bytes m b 4 j (omega (arith, h, sizes))

-- the two lowest bytes of a word
pub two_lowest : (v : ℕ) → to_le_bytes w16 (v % 65536) ≡ to_le_bytes w16 v
two_lowest v = let e : v % 65536 % 256 ≡ v % 256 = omega arith in let f : v % 65536 / 256 % 256 ≡ v / 256 % 256 = omega arith in λ i. e i ∷ f i ∷ []

-- ---- ranges
pub bytes_on : (m : ℕ → ℕ) (a k : ℕ) → bytes m a (suc k) ≡ bytes m a k ++ m (a + k) ∷ []
unfolding bytes
bytes_on m a zero = ap (λ (n : ℕ). m n ∷ []) (omega arith)
bytes_on m a (suc k) = ap (λ (bs : List ℕ). m a ∷ bs) (bytes_on m (a + 1) k ∙ ap (λ (n : ℕ). bytes m (a + 1) k ++ m n ∷ []) (omega arith))

-- one more word after k
pub word_put : (m n p : ℕ → ℕ) (a at k w : ℕ) (ws : List ℕ) → k < length ws → at ≡ a + 4 * k → w ≡ get_or ws k 0
    → n ≡ put m a (flat_map (to_le_bytes w32) (take k ws)) → p ≡ put n at (to_le_bytes w32 w) → p ≡ put m a (flat_map (to_le_bytes w32) (take (suc k) ws))
word_put m n p a at k w ws within there is before after =
    let size : length (flat_map (to_le_bytes w32) (take k ws)) ≡ 4 * k = length-words (take k ws) ∙ ap (λ (j : ℕ). 4 * j) (length-take-le k ws (omega arith)) in
    after ∙ ap₂ (λ (q : ℕ → ℕ) (b : ℕ). put q b (to_le_bytes w32 w)) before (there ∙ ap (λ (j : ℕ). a + j) (sym size))
    ∙ (λ i n. put_append m a (flat_map (to_le_bytes w32) (take k ws)) (to_le_bytes w32 w) n i)
    ∙ ap (put m a) (flat_map_more (to_le_bytes w32) [] (take k ws) w ∙ ap (λ (v : ℕ). flat_map (to_le_bytes w32) (take k ws ++ v ∷ [])) is ∙ ap (flat_map (to_le_bytes w32)) (sym (take-suc ws k 0 within)))

-- a memory with the registers from x1 to that before n written into it
abbrev pub full_up_to : (ℕ → ℕ) → List ℕ → ℕ → ℕ → ℕ
full_up_to m x n = put m (top + 4) (flat_map (to_le_bytes w32) (take (n - 1) (drop 1 x)))

pub one_more_full : (m mid new : ℕ → ℕ) (x : List ℕ) (n v at : ℕ) → mid ≡ full_up_to m x n → 1 ≤ n → n < 32 → length x ≡ 32
    → v ≡ get_or x n 0 → at ≡ top + 4 * n → new ≡ put mid at (to_le_bytes w32 v) → new ≡ full_up_to m x (n + 1)
one_more_full m mid new [] n v at before some low size is there after = absurd (omega (arith, size))
one_more_full m mid new (y ∷ x) zero v at before some low size is there after = absurd (omega arith)
one_more_full m mid new (y ∷ x) (suc k) v at before some low size is there after =
    let this : suc k - 1 ≡ k = omega arith in
    let next : suc k + 1 - 1 ≡ suc k = omega arith in
    word_put m mid new (top + 4) at k v x (omega (arith, size)) (omega (arith, there)) is
    (before ∙ ap (λ (j : ℕ). put m (top + 4) (flat_map (to_le_bytes w32) (take j x))) this) after
    ∙ ap (λ (j : ℕ). put m (top + 4) (flat_map (to_le_bytes w32) (take j x))) (sym next)

pub all_full : (m : ℕ → ℕ) (x : List ℕ) (n : ℕ) → n ≡ 32 → length x ≡ 32 → full_up_to m x n ≡ full_of m x
unfolding full_of
all_full m [] n all size = absurd (omega (arith, size))
all_full m (y ∷ x) n all size =
    let rest : n - 1 ≡ length x = omega (arith, size, all) in
    ap (λ (xs : List ℕ). put m (top + 4) (flat_map (to_le_bytes w32) xs)) (ap (λ (j : ℕ). take j x) rest ∙ take-length x)

-- one more byte after k
pub byte_read : (m : ℕ → ℕ) (a at k b n : ℕ) (buffer : List ℕ) → k < n → length buffer ≡ n → at ≡ a + k → b ≡ m at → take k buffer ≡ bytes m a k
    → (at + 1 ≡ a + (k + 1)) × (length (set buffer k b) ≡ n) × (take (k + 1) (set buffer k b) ≡ bytes m a (k + 1))
byte_read m a at k b n buffer within size there is before =
    let next : k + 1 ≡ suc k = omega arith in (
      omega arith,
      length-set buffer k b ∙ size,
      ap (λ (j : ℕ). take j (set buffer k b)) next ∙ take-suc-set buffer k b (omega (arith, size))
          ∙ ap₂ (λ (xs : List ℕ) (v : ℕ). xs ++ v ∷ []) before (is ∙ ap m there)
          ∙ sym (bytes_on m a k) ∙ ap (bytes m a) (sym next),
    )

pub none_put : (m : ℕ → ℕ) (a : ℕ) → m ≡ put m a (flat_map (to_le_bytes w32) [])
none_put m a = λ i k. sym (put-outside m a [] k (away k)) i
  where
    away : (k : ℕ) → (k < a) ⊎ (a + length {A = ℕ} [] ≤ k)
    away k = ⊎_elim (λ t. inr (omega (arith, t.1))) (λ t. inl t.1) (leb_tells a k)

pub no_bytes : (m : ℕ → ℕ) (a : ℕ) → [] ≡ bytes m a 0
unfolding bytes
no_bytes m a = refl
