-- The registers that a seal shows are those of the state.
use Rattle.std.proofs.Common.{◌≡◌, ℕ, zero, suc, ◌+◌, ◌-◌, ◌*◌, ◌/◌, ◌^◌, ◌<◌, ◌≤◌, Bool, true, false, cond, ◌&&◌, leb, ltb, List, [], ◌∷◌, length, get_or, drop, refl, sym, ap, ap₂, ◌∙◌, arith, subst}
use Rattle.std.specs.Int.{w32, to_le_bytes, from_le_bytes}
use Rattle.std.specs.List.{flat_map}
use Rattle.std.proofs.lemmas.Bool.Decides.{nat_tests}
use Rattle.std.proofs.lemmas.List.{get_or_append_left}
use Rattle.std.proofs.lemmas.Nat.{from_le_bytes-to_le_bytes_4}
use Rattle.page_core.specs.Memory.{top, bytes, put, AgreeOn}
use Rattle.std.specs.Prelude.{Contains}
use Rattle.rv_step.specs.Machine.{State, full, full_of}
use Rattle.seal_replay.specs.Replay.{words_at, registers_in}
use Rattle.rv_isa.specs.Registers.{AreRegisters}
use Rattle.page_core.proofs.Bytes.{bytes-same, bytes-of, length-words}

words_back : (m : ℕ → ℕ) (a : ℕ) (vs : List ℕ) → ((j : ℕ) → j < 4 * length vs → m (a + j) ≡ get_or (flat_map (to_le_bytes w32) vs) j 0)
    → ((k : ℕ) → get_or vs k 0 < 2 ^ 32) → words_at m a (length vs) ≡ vs
unfolding words_at
words_back m a [] same small = refl
words_back m a (v ∷ vs) same small =
    let word : bytes m a 4 ≡ to_le_bytes w32 v =
    bytes-of m a (to_le_bytes w32 v) (λ j h. same j (omega arith) ∙ get_or_append_left (to_le_bytes w32 v) (flat_map (to_le_bytes w32) vs) 0 j h) in
    ap₂ ◌∷◌ (ap (from_le_bytes w32) word ∙ from_le_bytes-to_le_bytes_4 v (small 0))
    (words_back m (a + 4) vs (λ j h. ap m (omega arith) ∙ same (suc (suc (suc (suc j)))) (omega arith)) (λ k. small (suc k)))

-- a memory with registers in it has their bytes there
full_bytes : (m : ℕ → ℕ) (x : List ℕ) (j : ℕ) → j < length (flat_map (to_le_bytes w32) (drop 1 x)) → full_of m x (top + 4 + j) ≡ get_or (flat_map (to_le_bytes w32) (drop 1 x)) j 0
unfolding full_of put
full_bytes m x j h =
    let e : leb (top + 4) (top + 4 + j) ≡ true = grind (arith, nat_tests) in
    let f : ltb (top + 4 + j) (top + 4 + length (flat_map (to_le_bytes w32) (drop 1 x))) ≡ true = grind (arith, nat_tests) in
    let k : top + 4 + j - (top + 4) ≡ j = omega arith in
    rw (e, f, k) refl

words_at-same : (m n : ℕ → ℕ) (a k : ℕ) → ((j : ℕ) → a ≤ j → j < a + 4 * k → m j ≡ n j) → words_at m a k ≡ words_at n a k
unfolding words_at
words_at-same m n a zero h = refl
words_at-same m n a (suc k) h =
    ap₂ ◌∷◌ (ap (from_le_bytes w32) (bytes-same m n a 4 (λ j lo hi. h j lo (omega arith))))
    (words_at-same m n (a + 4) k (λ j lo hi. h j (omega arith) (omega arith)))

registers_back : (m : ℕ → ℕ) (x : List ℕ) → AreRegisters x → registers_in (full_of m x) ≡ x
unfolding registers_in
registers_back m [] h = absurd (omega (arith, h.size))
registers_back m (y ∷ x) h =
    let size : length x ≡ 31 = omega (arith, h.size) in
    let first : y ≡ 0 = h.zero_first in
    let rest : words_at (full_of m (y ∷ x)) (top + 4) (length x) ≡ x =
    words_back (full_of m (y ∷ x)) (top + 4) x (λ j l. full_bytes m (y ∷ x) j (omega (arith, length-words x))) (λ k. h.are_words (suc k)) in
    ap₂ ◌∷◌ (sym first) (ap (words_at (full_of m (y ∷ x)) (top + 4)) (sym size) ∙ rest)

registers_same : (m n : ℕ → ℕ) → ((j : ℕ) → top ≤ j → j < top + 1024 → m j ≡ n j) → registers_in m ≡ registers_in n
unfolding registers_in
registers_same m n h = ap (◌∷◌ 0) (words_at-same m n (top + 4) 31 (λ j lo hi. h j (omega arith) (omega arith)))

pub registers_shown : (opened : List ℕ) (m : ℕ → ℕ) (s : State) → AreRegisters s.x → Contains opened 262143 → AgreeOn opened m (full s)
    → registers_in m ≡ s.x
registers_shown opened m s fit shown agree =
    registers_same m (full s)
    (λ j lo hi. agree.at j (let e : j / 1024 ≡ 262143 = omega arith in subst (Contains opened) (sym e) shown))
    ∙ registers_back s.memory s.x fit

-- a memory that shows the full memory of a state shows it with the state's registers written into it once more
pub full_shown : (opened : List ℕ) (m : ℕ → ℕ) (s : State) → AgreeOn opened m (full s) → AgreeOn opened (full_of m s.x) (full s)
unfolding full_of put
full_shown opened m s agree =
    record {
      at = λ a h. twice (leb (top + 4) a && ltb a (top + 4 + length (flat_map (to_le_bytes w32) (drop 1 s.x)))) (get_or (flat_map (to_le_bytes w32) (drop 1 s.x)) (a - (top + 4)) 0) (m a) (s.memory a) (agree.at a h);
    }
  where
    twice : (b : Bool) (g u v : ℕ) → u ≡ cond b g v → cond b g u ≡ cond b g v
    twice true g u v e = refl
    twice false g u v e = e
