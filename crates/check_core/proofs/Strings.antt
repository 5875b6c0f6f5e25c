-- Equal tagged strings have equal parts.
use Rattle.std.proofs.Common.{◌≡◌, ℕ, ◌+◌, ◌^◌, ◌<◌, List, [], ◌∷◌, ◌++◌, length, drop, refl, sym, ap, ◌∙◌, arith, length-append, append-nil}
use Rattle.std.specs.Int.{w16, w32, to_le_bytes, from_le_bytes}
use Rattle.std.specs.List.{flat_map}
use Rattle.std.proofs.lemmas.Nat.{from_le_bytes-to_le_bytes_4}
use Rattle.part_tree.proofs.Strings.{halves}
use Rattle.claim_types.specs.declared.claim.Exit.{Exit}
use Rattle.claim_types.specs.declared.claim.Exit.TheVariants.{Split, Halted as HaltedWith}
use Rattle.claim_types.specs.declared.state.State.{State as SystemState}
use Rattle.claim_types.specs.States.{state_tag, state_string, zero_digest}
use Rattle.claim_types.specs.Claims.{exit_pair, output_tag, output_string, claim_tag, claim_string_of}
use Rattle.lift_join.proofs.Inversion.{states_same}

-- ---- lists
parts : (t d w c d' w' c' : List ℕ) → length d ≡ length d' → length w ≡ length w' → t ++ d ++ w ++ c ≡ t ++ d' ++ w' ++ c' → (d ≡ d') × (w ≡ w')
parts t d w c d' w' c' m n e =
    let front = halves (t ++ d ++ w) c (t ++ d' ++ w') c' (omega (arith, length-append (t ++ d) w, length-append t d, length-append (t ++ d') w', length-append t d')) e in
    let two = halves (t ++ d) w (t ++ d') w' (omega (arith, length-append t d, length-append t d')) front.0 in
    ((halves t d t d' refl two.0).1, two.1)

pub one_down : (a b : List ℕ) → a ++ [] ≡ b ++ [] → a ≡ b
one_down a b e = sym (append-nil a) ∙ e ∙ append-nil b

length-one : (a : List ℕ) → length (a ++ []) ≡ length a
length-one a = ap length (append-nil a)

length-two : (a b : List ℕ) → length (a ++ (b ++ [])) ≡ length a + length b
length-two a b = length-append a (b ++ []) ∙ ap (λ (n : ℕ). length a + n) (length-one b)

length-three : (a b c : List ℕ) → length (a ++ (b ++ (c ++ []))) ≡ length a + (length b + length c)
length-three a b c = length-append a (b ++ (c ++ [])) ∙ ap (λ (n : ℕ). length a + n) (length-two b c)

length-four : (a b c d : List ℕ) → length (a ++ (b ++ (c ++ (d ++ [])))) ≡ length a + (length b + (length c + length d))
length-four a b c d = length-append a (b ++ (c ++ (d ++ []))) ∙ ap (λ (n : ℕ). length a + n) (length-three b c d)

two_downs : (a b a' b' : List ℕ) → length a ≡ length a' → a ++ (b ++ []) ≡ a' ++ (b' ++ []) → (a ≡ a') × (b ≡ b')
two_downs a b a' b' m e = let h = halves a (b ++ []) a' (b' ++ []) m e in (h.0, one_down b b' h.1)

four_downs : (z b a o b' a' o' : List ℕ) → length b ≡ length b' → length a ≡ length a' → z ++ (b ++ (a ++ (o ++ []))) ≡ z ++ (b' ++ (a' ++ (o' ++ [])))
    → (b ≡ b') × (a ≡ a') × (o ≡ o')
four_downs z b a o b' a' o' m n e =
    let all = halves z (b ++ (a ++ (o ++ []))) z (b' ++ (a' ++ (o' ++ []))) refl e in
    let first = halves b (a ++ (o ++ [])) b' (a' ++ (o' ++ [])) m all.1 in
    let rest = two_downs a o a' o' n first.1 in
    (first.0, rest.0, rest.1)

-- ---- words
word_same : (n m : ℕ) → n < 2 ^ 32 → m < 2 ^ 32 → flat_map (to_le_bytes w32) (n ∷ []) ≡ flat_map (to_le_bytes w32) (m ∷ []) → n ≡ m
word_same n m small small' e = sym (from_le_bytes-to_le_bytes_4 n small) ∙ ap (from_le_bytes w32) e ∙ from_le_bytes-to_le_bytes_4 m small'

-- ---- states, outputs, claims
pub state_parts : (H : List ℕ → List ℕ) (a b : SystemState) → length a.root ≡ length b.root → a.pc < 2 ^ 32 → b.pc < 2 ^ 32 → state_string H a ≡ state_string H b → a ≡ b
state_parts H a b n small small' e =
    let two = parts (H state_tag) (a.root ++ []) (flat_map (to_le_bytes w32) (a.pc ∷ [])) (to_le_bytes w16 1) (b.root ++ []) (flat_map (to_le_bytes w32) (b.pc ∷ [])) (to_le_bytes w16 1)
    (length-one a.root ∙ n ∙ sym (length-one b.root)) refl e in
    states_same a b (word_same a.pc b.pc small small' two.1) (one_down a.root b.root two.0)

pub output_parts : (H : List ℕ → List ℕ) (a b a' b' : List ℕ) → length a ≡ length a' → length b ≡ length b' → output_string H a b ≡ output_string H a' b' → (a ≡ a') × (b ≡ b')
output_parts H a b a' b' m n e =
    two_downs a b a' b' m
    (parts (H output_tag) (a ++ (b ++ [])) [] (to_le_bytes w16 2) (a' ++ (b' ++ [])) [] (to_le_bytes w16 2) (omega (arith, length-two a b, length-two a' b')) refl e).0

abbrev pub exit_bytes : Exit → List ℕ
exit_bytes x = flat_map (to_le_bytes w32) (exit_pair x)

length-exit_bytes : (x : Exit) → length (exit_bytes x) ≡ 8
length-exit_bytes Split = refl
length-exit_bytes (HaltedWith code) = refl

pub claim_parts : (H : List ℕ → List ℕ) (b a o b' a' o' : List ℕ) (x y : Exit) → length b ≡ length b' → length a ≡ length a' → length o ≡ length o'
    → claim_string_of H b a o x ≡ claim_string_of H b' a' o' y → (b ≡ b') × (a ≡ a') × (o ≡ o') × (exit_bytes x ≡ exit_bytes y)
claim_parts H b a o b' a' o' x y m n k e =
    let two = parts (H claim_tag) (zero_digest ++ (b ++ (a ++ (o ++ [])))) (exit_bytes x) (to_le_bytes w16 4) (zero_digest ++ (b' ++ (a' ++ (o' ++ [])))) (exit_bytes y) (to_le_bytes w16 4)
    (omega (arith, length-four zero_digest b a o, length-four zero_digest b' a' o')) (length-exit_bytes x ∙ sym (length-exit_bytes y)) e in
    let downs = four_downs zero_digest b a o b' a' o' m n two.0 in
    (downs.0, downs.1, downs.2, two.1)

pub code_zero : (code : ℕ) → code < 2 ^ 32 → exit_bytes (HaltedWith code) ≡ exit_bytes (HaltedWith 0) → code ≡ 0
code_zero code small e = sym (from_le_bytes-to_le_bytes_4 code small) ∙ ap (λ (l : List ℕ). from_le_bytes w32 (drop 4 l)) e
