-- The places of the nodes of a block.
use Rattle.std.proofs.Common.{◌≡◌, ◌≢◌, inl, inr, ℕ, zero, suc, ◌+◌, ◌-◌, ◌*◌, ◌/◌, ◌%◌, ◌^◌, ◌<◌, ◌≤◌, sym, ap, ◌∙◌, arith}
use Rattle.std.proofs.Math.Pow.{pow_mono}
use Rattle.std.proofs.Math.Nat.{pow-suc}
use Rattle.std.proofs.lemmas.Nat.{pow_pos, mod-pow-add, div-mul-add}
use Rattle.std.proofs.lemmas.Bool.Decides.{leb_tells}
use Rattle.page_tree.specs.Blocks.{place_of}

-- a block has at most 64 nodes of one height
pub few_nodes : (k : ℕ) → 2 ^ (6 - k) ≤ 64
few_nodes k = pow_mono {i = 6 - k} {j = 6} (omega arith)

-- the nodes below a node stand at twice its place and after
pub left_place : (k x : ℕ) → 1 ≤ k → k ≤ 6 → 2 * place_of k x ≡ place_of (k - 1) (2 * x)
left_place zero x some most = absurd (omega (arith, some))
left_place (suc zero) x some most = omega arith
left_place (suc (suc zero)) x some most = omega arith
left_place (suc (suc (suc zero))) x some most = omega arith
left_place (suc (suc (suc (suc zero)))) x some most = omega arith
left_place (suc (suc (suc (suc (suc zero))))) x some most = omega arith
left_place (suc (suc (suc (suc (suc (suc zero)))))) x some most = omega arith
left_place (suc (suc (suc (suc (suc (suc (suc k))))))) x some most = absurd (omega (arith, most))

pub right_place : (k x : ℕ) → 1 ≤ k → k ≤ 6 → 2 * place_of k x + 1 ≡ place_of (k - 1) (2 * x + 1)
right_place zero x some most = absurd (omega (arith, some))
right_place (suc zero) x some most = omega arith
right_place (suc (suc zero)) x some most = omega arith
right_place (suc (suc (suc zero))) x some most = omega arith
right_place (suc (suc (suc (suc zero)))) x some most = omega arith
right_place (suc (suc (suc (suc (suc zero))))) x some most = omega arith
right_place (suc (suc (suc (suc (suc (suc zero)))))) x some most = omega arith
right_place (suc (suc (suc (suc (suc (suc (suc k))))))) x some most = absurd (omega (arith, most))

-- the places of one height
pub from_place : (k x : ℕ) → 2 ^ (6 - k) ≤ place_of k x
from_place k x = omega arith

pub to_place : (k x : ℕ) → place_of k x < 2 * 2 ^ (6 - k)
to_place k x = let some = pow_pos (6 - k) in omega arith

-- they are places of the block, and those above the children stand before these
pub place_most : (k x : ℕ) → place_of k x < 128
place_most k x = let w : 2 ^ (6 - k) ≤ 2 ^ 6 = pow_mono {i = 6 - k} {j = 6} (omega arith) in omega (arith, to_place k x)

pub place_inner : (k x : ℕ) → 1 ≤ k → place_of k x < 64
place_inner k x some = let w : 2 ^ (6 - k) ≤ 2 ^ 5 = pow_mono {i = 6 - k} {j = 5} (omega (arith, some)) in omega (arith, to_place k x)

-- a higher node stands before a lower one
pub higher_before : (k l x y : ℕ) → k < l → l ≤ 6 → place_of l y < place_of k x
higher_before k l x y lt most =
    let w : 2 ^ suc (6 - l) ≤ 2 ^ (6 - k) = pow_mono {i = suc (6 - l)} {j = 6 - k} (omega (arith, lt, most)) in
    omega (arith, to_place l y, from_place k x, pow-suc 2 (6 - l))

pub other_height : (k l x y : ℕ) → k ≤ 6 → l ≤ 6 → k ≢ l → place_of k x ≢ place_of l y
other_height k l x y kmost lmost ne e =
    elim (leb_tells (k + 1) l) [
      | inl lt ↦ absurd (omega (arith, higher_before k l x y (omega (arith, lt.1)) lmost, e))
      | inr not ↦ absurd (omega (arith, higher_before l k y x (omega (arith, not.1, ne)) kmost, e))
    ]

-- two numbers with one remainder have one quotient, where the remainder is below the divisor
pub quotients : (w a b r s : ℕ) → r < w → s < w → a * w + r ≡ b * w + s → a ≡ b
quotients w a b r s low high e = sym (div-mul-add a w r low) ∙ ap (λ (n : ℕ). n / w) e ∙ div-mul-add b w s high

-- pages that the places of a block don't tell apart are below one of its nodes
pub same_node : (b k q n : ℕ) → k ≤ 6 → q % 2 ^ (b + 6) ≡ n % 2 ^ (b + 6) → place_of k (q / 2 ^ (b + k)) ≡ place_of k (n / 2 ^ (b + k))
same_node b k q n most e =
    let whole : b + 6 ≡ (6 - k) + (b + k) = omega (arith, most) in
    let f = rw whole at e in
    ap (λ (r : ℕ). 2 ^ (6 - k) + r)
    (quotients (2 ^ (b + k)) _ _ _ _ (omega (arith, pow_pos (b + k))) (omega (arith, pow_pos (b + k)))
    (sym (mod-pow-add q (6 - k) (b + k)) ∙ f ∙ mod-pow-add n (6 - k) (b + k)))

-- a place before those of the lower heights
pub before_lower : (k l x p : ℕ) → k < l → l ≤ 6 → p < 2 * 2 ^ (6 - l) → place_of k x ≢ p
before_lower k l x p lt most before e =
    let w : 2 ^ suc (6 - l) ≤ 2 ^ (6 - k) = pow_mono {i = suc (6 - l)} {j = 6 - k} (omega (arith, lt, most)) in
    omega (arith, w, from_place k x, pow-suc 2 (6 - l), e, before)
