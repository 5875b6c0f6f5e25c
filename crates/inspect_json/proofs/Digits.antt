-- Hexadecimal digits stand in a string as they are.
use Rattle.std.proofs.Common.{◌≡◌, inl, inr, ℕ, zero, suc, ◌/◌, ◌%◌, ◌<◌, List, [], ◌∷◌, ◌++◌, refl, ap₂, arith}
use Rattle.std.specs.Prelude.{⊤, slice_index}
use Rattle.std.proofs.lemmas.Bool.{cases_lt}
use Rattle.std.proofs.lemmas.List.Elements.{All-head, All-tail}
use Rattle.json.specs.Print.{escape, escape_byte}
use Rattle.hex.specs.Hex.{encode_lower, encode_with, lower_digits}
use Rattle.digest_core.specs.Digests.{IsBytes}

-- digit n stands as it is
abbrev Stands : ℕ → Type 0
Stands n = escape_byte (slice_index lower_digits n) ≡ slice_index lower_digits n ∷ []

abbrev StandBelow : ℕ → Type 0
StandBelow zero = ⊤
StandBelow (suc n) = StandBelow n × Stands n

stands_below : (n k : ℕ) → StandBelow n → k < n → Stands k
stands_below zero k all low = absurd (omega arith)
stands_below (suc n) k all low =
    elim (cases_lt k n) [
      | inl below ↦ stands_below n k all.0 below
      | inr top ↦
          let e : k ≡ n = omega arith in
          rw e all.1
    ]

digits_stand : StandBelow 16
unfolding escape_byte
digits_stand = ((((((((((((((((tt, refl), refl), refl), refl), refl), refl), refl), refl), refl), refl), refl), refl), refl), refl), refl), refl)

pub escape-encode_lower : (bytes : List ℕ) → IsBytes bytes → escape (encode_lower bytes) ≡ encode_lower bytes
unfolding encode_with
escape-encode_lower [] all = refl
escape-encode_lower (byte ∷ bytes) all =
    let small : byte < 256 = All-head (λ b. b < 256) byte bytes all in
    let high = stands_below 16 (byte / 16) digits_stand (omega arith) in
    let low = stands_below 16 (byte % 16) digits_stand (omega arith) in
    let rest = escape-encode_lower bytes (All-tail (λ b. b < 256) byte bytes all) in
    ap₂ (λ (xs ys : List ℕ). xs ++ ys) high (ap₂ (λ (xs ys : List ℕ). xs ++ ys) low rest)
