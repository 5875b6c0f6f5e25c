-- What `{:08x}` writes of a word.
use Rattle.std.proofs.Common.{◌≡◌, ℕ, zero, suc, ◌+◌, ◌-◌, ◌/◌, ◌%◌, ◌^◌, ◌<◌, ◌≤◌, ◌==◌, ◌&&◌, Bool, true, false, List, [], ◌∷◌, ◌++◌, length, replicate, slice_index, inl, inr, refl, sym, ap, ◌∙◌, arith, append-nil}
use Rattle.std.specs.Fmt.{digits, digits_onto, digit_glyph, padded_integral, char_count, format_spec}
use Rattle.std.specs.Int.{w32, to_be_bytes}
use Rattle.std.proofs.lemmas.Bool.{and_parts, cases_lt, eqb-true}
use Rattle.std.proofs.lemmas.Bool.Decides.{nat_tests}
use Rattle.hex.specs.Hex.{encode_with, lower_digits}
use Rattle.rv_isa.specs.Text.{hex_word}

-- ---- zeros before a number's digits
-- the last `count` digits of n, before others
abbrev put_digits : ℕ → ℕ → List ℕ → List ℕ
put_digits zero n rest = rest
put_digits (suc count) n rest = put_digits count (n / 16) (digit_glyph false (n % 16) ∷ rest)

-- n has no more digits than these
abbrev FitsDigits : ℕ → ℕ → Type 0
FitsDigits zero n = n ≡ 0
FitsDigits (suc count) n = FitsDigits count (n / 16)

zeros_and_one : (count : ℕ) (rest : List ℕ) → replicate count 48 ++ 48 ∷ rest ≡ 48 ∷ (replicate count 48 ++ rest)
zeros_and_one zero rest = refl
zeros_and_one (suc count) rest = ap (λ (zeros : List ℕ). 48 ∷ zeros) (zeros_and_one count rest)

digits_of_0 : (count : ℕ) (rest : List ℕ) → put_digits count 0 rest ≡ replicate count 48 ++ rest
digits_of_0 zero rest = refl
digits_of_0 (suc count) rest = digits_of_0 count (48 ∷ rest) ∙ zeros_and_one count rest

-- these are zeros and then the digits that are written of a number
record IsPadded (count : ℕ) (written rest all : List ℕ) : Type 0 where
  zeros : ℕ
  is : all ≡ replicate zeros 48 ++ written
  long : zeros + length written ≡ count + length rest

last_digit : (fuel n : ℕ) (rest : List ℕ) → n < 16 → digits_onto (suc fuel) 16 false n rest ≡ digit_glyph false (n % 16) ∷ rest
last_digit fuel n rest small = let none : n / 16 ≡ 0 = omega arith in rw none refl

more_digits : (fuel n : ℕ) (rest : List ℕ) → 16 ≤ n → digits_onto (suc fuel) 16 false n rest ≡ digits_onto fuel 16 false (n / 16) (digit_glyph false (n % 16) ∷ rest)
more_digits fuel n rest large = let some : (n / 16 == 0) ≡ false = grind (arith, nat_tests) in rw some refl

short : (count fuel n : ℕ) (rest : List ℕ) → n < 16 → IsPadded (suc count) (digits_onto (suc fuel) 16 false n rest) rest (put_digits (suc count) n rest)
short count fuel n rest small =
    let none : n / 16 ≡ 0 = omega arith in
    let digit = digit_glyph false (n % 16) in
    record {
      zeros = count;
      is = ap (λ m. put_digits count m (digit ∷ rest)) none ∙ digits_of_0 count (digit ∷ rest) ∙ ap (λ (written : List ℕ). replicate count 48 ++ written) (sym (last_digit fuel n rest small));
      long = ap (λ (written : List ℕ). count + length written) (last_digit fuel n rest small) ∙ omega arith;
    }

padded : (count fuel n : ℕ) (rest : List ℕ) → FitsDigits (suc count) n → count < fuel → IsPadded (suc count) (digits_onto fuel 16 false n rest) rest (put_digits (suc count) n rest)
padded count zero n rest fits many = absurd (omega arith)
padded zero (suc fuel) n rest fits many = short zero fuel n rest (omega arith)
padded (suc count) (suc fuel) n rest fits many = elim (cases_lt n 16) [
  | inl small ↦ short (suc count) fuel n rest small
  | inr large ↦
      let digit = digit_glyph false (n % 16) in
      let p = padded count fuel (n / 16) (digit ∷ rest) fits (omega arith) in
      record {
        zeros = p.zeros;
        is = p.is ∙ ap (λ (written : List ℕ). replicate p.zeros 48 ++ written) (sym (more_digits fuel n rest large));
        long = ap (λ (written : List ℕ). p.zeros + length written) (more_digits fuel n rest large) ∙ omega (arith, p.long);
      }
]

padded_zeros : (written all : List ℕ) → IsPadded 8 written [] all → padded_integral (format_spec 32 0 4 8 (2 ^ 64 - 1)) false [] written ≡ all
unfolding padded_integral char_count
padded_zeros written all p =
    let zeros : 8 - length written - 0 - 0 ≡ p.zeros = omega (arith, p.long) in
    let after : written ++ [] ≡ written = append-nil written in
    rw (zeros, after) (sym p.is)

-- ---- the same digits, byte by byte
abbrev agrees : ℕ → Bool
agrees digit = digit_glyph false digit == slice_index lower_digits digit

abbrev all_agree : ℕ → Bool
all_agree zero = true
all_agree (suc count) = agrees count && all_agree count

agrees_below : (count digit : ℕ) → all_agree count ≡ true → digit < count → agrees digit ≡ true
agrees_below zero digit tested below = absurd (omega arith)
agrees_below (suc count) digit tested below =
    let parts = and_parts (agrees count) (all_agree count) tested in
    elim (cases_lt digit count) [
      | inl less ↦ agrees_below count digit parts.1 less
      | inr last ↦ let is : digit ≡ count = omega arith in rw is parts.0
    ]

glyph_of : (a b : ℕ) → a ≡ b → b < 16 → digit_glyph false a ≡ slice_index lower_digits b
glyph_of a b is below = ap (digit_glyph false) is ∙ eqb-true (digit_glyph false b) (slice_index lower_digits b) (agrees_below 16 b refl below)

digits_of_word : (n : ℕ) → n < 2 ^ 32 → put_digits 8 n [] ≡ hex_word n
unfolding encode_with
digits_of_word n small =
    rw (
      glyph_of (n / 16 / 16 / 16 / 16 / 16 / 16 / 16 % 16) (n / 16777216 % 256 / 16) (omega arith) (omega arith),
      glyph_of (n / 16 / 16 / 16 / 16 / 16 / 16 % 16) (n / 16777216 % 256 % 16) (omega arith) (omega arith),
      glyph_of (n / 16 / 16 / 16 / 16 / 16 % 16) (n / 65536 % 256 / 16) (omega arith) (omega arith),
      glyph_of (n / 16 / 16 / 16 / 16 % 16) (n / 65536 % 256 % 16) (omega arith) (omega arith),
      glyph_of (n / 16 / 16 / 16 % 16) (n / 256 % 256 / 16) (omega arith) (omega arith),
      glyph_of (n / 16 / 16 % 16) (n / 256 % 256 % 16) (omega arith) (omega arith),
      glyph_of (n / 16 % 16) (n % 256 / 16) (omega arith) (omega arith),
      glyph_of (n % 16) (n % 256 % 16) (omega arith) (omega arith),
    ) refl

word_is_padded : (n : ℕ) → n < 2 ^ 32 → IsPadded 8 (digits 16 false n) [] (put_digits 8 n [])
unfolding digits
word_is_padded n small = padded 7 64 n [] (omega arith) (omega arith)

pub padded_hex_word : (n : ℕ) → n < 2 ^ 32 → padded_integral (format_spec 32 0 4 8 (2 ^ 64 - 1)) false [] (digits 16 false n) ≡ hex_word n
padded_hex_word n small = padded_zeros (digits 16 false n) (put_digits 8 n []) (word_is_padded n small) ∙ digits_of_word n small
