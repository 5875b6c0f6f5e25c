-- The words of an input, one after the other.
use Rattle.std.proofs.Common.{◌≡◌, ℕ, ◌+◌, ◌%◌, ◌^◌, ◌<◌, All, List, [], ◌∷◌, ◌++◌, length, refl, sym, ap, ◌∙◌, arith, append_assoc, append-nil}
use Rattle.std.specs.Int.{w32, to_le_bytes}
use Rattle.std.specs.List.{flat_map}
use Rattle.std.proofs.lemmas.Grind.{flat_map-append}
use Rattle.std.proofs.lemmas.List.{length-append, nil_from_length}
use Rattle.std.proofs.lemmas.List.Elements.{All-append, All-cons, All-nil}
use Rattle.prove_calls.specs.Guest.{IsInput}

-- these words were taken off the front, and whole words are left
pub record AreTaken (bytes words left : List ℕ) : Type 0 where
  pub are_words : All (λ word. word < 2 ^ 32) words
  pub parts : bytes ≡ flat_map (to_le_bytes w32) words ++ left
  pub whole : length left % 4 ≡ 0

pub none_taken : (bytes : List ℕ) → length bytes % 4 ≡ 0 → AreTaken bytes [] bytes
none_taken bytes whole = record { are_words = All-nil (λ word. word < 2 ^ 32); parts = refl; whole = whole }

pub one_taken : (bytes words left rest : List ℕ) (word : ℕ) → word < 2 ^ 32 → left ≡ to_le_bytes w32 word ++ rest → AreTaken bytes words left → AreTaken bytes (words ++ word ∷ []) rest
one_taken bytes words left rest word fits is taken = record {
  are_words = All-append (λ w. w < 2 ^ 32) words (word ∷ []) taken.are_words (All-cons (λ w. w < 2 ^ 32) word [] fits (All-nil (λ w. w < 2 ^ 32)));
  parts = taken.parts ∙ ap (λ (l : List ℕ). flat_map (to_le_bytes w32) words ++ l) is ∙ sym (append_assoc (flat_map (to_le_bytes w32) words) (to_le_bytes w32 word) rest)
      ∙ ap (λ (l : List ℕ). l ++ rest) (sym (flat_map-append (to_le_bytes w32) words (word ∷ [])));
  whole =
      let size : length left ≡ length (to_le_bytes w32 word) + length rest = ap length is ∙ length-append (to_le_bytes w32 word) rest in
      omega (arith, size, taken.whole);
}

pub all_taken : (bytes words left : List ℕ) → length left < 4 → AreTaken bytes words left → IsInput bytes words
all_taken bytes words left short taken =
    let none : left ≡ [] = nil_from_length left (omega (arith, short, taken.whole)) in
    record { are_words = taken.are_words; bytes_are = taken.parts ∙ ap (λ (l : List ℕ). flat_map (to_le_bytes w32) words ++ l) none ∙ append-nil (flat_map (to_le_bytes w32) words) }
