-- The lines of audits as they are written, and as they are defined.
use Rattle.std.proofs.Common.{◌≡◌, ◌∙◌, ℕ, List, [], ◌∷◌, ◌++◌, length, Bool, true, false, eqb, refl, sym, ap, append_assoc, arith}
use Rattle.std.specs.Prelude.{codes, decimal}
use Rattle.std.specs.Int.{w32, to_le_bytes}
use Rattle.std.specs.List.{flat_map}
use Rattle.std.proofs.lemmas.Bool.{eqb-true}
use Rattle.std.proofs.lemmas.Fmt.{decimal_digit}
use Rattle.std.proofs.lemmas.List.{nil_from_length}
use Rattle.hex.specs.Hex.{encode_lower}
use Rattle.cli_text.specs.Lines.{line, journal_tail}
use Rattle.cli_text.specs.Audits.{sound_lines}

-- ---- an entry that is sound
pub no_words : (words : List ℕ) → eqb (length words) 0 ≡ true → codes "sound\nwords 0\n" ≡ sound_lines words
no_words words none =
    ap (λ (zero : List ℕ). line (codes "sound") ++ line (codes "words " ++ zero ++ [])) (sym (decimal_digit 0 (omega arith)))
    ∙ ap sound_lines (sym (nil_from_length words (eqb-true (length words) 0 none)))

-- words are some bytes
tail_of : (words : List ℕ) → eqb (length words) 0 ≡ false → codes " " ++ encode_lower (flat_map (to_le_bytes w32) words) ≡ journal_tail (flat_map (to_le_bytes w32) words)
tail_of [] some = let other : true ≡ false = some in absurd (cc)
tail_of (word ∷ words) some = refl

abbrev pub sound_text : List ℕ → List ℕ → List ℕ
sound_text count digits = codes "sound\nwords " ++ count ++ codes " " ++ digits ++ codes "\n"

sound_parts : (nl s w sp count digits : List ℕ) → (s ++ nl ++ w) ++ count ++ sp ++ digits ++ nl ≡ (s ++ nl) ++ ((w ++ count ++ (sp ++ digits)) ++ nl)
sound_parts nl s w sp count digits = simp append_assoc

pub some_words : (words : List ℕ) → eqb (length words) 0 ≡ false → sound_text (decimal (length words)) (encode_lower (flat_map (to_le_bytes w32) words)) ≡ sound_lines words
some_words words some =
    sound_parts (10 ∷ []) (codes "sound") (codes "words ") (codes " ") (decimal (length words)) (encode_lower (flat_map (to_le_bytes w32) words))
    ∙ ap (λ (tail : List ℕ). line (codes "sound") ++ line (codes "words " ++ decimal (length words) ++ tail)) (tail_of words some)

-- ---- two strings with one digest
abbrev pub pair_lines : List ℕ → List ℕ → List ℕ → List ℕ → List ℕ
pair_lines m left n right =
    line (codes "collision") ++ line (codes "left " ++ m ++ codes " " ++ left) ++ line (codes "right " ++ n ++ codes " " ++ right)

abbrev pub pair_text : List ℕ → List ℕ → List ℕ → List ℕ → List ℕ
pair_text m left n right = codes "collision\nleft " ++ m ++ codes " " ++ left ++ codes "\nright " ++ n ++ codes " " ++ right ++ codes "\n"

pair_parts : (nl c l r sp m left n right : List ℕ)
    → (c ++ nl ++ l) ++ m ++ sp ++ left ++ (nl ++ r) ++ n ++ sp ++ right ++ nl ≡ (c ++ nl) ++ ((l ++ m ++ sp ++ left) ++ nl) ++ ((r ++ n ++ sp ++ right) ++ nl)
pair_parts nl c l r sp m left n right = simp append_assoc

pub pair_written : (m left n right : List ℕ) → pair_text m left n right ≡ pair_lines m left n right
pair_written m left n right = pair_parts (10 ∷ []) (codes "collision") (codes "left ") (codes "right ") (codes " ") m left n right
