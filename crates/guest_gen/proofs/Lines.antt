-- The words of lines, one after the other.
use Rattle.std.proofs.Common.{◌≡◌, ℕ, zero, suc, ◌+◌, ◌<◌, List, [], ◌∷◌, ◌++◌, length, take, get_or, refl, sym, ap, ◌∙◌, subst, arith, append_assoc}
use Rattle.std.specs.List.{flat_map}
use Rattle.std.proofs.lemmas.Grind.{flat_map-append}
use Rattle.std.proofs.lemmas.List.{take_more}
use Rattle.guest_gen.specs.declared.line.GuestLine.{GuestLine}
use Rattle.guest_gen.specs.Assembly.{IsValidLine, AreValid, IsLine, AreLines, word}

pub valid_at : (lines : List GuestLine) (i : ℕ) (d : GuestLine) → i < length lines → AreValid lines → IsValidLine (get_or lines i d)
valid_at [] i d low all = absurd (omega arith)
valid_at (line ∷ lines) zero d low all = all.0
valid_at (line ∷ lines) (suc i) d low all = valid_at lines i d (omega arith) all.1

pub lines_length : (lines : List GuestLine) (words : List ℕ) → AreLines lines words → length words ≡ length lines
lines_length [] [] all = refl
lines_length [] (w ∷ ws) all = absurd all
lines_length (line ∷ lines) [] all = absurd all
lines_length (line ∷ lines) (w ∷ ws) all = ap suc (lines_length lines ws all.1)

lines_append : (lines : List GuestLine) (words : List ℕ) (line : GuestLine) (w : ℕ) → AreLines lines words → IsLine line w → AreLines (lines ++ line ∷ []) (words ++ w ∷ [])
lines_append [] [] line w all is = (is, tt)
lines_append [] (v ∷ ws) line w all is = absurd all
lines_append (x ∷ lines) [] line w all is = absurd all
lines_append (x ∷ lines) (v ∷ ws) line w all is = (all.0, lines_append lines ws line w all.1 is)

-- the first lines are written
abbrev pub AreWritten : List GuestLine → List ℕ → List ℕ → Type 0
AreWritten lines old new = (words : List ℕ) × AreLines lines words × (new ≡ old ++ flat_map word words)

-- and one more
pub line_written : (lines : List GuestLine) (i : ℕ) (d : GuestLine) (w : ℕ) (old middle new : List ℕ) → i < length lines → AreWritten (take i lines) old middle
    → IsLine (get_or lines i d) w → new ≡ middle ++ word w → AreWritten (take (i + 1) lines) old new
line_written lines i d w old middle new low (words, are, is) line now = (
  words ++ w ∷ [],
  subst (λ (xs : List GuestLine). AreLines xs (words ++ w ∷ [])) (sym (take_more lines i d low)) (lines_append (take i lines) words (get_or lines i d) w are line),
  now ∙ ap (λ (bytes : List ℕ). bytes ++ word w) is ∙ append_assoc old (flat_map word words) (word w)
      ∙ ap (λ (bytes : List ℕ). old ++ bytes) (sym (flat_map-append word words (w ∷ []) ∙ ap (λ (bytes : List ℕ). flat_map word words ++ bytes) refl)),
)
