-- A line, and what is said of a journal in several of them.
use Rattle.std.specs.Prelude.{ℕ, List, [], ◌∷◌, ◌++◌, length, codes, decimal}
use Rattle.hex.specs.Hex.{encode_lower}

-- a text and one line feed
abbrev pub line : List ℕ → List ℕ
line text = text ++ 10 ∷ []

-- a space and the bytes of a journal, where it isn't empty
abbrev pub journal_tail : List ℕ → List ℕ
journal_tail [] = []
journal_tail (byte ∷ bytes) = codes " " ++ encode_lower (byte ∷ bytes)

-- its length, and its bytes
abbrev pub journal_line : List ℕ → List ℕ
journal_line journal = line (codes "journal " ++ decimal (length journal) ++ journal_tail journal)
