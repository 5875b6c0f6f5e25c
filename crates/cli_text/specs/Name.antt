-- The names of files among the words of a program.
use Rattle.std.specs.Prelude.{◌≢◌, ℕ, List, []}

-- a word that isn't empty
abbrev pub IsName : List ℕ → Type 0
IsName word = word ≢ []
