use Rattle.std.specs.Prelude.{◌≡◌, ℕ, zero, suc, ◌≢◌, ◌<◌, ◌≤◌, ◌-◌, min, List, [], ◌∷◌, length, if◌then◌else◌, true, false, None, Some, Option, AllPairs, bytes_eq, MatchBool, slice_index_or, ⊤}
use Rattle.std.specs.Option.{option_map}
use Rattle.outside.specs.Files.{Files}

-- a file in memory: what it holds, None where it is absent, and how many bytes a write may give it
pub record NamedFile : Type 0 where
  pub name : List ℕ
  pub held : Option (List ℕ)
  pub room : ℕ

-- no two files have one name
abbrev pub HasDistinctNames : List NamedFile → Type 0
HasDistinctNames files = AllPairs (λ f g. f.name ≢ g.name) files

-- what a list of files holds
abbrev pub files_of : List NamedFile → Files
files_of [] = λ n. None
files_of (f ∷ fs) = λ n. if bytes_eq n f.name then f.held else files_of fs n

-- how many bytes a read from `at` takes into a buffer of that length; None where the name is absent
abbrev pub count_read : Option (List ℕ) → ℕ → ℕ → Option ℕ
count_read held at room = option_map (λ bytes. min (length bytes - at) room) held

-- the name is among the files, and its file has room for so many bytes
abbrev pub HasRoom : List NamedFile → List ℕ → ℕ → Type 0
HasRoom [] n count = ⊥
HasRoom (f ∷ fs) n count = MatchBool (bytes_eq n f.name) (count ≤ f.room) (HasRoom fs n count)

-- the files once the file of the name holds these bytes
abbrev pub with_bytes : List ℕ → List ℕ → List NamedFile → List NamedFile
with_bytes n bytes [] = []
with_bytes n bytes (f ∷ fs) =
    if bytes_eq n f.name then record f { held = Some bytes } ∷ fs else f ∷ with_bytes n bytes fs

-- none of the first so many files has the name
abbrev pub PassedBy : ℕ → List NamedFile → List ℕ → Type 0
PassedBy zero fs n = ⊤
PassedBy (suc i) [] n = ⊤
PassedBy (suc i) (f ∷ fs) n = (bytes_eq n f.name ≡ false) × PassedBy i fs n

-- what a place past the end of a list counts as
abbrev pub no_file : NamedFile
no_file = record { name = []; held = None; room = 0 }

-- the first file of the name stands here
pub record StandsAt (files : List NamedFile) (name : List ℕ) (place : ℕ) : Type 0 where
  pub passed : PassedBy place files name
  pub within : place < length files
  pub named : bytes_eq name (slice_index_or files place no_file).name ≡ true
