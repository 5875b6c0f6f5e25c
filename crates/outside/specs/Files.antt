use Rattle.std.specs.Prelude.{◌≡◌, ℕ, ◌-◌, ◌<◌, ◌≤◌, ◌⊎◌, List, length, take, drop, if◌then◌else◌, None, Some, Ok, Err, IsNone, IsSomeAnd, Option, Result, bytes_eq}
use Rattle.std.specs.Option.{option_map}
use Rattle.std.specs.Io.KnownBytes.{append_known}

-- what each name holds: its bytes, or None where it is absent
abbrev pub Files : Type 0
Files = List ℕ → Option (List ℕ)

-- the files once `name` holds `bytes`
abbrev pub files_with : List ℕ → List ℕ → Files → Files
files_with name bytes files = λ n. if bytes_eq n name then Some bytes else files n

-- a read of `name` from `at` left these bytes in the buffer: n of them are the next n bytes of the file,
-- and there are none only at its end or with no room; or the name is absent
abbrev pub ReadsAt : Files → List ℕ → ℕ → List ℕ → Option ℕ → Type 0
ReadsAt files name at buffer None = IsNone (files name)
ReadsAt files name at buffer (Some n) = IsSomeAnd (files name) (λ bytes.
    (n ≤ length bytes - at) × (take n buffer ≡ take n (drop at bytes))
    × (n ≡ 0 → 0 < length buffer → length bytes ≤ at))

-- a write makes the name hold the bytes; one that failed makes it hold a prefix of them, or changes nothing
abbrev pub Writes : {T E : Type 0} → List ℕ → List ℕ → Option Files → Option Files → Result T E → Type 0
Writes name bytes old new (Ok _) = new ≡ option_map (files_with name bytes) old
Writes name bytes old new (Err _) =
    (new ≡ old) ⊎ ((k : ℕ) × (new ≡ option_map (files_with name (take k bytes)) old))

-- a put appends the bytes; one that failed appends a prefix of them
abbrev pub PutsBytes : {T E : Type 0} → List ℕ → Option (List ℕ) → Option (List ℕ) → Result T E → Type 0
PutsBytes bytes old new (Ok _) = new ≡ append_known old bytes
PutsBytes bytes old new (Err _) = (k : ℕ) × (new ≡ append_known old (take k bytes))
