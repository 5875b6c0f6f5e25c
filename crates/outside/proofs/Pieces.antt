use Rattle.std.proofs.Common.{◌≡◌, ℕ, ◌+◌, ◌-◌, ◌<◌, ◌≤◌, List, ◌++◌, length, take, drop, arith, IfSome, None, Some, Option}
use Rattle.std.specs.Prelude.{IsSomeAnd}
use Rattle.std.proofs.Math.Seq.{take-add}
use Rattle.outside.specs.Files.{Files, ReadsAt}

-- what was read up to `at` begins what the name holds
abbrev pub Begins : Option (List ℕ) → ℕ → List ℕ → Type 0
Begins held at read = IfSome held (λ bytes. (at ≤ length bytes) × (take at bytes ≡ read))

-- with one more piece it still does
begins-piece : (held : Option (List ℕ)) (at n : ℕ) (read buffer : List ℕ)
    → IsSomeAnd held (λ bytes. (n ≤ length bytes - at) × (take n buffer ≡ take n (drop at bytes))
    × (n ≡ 0 → 0 < length buffer → length bytes ≤ at))
    → Begins held at read → Begins held (at + n) (read ++ take n buffer)
begins-piece None at n read buffer p h = absurd p
begins-piece (Some bytes) at n read buffer p h =
    (omega (arith, p.0, h.0), rw (take-add at n bytes) (let e = h.1 in let f = p.1 in cc))

-- the same of the files that a desk tells
pub told-piece : (told : Option Files) (name : List ℕ) (at n : ℕ) (read buffer : List ℕ)
    → IfSome told (λ files. ReadsAt files name at buffer (Some n))
    → IfSome told (λ files. Begins (files name) at read)
    → IfSome told (λ files. Begins (files name) (at + n) (read ++ take n buffer))
told-piece None name at n read buffer p h = h
told-piece (Some files) name at n read buffer p h = begins-piece (files name) at n read buffer p h
