-- What reading and refusing say of bytes, for any spelling.
use Rattle.std.specs.Prelude.{◌≡◌, ◌≢◌, ℕ, ◌^◌, ◌<◌, List, ◌++◌, length, take, All, codes}
use Rattle.std.specs.Int.{w16, to_le_bytes}
use Rattle.receipt_types.specs.Seals.{Seal}
use Rattle.receipt_types.specs.Limits.{AllSealLimits}

-- no prefix of the bytes is the spelling of something that fits
abbrev pub NoneSpelled : {A : Type 0} → (A → List ℕ) → (A → Type 0) → List ℕ → Type 0
NoneSpelled {A} spelling Fits bytes = (x : A) (rest : List ℕ) → Fits x → bytes ≡ spelling x ++ rest → ⊥

-- no spelling of something that fits is the beginning of another's
abbrev pub OneSpelled : {A : Type 0} → (A → List ℕ) → (A → Type 0) → Type 0
OneSpelled {A} spelling Fits = (x y : A) (rest more : List ℕ) → Fits x → Fits y → spelling x ++ rest ≡ spelling y ++ more → (x ≡ y) × (rest ≡ more)

-- a front of the bytes was appended
abbrev pub AppendsFrontOf : List ℕ → List ℕ → List ℕ → Type 0
AppendsFrontOf bytes old new = (k : ℕ) × (new ≡ old ++ take k bytes)

-- so many links of entry e of n
pub record AreLinks (e n many : ℕ) (links : List ℕ) : Type 0 where
  pub long : length links ≡ many
  pub each : All (λ link. (e < link) × (link < n)) links

-- so many seals within their limits
pub record AreSealed (many : ℕ) (seals : List Seal) : Type 0 where
  pub long : length seals ≡ many
  pub limits : AllSealLimits seals

-- the bytes begin with "SEAL" and a number of two bytes other than 1
pub record BeginsVersion (v : ℕ) (bytes : List ℕ) : Type 0 where
  pub rest : List ℕ
  pub is : bytes ≡ codes "SEAL" ++ (to_le_bytes w16 v ++ rest)
  pub fits : v < 2 ^ 16
  pub other : v ≢ 1
