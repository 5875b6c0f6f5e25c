use Rattle.std.proofs.Common.{◌≡◌, ℕ, zero, suc, ◌+◌, ◌<◌, ◌≤◌, List, [], ◌∷◌, length, get_or, arith, None, Some, Bool, true, false, refl, add-one, ap}
use Rattle.std.proofs.Math.ListN.{set}
use Rattle.std.specs.Prelude.{bytes_eq, if◌then◌else◌}
use Rattle.std.proofs.lemmas.Slice.Eq.{bytes_eq-Decides}
use Rattle.std.proofs.lemmas.Bool.{cases_Bool}
use Rattle.std.proofs.lemmas.List.{get_or_read_under, get_or_default}
use Rattle.std.proofs.Common.{inl, inr}
use Rattle.outside.specs.Files.{files_with}
use Rattle.outside.specs.NamedFile.{NamedFile, PassedBy, HasRoom, files_of, with_bytes, no_file, StandsAt}

-- one more file without the name
passed-suc : (i : ℕ) (fs : List NamedFile) (n : List ℕ)
    → PassedBy i fs n → bytes_eq n (get_or fs i no_file).name ≡ false → PassedBy (suc i) fs n
passed-suc zero [] n p q = tt
passed-suc zero (f ∷ fs) n p q = (q, tt)
passed-suc (suc i) [] n p q = tt
passed-suc (suc i) (f ∷ fs) n p q = (p.0, passed-suc i fs n p.1 q)

-- the same, counted as code counts
pub passed-more : (i : ℕ) (fs : List NamedFile) (n : List ℕ)
    → PassedBy i fs n → bytes_eq n (get_or fs i no_file).name ≡ false → PassedBy (i + 1) fs n
passed-more i fs n p q = rw add-one (passed-suc i fs n p q)

-- a name that no file has holds nothing
pub passed-held : (fs : List NamedFile) (n : List ℕ) → PassedBy (length fs) fs n → files_of fs n ≡ None
passed-held [] n p = refl
passed-held (f ∷ fs) n p = rw p.0 (passed-held fs n p.1)

-- a name that no file has has no room
pub passed-room : (fs : List NamedFile) (n : List ℕ) (count : ℕ)
    → PassedBy (length fs) fs n → HasRoom fs n count → ⊥
passed-room [] n count p h = h
passed-room (f ∷ fs) n count p h = passed-room fs n count p.1 (rw p.0 at h)

-- a name holds what the first file of the name holds
placed-held : (i : ℕ) (fs : List NamedFile) (n : List ℕ)
    → PassedBy i fs n → i < length fs → bytes_eq n (get_or fs i no_file).name ≡ true
    → files_of fs n ≡ (get_or fs i no_file).held
placed-held zero [] n p h e = absurd (omega arith)
placed-held zero (f ∷ fs) n p h e = rw e refl
placed-held (suc i) [] n p h e = absurd (omega arith)
placed-held (suc i) (f ∷ fs) n p h e = rw p.0 (placed-held i fs n p.1 (omega arith) e)

-- a name has the room of the first file of the name
placed-room : (i : ℕ) (fs : List NamedFile) (n : List ℕ) (count : ℕ)
    → PassedBy i fs n → i < length fs → bytes_eq n (get_or fs i no_file).name ≡ true
    → HasRoom fs n count ≡ (count ≤ (get_or fs i no_file).room)
placed-room zero [] n count p h e = absurd (omega arith)
placed-room zero (f ∷ fs) n count p h e = rw e refl
placed-room (suc i) [] n count p h e = absurd (omega arith)
placed-room (suc i) (f ∷ fs) n count p h e = rw p.0 (placed-room i fs n count p.1 (omega arith) e)

-- the file with these bytes
abbrev pub filled : NamedFile → List ℕ → NamedFile
filled f bytes = record f { held = Some bytes }

-- the list with the first file of the name filled
placed-files : (i : ℕ) (fs : List NamedFile) (n bytes : List ℕ)
    → PassedBy i fs n → i < length fs → bytes_eq n (get_or fs i no_file).name ≡ true
    → set fs i (filled (get_or fs i no_file) bytes) ≡ with_bytes n bytes fs
placed-files zero [] n bytes p h e = absurd (omega arith)
placed-files zero (f ∷ fs) n bytes p h e = rw e refl
placed-files (suc i) [] n bytes p h e = absurd (omega arith)
placed-files (suc i) (f ∷ fs) n bytes p h e =
    rw p.0 (ap (λ rest. f ∷ rest) (placed-files i fs n bytes p.1 (omega arith) e))

-- a name that differs from n isn't n
differs : (n q m : List ℕ) → q ≡ m → bytes_eq n m ≡ false → bytes_eq q n ≡ false
differs n q m same apart =
    elim (cases_Bool (bytes_eq q n)) [
      | inl here ↦
          let equal : q ≡ n = (bytes_eq-Decides q n).0 here in
          let as_m : bytes_eq n m ≡ true = (bytes_eq-Decides n m).1 cc in
          cc
      | inr other ↦ other
    ]

-- what any name q holds once the first file of the name n is filled
placed-stored : (i : ℕ) (fs : List NamedFile) (n q bytes : List ℕ)
    → PassedBy i fs n → i < length fs → bytes_eq n (get_or fs i no_file).name ≡ true
    → files_of (set fs i (filled (get_or fs i no_file) bytes)) q ≡ files_with n bytes (files_of fs) q
placed-stored zero [] n q bytes p h e = absurd (omega arith)
placed-stored zero (f ∷ fs) n q bytes p h e =
    let same : n ≡ f.name = (bytes_eq-Decides n f.name).0 e in
    rw same (elim (bytes_eq q f.name)
    as (λ b. (if b then Some bytes else files_of fs q)
    ≡ (if b then Some bytes else (if b then f.held else files_of fs q)))
    [ true ↦ refl | false ↦ refl ])
placed-stored (suc i) [] n q bytes p h e = absurd (omega arith)
placed-stored (suc i) (f ∷ fs) n q bytes p h e =
    elim (cases_Bool (bytes_eq q f.name)) [
      | inl here ↦
          let named : q ≡ f.name = (bytes_eq-Decides q f.name).0 here in
          rw (here, differs n q f.name named p.0) refl
      | inr other ↦ rw other (placed-stored i fs n q bytes p.1 (omega arith) e)
    ]

-- to fill the file of a name is to store the bytes under it
pub stands-stored : (fs : List NamedFile) (n bytes : List ℕ) (i : ℕ) (d y : NamedFile)
    → StandsAt fs n i → y ≡ filled (get_or fs i d) bytes
    → files_of (set fs i y) ≡ files_with n bytes (files_of fs)
stands-stored fs n bytes i d y s is = λ t q.
    let pointwise : files_of (set fs i y) q ≡ files_with n bytes (files_of fs) q =
    rw (is, get_or_default fs i d no_file s.within)
    (placed-stored i fs n q bytes s.passed s.within s.named) in
    pointwise t

-- and gives the list with the bytes under it
pub stands-files : (fs : List NamedFile) (n bytes : List ℕ) (i : ℕ) (d y : NamedFile)
    → StandsAt fs n i → y ≡ filled (get_or fs i d) bytes → set fs i y ≡ with_bytes n bytes fs
stands-files fs n bytes i d y s is =
    rw (is, get_or_default fs i d no_file s.within)
    (placed-files i fs n bytes s.passed s.within s.named)

-- a name holds what its file holds
pub stands-held : (fs : List NamedFile) (n : List ℕ) (i : ℕ) (d : NamedFile)
    → StandsAt fs n i → files_of fs n ≡ (get_or fs i d).held
stands-held fs n i d s =
    rw (get_or_default fs i d no_file s.within) (placed-held i fs n s.passed s.within s.named)

-- a name has the room of its file
pub stands-room : (fs : List NamedFile) (n : List ℕ) (count i : ℕ) (d : NamedFile)
    → StandsAt fs n i → HasRoom fs n count ≡ (count ≤ (get_or fs i d).room)
stands-room fs n count i d s =
    rw (get_or_default fs i d no_file s.within) (placed-room i fs n count s.passed s.within s.named)

-- whether a file that stands in the list has the name, whatever a read past its end would give
pub named-default : (fs : List NamedFile) (n : List ℕ) (i : ℕ) (x : NamedFile) (b : Bool)
    → i < length fs → x ≡ get_or fs i x → b ≡ bytes_eq n x.name
    → b ≡ bytes_eq n (get_or fs i no_file).name
named-default fs n i x b h e r = rw (← get_or_read_under fs i (length fs) x no_file e h refl) r
