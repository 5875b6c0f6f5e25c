-- The first fault of tests, and the load headers of a file one after the other.
use Rattle.std.proofs.Common.{◌≡◌, ℕ, suc, ◌+◌, ◌≤◌, Bool, true, false, ◌||◌, leb, ◌==◌, if◌then◌else◌, List, [], ◌∷◌, ◌++◌, Option, Some, None, ◌⊎◌, refl, sym, ap, ap₂, ◌∙◌, arith, append_assoc}
use Rattle.std.proofs.lemmas.Bool.Decides.{nat_tests}
use Rattle.std.proofs.lemmas.List.{append-nil}
use Rattle.elf_image.specs.declared.headers.LoadHeader.{LoadHeader}
use Rattle.elf_image.specs.declared.stop.ElfStop.{ElfStop}
use Rattle.elf_image.specs.Fields.{word_at}
use Rattle.elf_image.specs.Headers.{headers_at, header_count, load_at, loads_from, loads_of}
use Rattle.elf_image.specs.Tests.{Test, load_tests, all_load_tests, first_fault}

-- ---- tests
-- a range that is empty or ends within a limit passes
pub range_passes : (size start limit : ℕ) → (size ≡ 0) ⊎ (start + size ≤ limit) → (size == 0 || leb (start + size) limit) ≡ true
range_passes size start limit h = grind (arith, nat_tests)

-- a step of `fault_after`: a first test, of whose fault there is none
after_one : (passes : Bool) (fault : ElfStop) (first all after : Option ElfStop) → (first ≡ None → all ≡ after) → (if passes then first else Some fault) ≡ None
    → (if passes then all else Some fault) ≡ after
after_one true fault first all after rest h = rest h
after_one false fault first all after rest h = cc

-- a step of `fault_within`: a first test, which fails or passes
within_one : (passes : Bool) (fault s : ElfStop) (first all : Option ElfStop) → (first ≡ Some s → all ≡ Some s) → (if passes then first else Some fault) ≡ Some s
    → (if passes then all else Some fault) ≡ Some s
within_one true fault s first all rest h = rest h
within_one false fault s first all rest h = h

-- where tests pass, the fault is that of those after them
pub fault_after : (ts us : List Test) → first_fault ts ≡ None → first_fault (ts ++ us) ≡ first_fault us
fault_after [] us h = refl
fault_after (t ∷ ts) us h = after_one t.passes t.fault (first_fault ts) (first_fault (ts ++ us)) (first_fault us) (fault_after ts us) h

-- where they don't, it is theirs
pub fault_within : (ts us : List Test) (s : ElfStop) → first_fault ts ≡ Some s → first_fault (ts ++ us) ≡ Some s
fault_within [] us s h = cc
fault_within (t ∷ ts) us s h = within_one t.passes t.fault s (first_fault ts) (first_fault (ts ++ us)) (fault_within ts us s) h

-- the fault of a load header after others, under another name of both
pub fault_of : (file : List ℕ) (earlier found : List LoadHeader) (other load : LoadHeader) (fault : Option ElfStop) → fault ≡ first_fault (load_tests file earlier other)
    → earlier ≡ found → other ≡ load → first_fault (load_tests file found load) ≡ fault
fault_of file earlier found other load fault is same_list same =
    ap₂ (λ (loads : List LoadHeader) (l : LoadHeader). first_fault (load_tests file loads l)) (sym same_list) (sym same) ∙ sym is

-- ---- the headers of a file
-- a header of another type is no load header
loads_without : (file : List ℕ) (at n : ℕ) → (word_at file at ≡ 1 → ⊥) → loads_from file at (suc n) ≡ loads_from file (at + 32) n
unfolding loads_from
loads_without file at n other =
    let e : (word_at file at == 1) ≡ false = grind (arith, nat_tests) in
    ap (λ (b : Bool). if b then load_at file at ∷ loads_from file (at + 32) n else loads_from file (at + 32) n) e

-- one of type 1 is the first load header
loads_with : (file : List ℕ) (at n : ℕ) → word_at file at ≡ 1 → loads_from file at (suc n) ≡ load_at file at ∷ loads_from file (at + 32) n
unfolding loads_from
loads_with file at n is =
    let e : (word_at file at == 1) ≡ true = grind (arith, nat_tests) in
    ap (λ (b : Bool). if b then load_at file at ∷ loads_from file (at + 32) n else loads_from file (at + 32) n) e

-- no header has no load header
loads_none : (file : List ℕ) (at : ℕ) → loads_from file at 0 ≡ []
unfolding loads_from
loads_none file at = refl

-- no load header has no test
tests_none : (file : List ℕ) (earlier : List LoadHeader) → all_load_tests file earlier [] ≡ []
unfolding all_load_tests
tests_none file earlier = refl

-- the tests of the first come before those of the others
tests_more : (file : List ℕ) (earlier loads : List LoadHeader) (load : LoadHeader)
    → all_load_tests file earlier (load ∷ loads) ≡ load_tests file earlier load ++ all_load_tests file (earlier ++ (load ∷ [])) loads
unfolding all_load_tests
tests_more file earlier loads load = refl

-- ---- the load headers that are tested
-- these passed, and the n headers from a place on are left
pub record Tested (file : List ℕ) (found : List LoadHeader) (at n : ℕ) : Type 0 where
  pub loads : found ++ loads_from file at n ≡ loads_of file
  pub faults : first_fault (all_load_tests file found (loads_from file at n)) ≡ first_fault (all_load_tests file [] (loads_of file))

-- at first all are left
pub none_tested : (file : List ℕ) (at n : ℕ) → at ≡ headers_at file → n ≡ header_count file → Tested file [] at n
none_tested file at n place count =
    let e : loads_from file at n ≡ loads_of file = ap₂ (loads_from file) place count in
    record { loads = e; faults = ap (λ (loads : List LoadHeader). first_fault (all_load_tests file [] loads)) e }

-- a header of another type is passed over
pub passed_over : (file : List ℕ) (found : List LoadHeader) (at n next m : ℕ) → Tested file found at n → n ≡ suc m → next ≡ at + 32 → (word_at file at ≡ 1 → ⊥)
    → Tested file found next m
passed_over file found at n next m tested left place other =
    let e : loads_from file next m ≡ loads_from file at n =
    ap (λ (k : ℕ). loads_from file k m) place ∙ sym (loads_without file at m other) ∙ ap (loads_from file at) (sym left) in
    record {
      loads = ap (λ (loads : List LoadHeader). found ++ loads) e ∙ tested.loads;
      faults = ap (λ (loads : List LoadHeader). first_fault (all_load_tests file found loads)) e ∙ tested.faults;
    }

-- a load header that stands first among those left
first_left : (file : List ℕ) (at n next m : ℕ) → n ≡ suc m → next ≡ at + 32 → word_at file at ≡ 1 → loads_from file at n ≡ load_at file at ∷ loads_from file next m
first_left file at n next m left place is =
    ap (loads_from file at) left ∙ loads_with file at m is ∙ ap (λ (k : ℕ). load_at file at ∷ loads_from file k m) (sym place)

-- a load header that passes is added
pub passed_on : (file : List ℕ) (found : List LoadHeader) (at n next m : ℕ) → Tested file found at n → n ≡ suc m → next ≡ at + 32 → word_at file at ≡ 1
    → first_fault (load_tests file found (load_at file at)) ≡ None → Tested file (found ++ (load_at file at ∷ [])) next m
passed_on file found at n next m tested left place is passes =
    let load : LoadHeader = load_at file at in
    let rest : List LoadHeader = loads_from file next m in
    let e = first_left file at n next m left place is in
    record {
      loads = append_assoc found (load ∷ []) rest ∙ ap (λ (loads : List LoadHeader). found ++ loads) (sym e) ∙ tested.loads;
      faults =
          sym (fault_after (load_tests file found load) (all_load_tests file (found ++ (load ∷ [])) rest) passes)
          ∙ ap first_fault (sym (tests_more file found rest load))
          ∙ ap (λ (loads : List LoadHeader). first_fault (all_load_tests file found loads)) (sym e) ∙ tested.faults;
    }

-- the fault of one that doesn't is the first of all
pub failed : (file : List ℕ) (found : List LoadHeader) (at n m : ℕ) (s : ElfStop) → Tested file found at n → n ≡ suc m → word_at file at ≡ 1
    → first_fault (load_tests file found (load_at file at)) ≡ Some s → first_fault (all_load_tests file [] (loads_of file)) ≡ Some s
failed file found at n m s tested left is fails =
    let load : LoadHeader = load_at file at in
    let rest : List LoadHeader = loads_from file (at + 32) m in
    sym tested.faults
    ∙ ap (λ (loads : List LoadHeader). first_fault (all_load_tests file found loads)) (first_left file at n (at + 32) m left refl is)
    ∙ ap first_fault (tests_more file found rest load)
    ∙ fault_within (load_tests file found load) (all_load_tests file (found ++ (load ∷ [])) rest) s fails

-- where none is left, these are all
pub all_found : (file : List ℕ) (found : List LoadHeader) (at n : ℕ) → Tested file found at n → n ≡ 0 → found ≡ loads_of file
all_found file found at n tested none =
    let e : loads_from file at n ≡ [] = ap (loads_from file at) none ∙ loads_none file at in
    sym (append-nil found) ∙ ap (λ (loads : List LoadHeader). found ++ loads) (sym e) ∙ tested.loads

-- and they pass
pub all_passed : (file : List ℕ) (found : List LoadHeader) (at n : ℕ) → Tested file found at n → n ≡ 0 → first_fault (all_load_tests file [] (loads_of file)) ≡ None
all_passed file found at n tested none =
    let e : loads_from file at n ≡ [] = ap (loads_from file at) none ∙ loads_none file at in
    sym tested.faults ∙ ap (λ (loads : List LoadHeader). first_fault (all_load_tests file found loads)) e ∙ ap first_fault (tests_none file found)
