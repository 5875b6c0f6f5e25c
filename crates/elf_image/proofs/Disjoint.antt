-- What the tests tell of each load header, and of two of them.
use Rattle.std.proofs.Common.{◌≡◌, ◌⊎◌, inl, inr, ⊎_elim, ℕ, ◌+◌, ◌<◌, ◌≤◌, Bool, true, false, not, ◌||◌, leb, ltb, eqb, List, [], ◌∷◌, length, take, get_or, None, refl, sym, arith, subst, get_or-take}
use Rattle.std.specs.Prelude.{◌==◌}
use Rattle.std.specs.List.{list_any}
use Rattle.std.proofs.lemmas.Bool.{or_cases, and_parts, not-true, eqb-true, leb-true, ltb-true, ne_eqb, lt-ltb, both_ways, cases_order}
use Rattle.std.proofs.lemmas.List.{length-take-le}
use Rattle.std.proofs.lemmas.List.Folds.{list_any_at}
use Rattle.page_core.specs.Memory.{top}
use Rattle.elf_image.specs.declared.headers.LoadHeader.{LoadHeader}
use Rattle.elf_image.specs.Loaded.{Covers, in_file}
use Rattle.elf_image.specs.declared.stop.ElfStop.{ElfStop}
use Rattle.elf_image.specs.declared.stop.ElfStop.TheVariants.{FileRange, SizeOrder, AddressRange, Overlap}
use Rattle.elf_image.specs.Tests.{test, load_tests, all_load_tests, first_fault, meets}
use Rattle.elf_image.proofs.Faults.{passes_at}

-- what is read past the end of a list of load headers
abbrev pub no_load : LoadHeader
no_load = record { offset = 0; address = 0; file_size = 0; memory_size = 0 }

-- a load header passes its tests after others
pub record Passes (file : List ℕ) (earlier : List LoadHeader) (load : LoadHeader) : Type 0 where
  pub within : (load.file_size ≡ 0) ⊎ (load.offset + load.file_size ≤ length file)
  pub order : load.file_size ≤ load.memory_size
  pub below : (load.memory_size ≡ 0) ⊎ (load.address + load.memory_size ≤ top)
  pub apart : list_any (meets load) earlier ≡ false

-- where none of four tests fails, each passes
four_pass : (a b c d : Bool) (w x y z : ElfStop) → first_fault (test a w ∷ test b x ∷ test c y ∷ test d z ∷ []) ≡ None → (a ≡ true) × (b ≡ true) × (c ≡ true) × (d ≡ true)
four_pass true true true true w x y z h = (refl, refl, refl, refl)
four_pass true true true false w x y z h = absurd (cc)
four_pass true true false d w x y z h = absurd (cc)
four_pass true false c d w x y z h = absurd (cc)
four_pass false b c d w x y z h = absurd (cc)

-- so it does where none of its tests fails
passes_tests : (file : List ℕ) (earlier : List LoadHeader) (load : LoadHeader) → first_fault (load_tests file earlier load) ≡ None → Passes file earlier load
passes_tests file earlier load h =
    let (within, order, below, apart) =
    four_pass (load.file_size == 0 || leb (load.offset + load.file_size) (length file)) (leb load.file_size load.memory_size)
    (load.memory_size == 0 || leb (load.address + load.memory_size) top) (not (list_any (meets load) earlier)) FileRange SizeOrder AddressRange Overlap h in
    record {
      within = ⊎_elim (λ e. inl (eqb-true load.file_size 0 e)) (λ e. inr (leb-true (load.offset + load.file_size) (length file) e))
          (or_cases (load.file_size == 0) (leb (load.offset + load.file_size) (length file)) within);
      order = leb-true load.file_size load.memory_size order;
      below = ⊎_elim (λ e. inl (eqb-true load.memory_size 0 e)) (λ e. inr (leb-true (load.address + load.memory_size) top e))
          (or_cases (load.memory_size == 0) (leb (load.address + load.memory_size) top) below);
      apart = not-true (list_any (meets load) earlier) apart;
    }

-- each load header of a list passes its tests after those before it
pub record AllPass (file : List ℕ) (loads : List LoadHeader) : Type 0 where
  pub at : (k : ℕ) → k < length loads → Passes file (take k loads) (get_or loads k no_load)

-- so they do where no test of them fails
pub all_pass : (file : List ℕ) (loads all : List LoadHeader) → loads ≡ all → first_fault (all_load_tests file [] all) ≡ None → AllPass file loads
all_pass file loads all is h =
    subst (λ (l : List LoadHeader). AllPass file l) (sym is)
    (record { at = λ k low. passes_tests file (take k all) (get_or all k no_load) (passes_at file no_load [] all h k low) })

-- an address of a load header's file bytes is one of its memory
covers_in_file : (load : LoadHeader) (a : ℕ) → load.file_size ≤ load.memory_size → in_file load a ≡ true → Covers load a
covers_in_file load a order e =
    let p = and_parts (leb load.address a) (ltb a (load.address + load.file_size)) e in
    (leb-true load.address a p.0, omega (arith, order, ltb-true a (load.address + load.file_size) p.1))

-- two load headers that have an address in common meet
common_meets : (load other : LoadHeader) (a : ℕ) → Covers load a → Covers other a → meets load other ≡ true
common_meets load other a x y =
    let some : eqb load.memory_size 0 ≡ false = ne_eqb load.memory_size 0 (λ e. omega (arith, x, e)) in
    let others : eqb other.memory_size 0 ≡ false = ne_eqb other.memory_size 0 (λ e. omega (arith, y, e)) in
    let low : ltb load.address (other.address + other.memory_size) ≡ true = lt-ltb load.address (other.address + other.memory_size) (omega (arith, x, y)) in
    let high : ltb other.address (load.address + load.memory_size) ≡ true = lt-ltb other.address (load.address + load.memory_size) (omega (arith, x, y)) in
    rw (some, others, low, high) refl

module _ (file : List ℕ) (loads : List LoadHeader) (all : AllPass file loads) where
  -- a load header and one before it have no address in common
  apart : (j k a : ℕ) → j < k → k < length loads → Covers (get_or loads j no_load) a → Covers (get_or loads k no_load) a → ⊥
  apart j k a before low x y =
      let load = get_or loads k no_load in
      let there : get_or (take k loads) j no_load ≡ get_or loads j no_load = get_or-take k loads j no_load before in
      let long : length (take k loads) ≡ k = length-take-le k loads (omega arith) in
      both_ways (list_any (meets load) (take k loads)) (all.at k low).apart
      (list_any_at (meets load) (take k loads) j no_load (omega (arith, long, before)) (rw there (common_meets load (get_or loads j no_load) a y x)))

  -- two load headers that have an address in common are at one place
  pub same_place : (j k a : ℕ) → j < length loads → k < length loads → Covers (get_or loads j no_load) a → Covers (get_or loads k no_load) a → j ≡ k
  same_place j k a low high x y =
      elim (cases_order j k) [
        | inl e ↦ e
        | inr (inl before) ↦ absurd (apart j k a before high x y)
        | inr (inr after) ↦ absurd (apart k j a after low y x)
      ]

  -- an address of the file bytes of one is one of its memory
  pub covers : (k a : ℕ) → k < length loads → in_file (get_or loads k no_load) a ≡ true → Covers (get_or loads k no_load) a
  covers k a low e = covers_in_file (get_or loads k no_load) a (all.at k low).order e

  -- the file bytes of a load header end below the top
  pub below_top : (k : ℕ) → k < length loads → ((get_or loads k no_load).file_size ≡ 0) ⊎ ((get_or loads k no_load).address + (get_or loads k no_load).file_size ≤ top)
  below_top k low =
      let order = (all.at k low).order in
      ⊎_elim (λ none. inl (omega (arith, order, none))) (λ below. inr (omega (arith, order, below))) (all.at k low).below

  -- no address from the top on is one of the memory
  pub none_above : (k a : ℕ) → k < length loads → top ≤ a → Covers (get_or loads k no_load) a → ⊥
  none_above k a low high x =
      ⊎_elim (λ none. omega (arith, x, none)) (λ below. omega (arith, x, high, below)) (all.at k low).below
