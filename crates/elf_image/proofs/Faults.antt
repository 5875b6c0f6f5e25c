-- The first fault of tests that stand one after the other, and that of a file.
use Rattle.std.proofs.Common.{◌≡◌, ◌⊎◌, inl, inr, ℕ, zero, suc, ◌%◌, ◌<◌, ◌≤◌, Bool, true, false, ◌&&◌, ltb, if◌then◌else◌, List, [], ◌∷◌, ◌++◌, length, Option, Some, None, refl, sym, ap, ◌∙◌, arith, take, get_or, subst, append-nil, append_assoc}
use Rattle.std.specs.Prelude.{◌==◌}
use Rattle.std.proofs.lemmas.Bool.{eq-eqb, ne_eqb, lt-ltb, le-ltb}
use Rattle.page_core.specs.Memory.{top}
use Rattle.elf_image.specs.declared.headers.LoadHeader.{LoadHeader}
use Rattle.elf_image.specs.declared.stop.ElfStop.{ElfStop}
use Rattle.elf_image.specs.declared.stop.ElfStop.TheVariants.{Entry}
use Rattle.elf_image.specs.Headers.{entry_of, loads_of}
use Rattle.elf_image.specs.Tests.{Test, header_tests, load_tests, all_load_tests, entry_test, first_fault, elf_fault}
use Rattle.elf_image.proofs.Tested.{fault_after, fault_within}

-- ---- tests that stand one after the other
-- where no test fails, the first passes and none of the others fails
pub first_passes : (t : Test) (ts : List Test) → first_fault (t ∷ ts) ≡ None → (t.passes ≡ true) × (first_fault ts ≡ None)
first_passes t ts h = go t.passes refl
  where
    go : (b : Bool) → t.passes ≡ b → (t.passes ≡ true) × (first_fault ts ≡ None)
    go true e = (e, rw e at h)
    go false e = let f = rw e at h in absurd (cc)

-- where no test fails, none of the first ones does
passed_left : (xs ys : List Test) → first_fault (xs ++ ys) ≡ None → first_fault xs ≡ None
passed_left [] ys h = refl
passed_left (t ∷ xs) ys h =
    let p = first_passes t (xs ++ ys) h in
    rw p.0 (passed_left xs ys p.1)

-- where the tests of load headers pass, each one passes its tests after those before it
pub passes_at : (file : List ℕ) (other : LoadHeader) (earlier loads : List LoadHeader) → first_fault (all_load_tests file earlier loads) ≡ None
    → (k : ℕ) → k < length loads → first_fault (load_tests file (earlier ++ take k loads) (get_or loads k other)) ≡ None
unfolding all_load_tests
passes_at file other earlier [] h k low = absurd (omega arith)
passes_at file other earlier (load ∷ loads) h zero low =
    subst (λ (e : List LoadHeader). first_fault (load_tests file e load) ≡ None) (sym (append-nil earlier))
    (passed_left (load_tests file earlier load) (all_load_tests file (earlier ++ (load ∷ [])) loads) h)
passes_at file other earlier (load ∷ loads) h (suc k) low =
    let first = passed_left (load_tests file earlier load) (all_load_tests file (earlier ++ (load ∷ [])) loads) h in
    let rest = sym (fault_after (load_tests file earlier load) (all_load_tests file (earlier ++ (load ∷ [])) loads) first) ∙ h in
    subst (λ (e : List LoadHeader). first_fault (load_tests file e (get_or loads k other)) ≡ None) (append_assoc earlier (load ∷ []) (take k loads))
    (passes_at file other (earlier ++ (load ∷ [])) loads rest k (omega arith))

-- ---- the test of an entry
-- the fault of an entry
abbrev entry_at : ℕ → Option ElfStop
entry_at entry = if entry % 4 == 0 && ltb entry top then None else Some Entry

-- an entry that is no multiple of 4, or too high, is one
entry_stops : (entry : ℕ) → ((entry % 4 ≡ 0 → ⊥) ⊎ ((entry % 4 ≡ 0) × (top ≤ entry))) → entry_at entry ≡ Some Entry
entry_stops entry (inl odd) = rw (ne_eqb (entry % 4) 0 odd) refl
entry_stops entry (inr high) = rw (le-ltb entry top high.1, eq-eqb (entry % 4) 0 high.0) refl

-- and any other isn't
entry_passes : (entry : ℕ) → entry % 4 ≡ 0 → entry < top → entry_at entry ≡ None
entry_passes entry aligned below = rw (lt-ltb entry top below, eq-eqb (entry % 4) 0 aligned) refl

-- ---- the tests of a file
module _ (file : List ℕ) where
  -- a fault of the file's header is the file's
  pub header_fault : (stop : ElfStop) → first_fault (header_tests file) ≡ Some stop → elf_fault file ≡ Some stop
  header_fault stop h = fault_within (header_tests file) (all_load_tests file [] (loads_of file) ++ entry_test file) stop h

  module _ (passes : first_fault (header_tests file) ≡ None) where
    -- so is a fault of the load headers where the file's header passes
    pub load_fault : (stop : ElfStop) → first_fault (all_load_tests file [] (loads_of file)) ≡ Some stop → elf_fault file ≡ Some stop
    load_fault stop h =
        fault_after (header_tests file) (all_load_tests file [] (loads_of file) ++ entry_test file) passes
        ∙ fault_within (all_load_tests file [] (loads_of file)) (entry_test file) stop h

    module _ (loads : first_fault (all_load_tests file [] (loads_of file)) ≡ None) (entry : ℕ) (is : entry ≡ entry_of file) where
      -- where the load headers pass too, the entry is left
      at_entry : elf_fault file ≡ first_fault (entry_test file)
      at_entry =
          fault_after (header_tests file) (all_load_tests file [] (loads_of file) ++ entry_test file) passes
          ∙ fault_after (all_load_tests file [] (loads_of file)) (entry_test file) loads

      -- a wrong entry is the fault
      pub entry_fault : ((entry % 4 ≡ 0 → ⊥) ⊎ ((entry % 4 ≡ 0) × (top ≤ entry))) → elf_fault file ≡ Some Entry
      entry_fault wrong = at_entry ∙ ap entry_at (sym is) ∙ entry_stops entry wrong

      -- and else there is none
      pub no_fault : entry % 4 ≡ 0 → entry < top → elf_fault file ≡ None
      no_fault aligned below = at_entry ∙ ap entry_at (sym is) ∙ entry_passes entry aligned below
