-- Where a loaded image begins.
use Rattle.std.proofs.Common.{◌≡◌, ℕ, ◌%◌, ◌<◌, ◌++◌, ◌&&◌, List, [], ◌∷◌, None, ltb, ap, ◌∙◌, arith}
use Rattle.std.specs.Prelude.{◌==◌}
use Rattle.std.proofs.lemmas.Bool.{and_parts, eqb-true, ltb-true}
use Rattle.page_core.specs.Memory.{top}
use Rattle.page_core.specs.Images.{Image}
use Rattle.elf_image.specs.Headers.{entry_of, loads_of}
use Rattle.elf_image.specs.Loaded.{Loads}
use Rattle.elf_image.specs.declared.stop.ElfStop.TheVariants.{Entry}
use Rattle.elf_image.specs.Tests.{Test, test, header_tests, all_load_tests, entry_test, first_fault, elf_fault}
use Rattle.elf_image.proofs.Faults.{first_passes}

-- where no test fails, none of the last ones does
passed_right : (xs ys : List Test) → first_fault (xs ++ ys) ≡ None → first_fault ys ≡ None
passed_right [] ys h = h
passed_right (t ∷ xs) ys h = passed_right xs ys (first_passes t (xs ++ ys) h).1

entry_fits : (file : List ℕ) → elf_fault file ≡ None → (entry_of file % 4 ≡ 0) × (entry_of file < top)
entry_fits file h =
    let last = passed_right (all_load_tests file [] (loads_of file)) (entry_test file)
    (passed_right (header_tests file) (all_load_tests file [] (loads_of file) ++ entry_test file) h) in
    let parts = and_parts (entry_of file % 4 == 0) (ltb (entry_of file) top) (first_passes (test (entry_of file % 4 == 0 && ltb (entry_of file) top) Entry) [] last).0 in
    (eqb-true (entry_of file % 4) 0 parts.0, ltb-true (entry_of file) top parts.1)

pub loaded_aligned : (file : List ℕ) (image : Image) → Loads file image → image.entry % 4 ≡ 0
loaded_aligned file image loads = ap (λ (n : ℕ). n % 4) loads.entry ∙ (entry_fits file loads.passes).0

pub loaded_below : (file : List ℕ) (image : Image) → Loads file image → image.entry < top
loaded_below file image loads = let same = loads.entry in let below = (entry_fits file loads.passes).1 in omega (arith, same, below)
