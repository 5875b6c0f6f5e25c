-- An ELF file loads one image.
use Rattle.std.proofs.Common.{◌≡◌, ◌⊎◌, inl, inr, ⊎_elim, ℕ, zero, suc, ◌+◌, List, [], ◌∷◌, refl, sym, subst, ◌∙◌, arith}
use Rattle.std.specs.Prelude.{Contains}
use Rattle.std.proofs.lemmas.Bool.{cases_lt}
use Rattle.page_core.specs.Images.{Image}
use Rattle.elf_image.specs.declared.headers.LoadHeader.{LoadHeader}
use Rattle.elf_image.specs.Headers.{loads_of}
use Rattle.elf_image.specs.Loaded.{Covers, Loads}

covers_or_not : (load : LoadHeader) (a : ℕ) → Covers load a ⊎ (Covers load a → ⊥)
covers_or_not load a =
    ⊎_elim (λ below. inr (λ c. omega (arith, below, c.0)))
    (λ from. ⊎_elim (λ within. inl (from, within)) (λ beyond. inr (λ c. omega (arith, beyond, c.1))) (cases_lt a (load.address + load.memory_size)))
    (cases_lt a load.address)

-- one of these load headers covers the address, or none does
abbrev Found : List LoadHeader → ℕ → Type 0
Found loads a = (load : LoadHeader) × Contains loads load × Covers load a

abbrev NotFound : List LoadHeader → ℕ → Type 0
NotFound loads a = (load : LoadHeader) → Contains loads load → Covers load a → ⊥

not_here : (first : LoadHeader) (loads : List LoadHeader) (a : ℕ) → (Covers first a → ⊥) → NotFound loads a → NotFound (first ∷ loads) a
not_here first loads a away none load (zero, low, is) covers = away (subst (λ (l : LoadHeader). Covers l a) (sym is) covers)
not_here first loads a away none load (suc k, low, is) covers = none load (k, omega (arith, low), is) covers

found_or_not : (loads : List LoadHeader) (a : ℕ) → Found loads a ⊎ NotFound loads a
found_or_not [] a = inr (λ load is covers. omega (arith, is.1))
found_or_not (first ∷ loads) a =
    ⊎_elim (λ covers. inl (first, (0, omega arith, refl), covers))
    (λ away.
    ⊎_elim (λ (found : Found loads a). let (load, (k, low, is), covers) = found in inl (load, (suc k, omega (arith, low), is), covers))
    (λ none. inr (not_here first loads a away none)) (found_or_not loads a))
    (covers_or_not first a)

pub one_image : (file : List ℕ) (x y : Image) → Loads file x → Loads file y → x ≡ y
one_image file x y left right = λ i. record { entry = same_entry i; memory = λ a. same_byte a i }
  where
    same_entry : x.entry ≡ y.entry
    same_entry = left.entry ∙ sym right.entry

    same_byte : (a : ℕ) → x.memory a ≡ y.memory a
    same_byte a =
        ⊎_elim (λ (found : Found (loads_of file) a). let (load, is, covers) = found in left.covered load a is covers ∙ sym (right.covered load a is covers))
        (λ none. left.rest a none ∙ sym (right.rest a none)) (found_or_not (loads_of file) a)
