-- Memory that is filled from load headers.
use Rattle.std.proofs.Common.{◌≡◌, inl, inr, ◌≢◌, ℕ, ◌+◌, ◌-◌, ◌%◌, ◌<◌, ◌≤◌, Bool, true, false, ◌&&◌, cond, leb, ltb, if◌then◌else◌, List, [], length, take, drop, get_or, None, refl, sym, ap, ◌∙◌, arith, subst, get_or-take, get_or-drop, length-drop}
use Rattle.std.specs.Prelude.{Contains}
use Rattle.std.proofs.lemmas.Bool.{and_parts, leb-true, ltb-true, cases_Bool, both_ways, false_from_ne_true}
use Rattle.std.proofs.lemmas.List.{length-take-le, get_or_default}
use Rattle.std.proofs.lemmas.List.Elements.{Contains-get_or, All-replicate}
use Rattle.page_core.specs.Memory.{top, put}
use Rattle.page_core.specs.Pages.{zero_page}
use Rattle.page_core.specs.Stored.{memory_of}
use Rattle.elf_image.specs.declared.headers.LoadHeader.{LoadHeader}
use Rattle.elf_image.specs.Headers.{entry_of, loads_of}
use Rattle.elf_image.specs.Loaded.{Covers, in_file, loaded_byte, Loads}
use Rattle.elf_image.specs.Tests.{elf_fault}
use Rattle.elf_image.proofs.Disjoint.{no_load, AllPass, covers, same_place, none_above}

-- a memory with the file bytes of a load header put over it
abbrev pub over : List ℕ → LoadHeader → (ℕ → ℕ) → ℕ → ℕ
over file load m a = if in_file load a then loaded_byte file load a else m a

-- two bytes under a test that are equal where it holds
same_choice : (b : Bool) (x y z : ℕ) → (b ≡ true → x ≡ y) → cond b x z ≡ cond b (cond b y 0) z
same_choice true x y z h = h refl
same_choice false x y z h = refl

-- where the bytes of a load header are put, the memory has those
put_over_bytes : (file bytes : List ℕ) (load : LoadHeader) (m : ℕ → ℕ) (a : ℕ) → length bytes ≡ load.file_size
    → ((k : ℕ) → k < load.file_size → get_or bytes k 0 ≡ get_or file (load.offset + k) 0) → put m load.address bytes a ≡ over file load m a
unfolding put
put_over_bytes file bytes load m a long same =
    ap (λ (n : ℕ). cond (leb load.address a && ltb a (load.address + n)) (get_or bytes (a - load.address) 0) (m a)) long
    ∙ same_choice (in_file load a) (get_or bytes (a - load.address) 0) (get_or file (load.offset + (a - load.address)) 0) (m a)
    (λ e. let p = and_parts (leb load.address a) (ltb a (load.address + load.file_size)) e in
    same (a - load.address) (omega (arith, leb-true load.address a p.0, ltb-true a (load.address + load.file_size) p.1)))

-- the same of a part that was cut from the file
pub put_over : (file : List ℕ) (load : LoadHeader) (m : ℕ → ℕ) (a : ℕ) → load.offset + load.file_size ≤ length file
    → put m load.address (take (load.offset + load.file_size - load.offset) (drop load.offset file)) a ≡ over file load m a
put_over file load m a within =
    let size : load.offset + load.file_size - load.offset ≡ load.file_size = omega arith in
    let rest = drop load.offset file in
    let fits : load.offset + load.file_size - load.offset ≤ length rest = omega (arith, length-drop load.offset file, within) in
    put_over_bytes file (take (load.offset + load.file_size - load.offset) rest) load m a
    (length-take-le (load.offset + load.file_size - load.offset) rest fits ∙ size)
    (λ k low. get_or-take (load.offset + load.file_size - load.offset) rest k 0 (omega (arith, low, size)) ∙ get_or-drop load.offset file k 0)

-- the memory has the file bytes of the first n load headers, and is zero elsewhere
pub record Filled (file : List ℕ) (loads : List LoadHeader) (n : ℕ) (m : ℕ → ℕ) : Type 0 where
  pub at : (k a : ℕ) → k < n → in_file (get_or loads k no_load) a ≡ true → m a ≡ loaded_byte file (get_or loads k no_load) a
  pub zeros : (a : ℕ) → ((k : ℕ) → k < n → in_file (get_or loads k no_load) a ≡ false) → m a ≡ 0

-- a memory with no stored page is zero
pub zero_at_first : (a : ℕ) → memory_of [] a ≡ 0
unfolding zero_page
zero_at_first a = All-replicate (λ byte. byte ≡ 0) 1024 0 refl (a % 1024) 0 (omega arith)

-- at first it is zero
pub filled_none : (file : List ℕ) (loads : List LoadHeader) (m : ℕ → ℕ) → ((a : ℕ) → m a ≡ 0) → Filled file loads 0 m
filled_none file loads m zero_at = record { at = λ k a low e. absurd (omega (arith, low)); zeros = λ a none. zero_at a }

module _ (file : List ℕ) (loads : List LoadHeader) (all : AllPass file loads) where
  -- a further load header
  pub filled_more : (n : ℕ) (m m' : ℕ → ℕ) → n < length loads → Filled file loads n m → ((a : ℕ) → m' a ≡ over file (get_or loads n no_load) m a) → Filled file loads (n + 1) m'
  filled_more n m m' low filled step = record { at = at_each; zeros = λ a none. step a ∙ rw (none n (omega arith)) (filled.zeros a (λ k before. none k (omega (arith, before)))) }
    where
      at_each : (k a : ℕ) → k < n + 1 → in_file (get_or loads k no_load) a ≡ true → m' a ≡ loaded_byte file (get_or loads k no_load) a
      at_each k a before e =
          elim (cases_Bool (in_file (get_or loads n no_load) a)) [
            | inl here ↦
                let is : k ≡ n =
                same_place file loads all k n a (omega (arith, before, low)) low (covers file loads all k a (omega (arith, before, low)) e)
                (covers file loads all n a low here) in
                step a ∙ rw (is, here) refl
            | inr away ↦
                let other : k ≢ n = λ is. both_ways (in_file (get_or loads n no_load) a) away (subst (λ (i : ℕ). in_file (get_or loads i no_load) a ≡ true) is e) in
                step a ∙ rw away (filled.at k a (omega (arith, before, other)) e)
          ]

  module _ (n : ℕ) (m : ℕ → ℕ) (whole : n ≡ length loads) (filled : Filled file loads n m) where
    -- an address without file bytes is zero
    zero_where_none : (a : ℕ) → ((k : ℕ) → k < length loads → in_file (get_or loads k no_load) a ≡ true → ⊥) → m a ≡ 0
    zero_where_none a none = filled.zeros a (λ k before. false_from_ne_true (in_file (get_or loads k no_load) a) (none k (omega (arith, before, whole))))

    -- so is one from the top on
    pub zero_above : (a : ℕ) → top ≤ a → m a ≡ 0
    zero_above a high = zero_where_none a (λ k low e. none_above file loads all k a low high (covers file loads all k a low e))

    -- an address of a load header has its byte
    covered_at : (k a : ℕ) → k < length loads → Covers (get_or loads k no_load) a → m a ≡ loaded_byte file (get_or loads k no_load) a
    covered_at k a low x =
        elim (cases_Bool (in_file (get_or loads k no_load) a)) [
          | inl here ↦ filled.at k a (omega (arith, low, whole)) here
          | inr away ↦
              zero_where_none a (λ j before e. both_ways (in_file (get_or loads k no_load) a) away
              (subst (λ (i : ℕ). in_file (get_or loads i no_load) a ≡ true) (same_place file loads all j k a before low (covers file loads all j a before e) x) e))
              ∙ rw away refl
        ]

    -- the same of any load header of the list
    covered : (load : LoadHeader) (a : ℕ) → Contains loads load → Covers load a → m a ≡ loaded_byte file load a
    covered load a (k, low, is) x =
        let there : get_or loads k no_load ≡ load = get_or_default loads k no_load load low ∙ is in
        subst (λ (l : LoadHeader). m a ≡ loaded_byte file l a) there (covered_at k a low (subst (λ (l : LoadHeader). Covers l a) (sym there) x))

    -- an address of no load header is zero
    rest : (a : ℕ) → ((load : LoadHeader) → Contains loads load → Covers load a → ⊥) → m a ≡ 0
    rest a none = zero_where_none a (λ k low e. none (get_or loads k no_load) (Contains-get_or loads k no_load low) (covers file loads all k a low e))

    -- the file is loaded
    pub loads_file : (entry : ℕ) → loads ≡ loads_of file → elf_fault file ≡ None → entry ≡ entry_of file → Loads file (record { entry = entry; memory = m })
    loads_file entry are passes is = record {
      passes = passes;
      entry = is;
      covered = λ load a there x. covered load a (subst (λ (l : List LoadHeader). Contains l load) (sym are) there) x;
      rest = λ a none. rest a (λ load there x. none load (subst (λ (l : List LoadHeader). Contains l load) are there) x);
    }
