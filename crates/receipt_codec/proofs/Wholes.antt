-- What some bytes say of a bundle that they spell.
use Rattle.std.proofs.Common.{◌≡◌, ℕ, ◌+◌, ◌^◌, ◌<◌, ◌≤◌, List, [], ◌∷◌, ◌++◌, length, get_or, refl, sym, ap, ap₂, subst, ◌∙◌, append-nil, arith}
use Rattle.std.specs.Prelude.{codes}
use Rattle.std.specs.Int.{w16, to_le_bytes}
use Rattle.std.specs.List.{flat_map}
use Rattle.part_tree.proofs.Strings.{halves}
use Rattle.receipt_types.specs.Bundles.{Entry, Bundle}
use Rattle.receipt_types.specs.Limits.{EntryLimits, AllEntryLimits, KeepsLimits}
use Rattle.receipt_types.specs.Spelling.{entry_bytes, bundle_bytes, Spells}
use Rattle.receipt_codec.specs.Reading.{NoneSpelled, OneSpelled}
use Rattle.receipt_codec.proofs.Items.{FitFrom, one_list, no_list}
use Rattle.receipt_codec.proofs.Entries.{one_half, one_entry, entry_fits}

-- what stands before the entries, so many of them
abbrev pub front : ℕ → List ℕ
front count = codes "SEAL" ++ to_le_bytes w16 1 ++ to_le_bytes w16 count

-- four bytes, one by one
pub four_bytes : (bytes : List ℕ) (a b c d : ℕ) → length bytes ≡ 4 → get_or bytes 0 0 ≡ a → get_or bytes 1 0 ≡ b → get_or bytes 2 0 ≡ c → get_or bytes 3 0 ≡ d → bytes ≡ a ∷ b ∷ c ∷ d ∷ []
four_bytes (x ∷ y ∷ z ∷ w ∷ []) a b c d long p q r s = ap₂ ◌∷◌ p (ap₂ ◌∷◌ q (ap₂ ◌∷◌ r (ap (λ (n : ℕ). n ∷ []) s)))
four_bytes (x ∷ y ∷ z ∷ w ∷ v ∷ rest) a b c d long p q r s = absurd (omega arith)
four_bytes (x ∷ y ∷ z ∷ []) a b c d long p q r s = absurd (omega arith)
four_bytes (x ∷ y ∷ []) a b c d long p q r s = absurd (omega arith)
four_bytes (x ∷ []) a b c d long p q r s = absurd (omega arith)
four_bytes [] a b c d long p q r s = absurd (omega arith)

-- bytes that begin with "SEAL", version 1 and a number
pub begins_so : (bytes word first second ahead : List ℕ) (version count : ℕ) → bytes ≡ word ++ first → length word ≡ 4 → get_or word 0 0 ≡ 83 → get_or word 1 0 ≡ 69 → get_or word 2 0 ≡ 65
    → get_or word 3 0 ≡ 76 → first ≡ to_le_bytes w16 version ++ second → version ≡ 1 → second ≡ to_le_bytes w16 count ++ ahead → bytes ≡ front count ++ ahead
begins_so bytes word first second ahead version count spelled long p q r s next is_one last =
    spelled
    ∙ ap (λ (z : List ℕ). z ++ first) (four_bytes word 83 69 65 76 long p q r s)
    ∙ ap (λ (z : List ℕ). codes "SEAL" ++ z) (next ∙ ap (λ (n : ℕ). to_le_bytes w16 n ++ second) is_one)
    ∙ ap (λ (z : List ℕ). codes "SEAL" ++ (to_le_bytes w16 1 ++ z)) last

-- entry at of n
abbrev pub IsEntryOf : ℕ → ℕ → Entry → Type 0
IsEntryOf n at = EntryLimits at n

-- the number of entries is that which stands in front, and then come the entries
pub bundle_parts : (count : ℕ) (ahead : List ℕ) (B : Bundle) (rest : List ℕ) → count < 2 ^ 16 → length B < 2 ^ 16 → front count ++ ahead ≡ bundle_bytes B ++ rest
    → (count ≡ length B) × (ahead ≡ flat_map entry_bytes B ++ rest)
bundle_parts count ahead B rest p q same =
    let version : List ℕ = codes "SEAL" ++ to_le_bytes w16 1 in
    let both = halves version (to_le_bytes w16 count ++ ahead) version (to_le_bytes w16 (length B) ++ (flat_map entry_bytes B ++ rest)) refl same in
    one_half count (length B) ahead (flat_map entry_bytes B ++ rest) p q both.1

-- the entries of a bundle of so many
pub bundle_fits : (n : ℕ) (B : Bundle) → n ≡ length B → KeepsLimits B → FitFrom (IsEntryOf n) 0 B
bundle_fits n B long keep = subst (λ (m : ℕ). FitFrom (IsEntryOf m) 0 B) (sym long) (entry_fits 0 (length B) B keep.entries)

-- no bytes at all
pub no_bytes : (bytes : List ℕ) → length bytes ≡ 0 → bytes ≡ []
no_bytes [] e = refl
no_bytes (x ∷ xs) e = absurd (omega arith)

-- a bundle's bytes are not the beginning of another's
pub one_bundle : OneSpelled bundle_bytes KeepsLimits
one_bundle B C x y p q same =
    let few : length B ≤ 2 ^ 16 = omega (arith, p.few_entries) in
    let parts = bundle_parts (length B) (flat_map entry_bytes B ++ x) C y (omega (arith, p.few_entries)) (omega (arith, q.few_entries)) same in
    one_list entry_bytes (IsEntryOf (length B)) (λ at. one_entry at (length B) few) 0 B C x y parts.0 (bundle_fits (length B) B refl p) (bundle_fits (length B) C parts.0 q) parts.1

module _ (count : ℕ) (entries : List Entry) (bytes ahead after : List ℕ) (few : count ≤ 256) (begins : bytes ≡ front count ++ ahead) (keep : AllEntryLimits 0 count entries)
    (spelled : ahead ≡ flat_map entry_bytes entries ++ after) where
  -- the bytes are those of a bundle: so many entries, and these begin with those that are there
  parts : (B : Bundle) → Spells B bytes → (count ≡ length B) × (flat_map entry_bytes entries ++ after ≡ flat_map entry_bytes B ++ [])
  parts B whole =
      let both = bundle_parts count ahead B [] (omega (arith, few)) (omega (arith, whole.limits.few_entries)) (sym begins ∙ whole.is ∙ sym (append-nil (bundle_bytes B))) in
      (both.0, sym spelled ∙ both.1)

  one_of : (at : ℕ) → OneSpelled entry_bytes (IsEntryOf count at)
  one_of at = one_entry at count (omega (arith, few))

  -- the entries so far, and then nothing that spells the next
  pub no_next_entry : (number : ℕ) → length entries ≡ number → number < count → NoneSpelled entry_bytes (EntryLimits number count) after → (B : Bundle) → Spells B bytes → ⊥
  no_next_entry number long lt none B whole =
      let both = parts B whole in
      let at : number ≡ 0 + length entries = omega (arith, long) in
      no_list entry_bytes (IsEntryOf count) one_of 0 entries B after [] (omega (arith, both.0, long, lt)) (entry_fits 0 count entries keep) (bundle_fits count B both.0 whole.limits)
      (subst (λ (n : ℕ). NoneSpelled entry_bytes (EntryLimits n count) after) at none) both.1

  -- all entries, and more after them
  pub more_than_bundle : length entries ≡ count → 0 < length after → (B : Bundle) → Spells B bytes → ⊥
  more_than_bundle long more B whole =
      let both = parts B whole in
      let same = one_list entry_bytes (IsEntryOf count) one_of 0 entries B after [] (long ∙ both.0) (entry_fits 0 count entries keep) (bundle_fits count B both.0 whole.limits) both.1 in
      omega (arith, ap length same.1, more)

  -- all entries, and nothing after them
  pub is_bundle : length entries ≡ count → 0 < count → length after ≡ 0 → Spells entries bytes
  is_bundle long some ends = record {
    limits = record {
      some_entries = omega (arith, long, some);
      few_entries = omega (arith, long, few);
      entries = subst (λ (n : ℕ). AllEntryLimits 0 n entries) (sym long) keep;
    };
    is =
        begins
        ∙ ap (λ (z : List ℕ). front count ++ z) (spelled ∙ ap (λ (z : List ℕ). flat_map entry_bytes entries ++ z) (no_bytes after ends) ∙ append-nil (flat_map entry_bytes entries))
        ∙ ap (λ (n : ℕ). front n ++ flat_map entry_bytes entries) (sym long);
  }
