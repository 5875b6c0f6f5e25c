-- Bundles of entries.
use Rattle.std.specs.Prelude.{◌≢◌, ℕ, zero, suc, List, [], ◌∷◌, Option, Some, None}
use Rattle.std.specs.Coded.{Coded, code_by, coded×, coded_ℕ, coded_list}
use Rattle.std.proofs.Common.{refl}
use Rattle.receipt_types.specs.Seals.{Seal, IsSeal, seal_code}

-- a chain of seals, and for each of its calls the number of an entry
pub record Entry : Type 0 where
  pub links : List ℕ
  pub seals : List Seal

-- an entry is stored as its fields
abbrev pub entry_code : Coded Entry
entry_code =
    code_by (List ℕ × List Seal) (coded× (coded_list coded_ℕ) (coded_list seal_code))
    (λ e. (e.links, e.seals))
    (λ p. record { links = p.0; seals = p.1 })
    (λ _. refl)

-- a receipt, its entries numbered from 0
abbrev pub Bundle : Type 0
Bundle = List Entry

-- the item at a place, if there is one
abbrev pub item : {A : Type 0} → List A → ℕ → Option A
item [] n = None
item (x ∷ xs) zero = Some x
item (x ∷ xs) (suc n) = item xs n

abbrev pub AreSeals : List Seal → Type 0
AreSeals [] = Unit {0}
AreSeals (seal ∷ seals) = IsSeal seal × AreSeals seals

-- an entry as the format has it: at least one seal
pub record IsEntry (entry : Entry) : Type 0 where
  pub some_seals : entry.seals ≢ []
  pub seals : AreSeals entry.seals

abbrev pub AreEntries : List Entry → Type 0
AreEntries [] = Unit {0}
AreEntries (entry ∷ entries) = IsEntry entry × AreEntries entries

-- a bundle as the format has it: at least one entry
pub record IsBundle (B : Bundle) : Type 0 where
  pub some_entries : B ≢ []
  pub entries : AreEntries B
