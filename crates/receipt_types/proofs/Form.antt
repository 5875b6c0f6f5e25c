-- The limits give the form of seals, entries and bundles.
use Rattle.std.proofs.Common.{◌≢◌, ℕ, ◌+◌, ◌<◌, List, [], ◌∷◌, length, arith}
use Rattle.receipt_types.specs.Seals.{Seal, IsSeal}
use Rattle.receipt_types.specs.Bundles.{Entry, AreSeals, AreEntries}
use Rattle.receipt_types.specs.Limits.{SealLimits, AllSealLimits, AllEntryLimits}
use Rattle.receipt_types.specs.Laws.{LimitsGiveForm}

pub seal_form : (seal : Seal) → SealLimits seal → IsSeal seal
seal_form seal l = record { aligned = l.numbers.aligned; is_word = l.numbers.is_word; some_steps = l.numbers.some_steps; shape = l.tree.shape }

seals_form : (seals : List Seal) → AllSealLimits seals → AreSeals seals
seals_form [] l = tt
seals_form (seal ∷ seals) l = (seal_form seal l.0, seals_form seals l.1)

some_items : {A : Type 0} (xs : List A) → 0 < length xs → xs ≢ []
some_items [] l e = omega arith
some_items (x ∷ xs) l e = absurd (cc)

entries_form : (e n : ℕ) (entries : List Entry) → AllEntryLimits e n entries → AreEntries entries
entries_form e n [] l = tt
entries_form e n (entry ∷ entries) l =
    (record { some_seals = some_items entry.seals l.0.some_seals; seals = seals_form entry.seals l.0.seals }, entries_form (e + 1) n entries l.1)

pub limits_give_form : LimitsGiveForm
limits_give_form B l = record { some_entries = some_items B l.some_entries; entries = entries_form 0 (length B) B l.entries }
