-- The limits of a receipt, version 1: the rules on the values of its fields.
use Rattle.std.specs.Prelude.{◌≡◌, ℕ, ◌+◌, ◌%◌, ◌^◌, ◌<◌, ◌≤◌, List, [], ◌∷◌, length, All}
use Rattle.part_tree.specs.Canonical.{IsCanonical}
use Rattle.receipt_types.specs.Seals.{Seal}
use Rattle.receipt_types.specs.Bundles.{Entry, Bundle}
use Rattle.receipt_types.specs.declared.sizes.TheConstants.{MOST_ENTRIES, MOST_LINKS, MOST_SEALS, MOST_STEPS, MOST_WORDS}

-- the numbers of a seal: an aligned pc, 1 to 16,777,216 steps, and at most 16,777,216 words
pub record NumberLimits (pc steps words : ℕ) : Type 0 where
  pub aligned : pc % 4 ≡ 0
  pub is_word : pc < 2 ^ 32
  pub some_steps : 0 < steps
  pub few_steps : steps ≤ MOST_STEPS
  pub few_words : words ≤ MOST_WORDS

-- these numbers, words below 2 ^ 32, and a tree of canonical form
pub record SealLimits (seal : Seal) : Type 0 where
  pub numbers : NumberLimits seal.pc seal.steps (length seal.words)
  pub are_words : All (λ word. word < 2 ^ 32) seal.words
  pub tree : IsCanonical seal.tree

abbrev pub AllSealLimits : List Seal → Type 0
AllSealLimits [] = Unit {0}
AllSealLimits (seal ∷ seals) = SealLimits seal × AllSealLimits seals

-- entry e of n: at most 16,777,216 links, each to a later entry, and 1 to 65,535 seals
pub record EntryLimits (e n : ℕ) (entry : Entry) : Type 0 where
  pub few_links : length entry.links ≤ MOST_LINKS
  pub links : All (λ link. (e < link) × (link < n)) entry.links
  pub some_seals : 0 < length entry.seals
  pub few_seals : length entry.seals ≤ MOST_SEALS
  pub seals : AllSealLimits entry.seals

-- the entries from entry e of n on
abbrev pub AllEntryLimits : ℕ → ℕ → List Entry → Type 0
AllEntryLimits e n [] = Unit {0}
AllEntryLimits e n (entry ∷ entries) = EntryLimits e n entry × AllEntryLimits (e + 1) n entries

-- 1 to 256 entries
pub record KeepsLimits (B : Bundle) : Type 0 where
  pub some_entries : 0 < length B
  pub few_entries : length B ≤ MOST_ENTRIES
  pub entries : AllEntryLimits 0 (length B) B
