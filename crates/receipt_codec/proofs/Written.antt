-- What stands in an output after some parts were written.
use Rattle.std.proofs.Common.{◌≡◌, ℕ, zero, suc, ◌+◌, ◌<◌, ◌≤◌, List, [], ◌∷◌, ◌++◌, length, map, take, drop, get_or, sym, ap, subst, ◌∙◌, append_assoc, arith}
use Rattle.std.specs.Int.{w16, w32, to_le_bytes}
use Rattle.std.specs.List.{flat_map}
use Rattle.std.proofs.Math.Seq.{take-append_seam, take-append-add}
use Rattle.std.proofs.lemmas.Grind.{flat_map-append}
use Rattle.std.proofs.lemmas.List.{take_more, take_all, take-append-drop, flat_map_more}
use Rattle.std.proofs.lemmas.List.Folds.{flat_map-map}
use Rattle.receipt_types.specs.Seals.{Seal}
use Rattle.receipt_types.specs.Bundles.{Entry, Bundle}
use Rattle.receipt_types.specs.Limits.{SealLimits, AllSealLimits, EntryLimits, AllEntryLimits, KeepsLimits}
use Rattle.receipt_types.specs.Spelling.{tree_bytes, seal_bytes, entry_bytes}
use Rattle.receipt_codec.specs.Reading.{AppendsFrontOf}
use Rattle.receipt_codec.specs.Fields.{fields_bytes}
use Rattle.receipt_codec.proofs.Seals.{fields_of}

-- ---- a front of some bytes

-- the first part is a front of both
pub front_first : (xs ys old new : List ℕ) → new ≡ old ++ xs → AppendsFrontOf (xs ++ ys) old new
front_first xs ys old new e = (length xs, e ∙ ap (λ (z : List ℕ). old ++ z) (sym (take-append_seam xs ys)))

-- a front of the first part is one of both
pub front_within : (xs ys old new : List ℕ) → AppendsFrontOf xs old new → AppendsFrontOf (xs ++ ys) old new
front_within xs ys old new front =
    let k = front.0 in
    let parts : take k xs ++ (drop k xs ++ ys) ≡ xs ++ ys = sym (append_assoc (take k xs) (drop k xs) ys) ∙ ap (λ (z : List ℕ). z ++ ys) (take-append-drop k xs) in
    subst (λ (z : List ℕ). AppendsFrontOf z old new) parts (front_first (take k xs) (drop k xs ++ ys) old new front.1)

-- after the first part, a front of the second is one of both
pub front_second : (xs ys old middle new : List ℕ) → middle ≡ old ++ xs → AppendsFrontOf ys middle new → AppendsFrontOf (xs ++ ys) old new
front_second xs ys old middle new e front = (
  length xs + front.0,
  front.1 ∙ ap (λ (z : List ℕ). z ++ take front.0 ys) e ∙ append_assoc old xs (take front.0 ys) ∙ ap (λ (z : List ℕ). old ++ z) (sym (take-append-add xs ys front.0)),
)

-- ---- parts one after the other

-- two parts
pub both_written : (xs ys old middle new : List ℕ) → middle ≡ old ++ xs → new ≡ middle ++ ys → new ≡ old ++ (xs ++ ys)
both_written xs ys old middle new first second = second ∙ ap (λ (z : List ℕ). z ++ ys) first ∙ append_assoc old xs ys

-- one more item
pub item_written : {A : Type 0} (spelling : A → List ℕ) (items : List A) (i : ℕ) (d : A) (old middle new : List ℕ) → i < length items
    → middle ≡ old ++ flat_map spelling (take i items) → new ≡ middle ++ spelling (get_or items i d) → new ≡ old ++ flat_map spelling (take (i + 1) items)
item_written spelling items i d old middle new lt before now =
    now ∙ ap (λ (z : List ℕ). z ++ spelling (get_or items i d)) before ∙ flat_map_more spelling old (take i items) (get_or items i d)
    ∙ ap (λ z. old ++ flat_map spelling z) (sym (take_more items i d lt))

-- the bytes of the first items, and of the others
pub items_split : {A : Type 0} (spelling : A → List ℕ) (items : List A) (i : ℕ)
    → flat_map spelling items ≡ flat_map spelling (take i items) ++ flat_map spelling (drop i items)
items_split spelling items i = ap (flat_map spelling) (sym (take-append-drop i items)) ∙ flat_map-append spelling (take i items) (drop i items)

-- all items, once no more are left
pub items_written : {A : Type 0} (spelling : A → List ℕ) (items : List A) (i : ℕ) (old new : List ℕ) → length items ≤ i
    → new ≡ old ++ flat_map spelling (take i items) → new ≡ old ++ flat_map spelling items
items_written spelling items i old new none_left written = written ∙ ap (λ z. old ++ flat_map spelling z) (take_all i items none_left)

-- ---- seals

-- the numbers of a seal, one after the other
pub fields_written : (seal : Seal) (old first second third : List ℕ) → first ≡ old ++ to_le_bytes w32 seal.pc → second ≡ first ++ to_le_bytes w32 seal.steps
    → third ≡ second ++ to_le_bytes w32 (length seal.words) → third ≡ old ++ fields_bytes (fields_of seal)
fields_written seal old first second third pc steps count =
    let two = both_written (to_le_bytes w32 seal.pc) (to_le_bytes w32 seal.steps) old first second pc steps in
    both_written (to_le_bytes w32 seal.pc ++ to_le_bytes w32 seal.steps) (to_le_bytes w32 (length seal.words)) old second third two count

-- some words of a seal after its numbers
pub words_front : (seal : Seal) (words : List ℕ) (i : ℕ) (old middle new : List ℕ) → words ≡ seal.words → middle ≡ old ++ fields_bytes (fields_of seal)
    → new ≡ middle ++ flat_map (to_le_bytes w32) (take i words) → AppendsFrontOf (seal_bytes seal) old new
words_front seal words i old middle new same fields written =
    let first : List ℕ = flat_map (to_le_bytes w32) (take i words) in
    let others : List ℕ = flat_map (to_le_bytes w32) (drop i words) in
    let all : (first ++ others) ++ tree_bytes seal.tree ≡ flat_map (to_le_bytes w32) seal.words ++ tree_bytes seal.tree =
    ap (λ (z : List ℕ). z ++ tree_bytes seal.tree) (sym (items_split (to_le_bytes w32) words i) ∙ ap (flat_map (to_le_bytes w32)) same) in
    let parts = sym (append_assoc first others (tree_bytes seal.tree)) ∙ all in
    let front = front_first first (others ++ tree_bytes seal.tree) middle new written in
    front_second (fields_bytes (fields_of seal)) (flat_map (to_le_bytes w32) seal.words ++ tree_bytes seal.tree) old middle new fields
    (subst (λ (z : List ℕ). AppendsFrontOf z middle new) parts front)

-- a seal's numbers, its words and its tree
pub seal_written : (seal : Seal) (old middle last new : List ℕ) → middle ≡ old ++ fields_bytes (fields_of seal) → last ≡ middle ++ flat_map (to_le_bytes w32) seal.words
    → new ≡ last ++ tree_bytes seal.tree → new ≡ old ++ seal_bytes seal
seal_written seal old middle last new fields words tree =
    let words_bytes : List ℕ = flat_map (to_le_bytes w32) seal.words in
    both_written (fields_bytes (fields_of seal)) (words_bytes ++ tree_bytes seal.tree) old middle new fields (both_written words_bytes (tree_bytes seal.tree) middle last new words tree)

-- and a front of its tree
pub tree_front : (seal : Seal) (old middle last new : List ℕ) → middle ≡ old ++ fields_bytes (fields_of seal) → last ≡ middle ++ flat_map (to_le_bytes w32) seal.words
    → AppendsFrontOf (tree_bytes seal.tree) last new → AppendsFrontOf (seal_bytes seal) old new
tree_front seal old middle last new fields words tree =
    let words_bytes : List ℕ = flat_map (to_le_bytes w32) seal.words in
    front_second (fields_bytes (fields_of seal)) (words_bytes ++ tree_bytes seal.tree) old middle new fields (front_second words_bytes (tree_bytes seal.tree) middle last new words tree)

-- ---- entries

-- the numbers of an entry, its links and its seals
pub entry_written : (entry : Entry) (old first second middle new : List ℕ) → first ≡ old ++ to_le_bytes w32 (length entry.links) → second ≡ first ++ to_le_bytes w32 (length entry.seals)
    → middle ≡ second ++ flat_map (to_le_bytes w16) entry.links → new ≡ middle ++ flat_map seal_bytes entry.seals → new ≡ old ++ entry_bytes entry
entry_written entry old first second middle new link_count seal_count links seals =
    let links_bytes : List ℕ = flat_map (to_le_bytes w16) entry.links in
    let seals_bytes : List ℕ = flat_map seal_bytes entry.seals in
    let counts = both_written (to_le_bytes w32 (length entry.links)) (to_le_bytes w32 (length entry.seals)) old first second link_count seal_count in
    both_written (to_le_bytes w32 (length entry.links) ++ to_le_bytes w32 (length entry.seals)) (links_bytes ++ seals_bytes) old second new counts
    (both_written links_bytes seals_bytes second middle new links seals)

-- the seals of an entry, each behind what holds it
pub seals_written : {A : Type 0} (value : A → Seal) (items : List A) (seals : List Seal) (i : ℕ) (old new : List ℕ) → map value items ≡ seals → length items ≤ i
    → new ≡ old ++ flat_map (λ x. seal_bytes (value x)) (take i items) → new ≡ old ++ flat_map seal_bytes seals
seals_written value items seals i old new same none_left written =
    items_written (λ x. seal_bytes (value x)) items i old new none_left written
    ∙ ap (λ (z : List ℕ). old ++ z) (sym (flat_map-map seal_bytes value items) ∙ ap (flat_map seal_bytes) same)

-- ---- what is within its limits

-- each seal
pub limits_at : {A : Type 0} (value : A → Seal) (items : List A) (i : ℕ) (d : A) → i < length items → AllSealLimits (map value items) → SealLimits (value (get_or items i d))
limits_at value [] i d lt all = absurd (omega arith)
limits_at value (x ∷ items) zero d lt all = all.0
limits_at value (x ∷ items) (suc i) d lt all = limits_at value items i d (omega arith) all.1

-- each entry, as one of its number
entry_at : (e n : ℕ) (entries : List Entry) (i : ℕ) (d : Entry) → i < length entries → AllEntryLimits e n entries → (j : ℕ) × EntryLimits j n (get_or entries i d)
entry_at e n [] i d lt all = absurd (omega arith)
entry_at e n (x ∷ entries) zero d lt all = (e, all.0)
entry_at e n (x ∷ entries) (suc i) d lt all = entry_at (e + 1) n entries i d (omega arith) all.1

-- each entry of a bundle
pub entry_limits : (B : Bundle) (entries : List Entry) (i : ℕ) (entry : Entry) → KeepsLimits B → entries ≡ B → i < length entries → entry ≡ get_or entries i entry
    → (j : ℕ) × EntryLimits j (length B) entry
entry_limits B entries i entry limits same lt is =
    let all = subst (λ (z : List Entry). AllEntryLimits 0 (length B) z) (sym same) limits.entries in
    subst (λ (z : Entry). (j : ℕ) × EntryLimits j (length B) z) (sym is) (entry_at 0 (length B) entries i entry lt all)
