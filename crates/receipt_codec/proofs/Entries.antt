-- The parts of an entry, and lists of entries.
use Rattle.std.proofs.Common.{◌≡◌, ℕ, ◌+◌, ◌^◌, ◌<◌, ◌≤◌, List, [], ◌∷◌, ◌++◌, length, All, refl, sym, ap, subst, ◌∙◌, append_assoc, length-append, arith}
use Rattle.receipt_types.proofs.Limits.{AllSealLimits-push}
use Rattle.std.specs.Int.{w16, w32, to_le_bytes, from_le_bytes}
use Rattle.std.specs.List.{flat_map}
use Rattle.std.proofs.lemmas.Nat.{from_le_bytes-to_le_bytes_2}
use Rattle.part_tree.proofs.Strings.{halves}
use Rattle.receipt_types.specs.Seals.{Seal}
use Rattle.receipt_types.specs.Bundles.{Entry}
use Rattle.receipt_types.specs.Limits.{SealLimits, AllSealLimits, EntryLimits, AllEntryLimits}
use Rattle.receipt_types.specs.Spelling.{seal_bytes, entry_bytes}
use Rattle.receipt_codec.specs.Reading.{NoneSpelled, OneSpelled, AreLinks, AreSealed}
use Rattle.receipt_codec.proofs.Items.{FitFrom, all_fit, spelled_one_more, one_list, no_list}
use Rattle.receipt_codec.proofs.Seals.{one_number, one_seal}

-- ---- links

-- the bytes of a number are not the beginning of those of another
pub one_half : OneSpelled (to_le_bytes w16) (λ n. n < 2 ^ 16)
one_half a b x y p q same =
    let h = halves (to_le_bytes w16 a) x (to_le_bytes w16 b) y refl same in
    (sym (from_le_bytes-to_le_bytes_2 a p) ∙ ap (from_le_bytes w16) h.0 ∙ from_le_bytes-to_le_bytes_2 b q, h.1)

-- a link of entry e of n
abbrev pub IsLink : ℕ → ℕ → ℕ → Type 0
IsLink e n link = (e < link) × (link < n)

-- no link begins another's bytes
pub one_link : (e n : ℕ) → n ≤ 2 ^ 16 → OneSpelled (to_le_bytes w16) (IsLink e n)
one_link e n few a b x y p q same = one_half a b x y (omega (arith, p.1, few)) (omega (arith, q.1, few)) same

-- the links so far, and then nothing that is the next link
pub no_links : (e n many : ℕ) (links bytes after : List ℕ) → n ≤ 2 ^ 16 → length links < many → All (IsLink e n) links
    → bytes ≡ flat_map (to_le_bytes w16) links ++ after → NoneSpelled (to_le_bytes w16) (IsLink e n) after
    → NoneSpelled (flat_map (to_le_bytes w16)) (AreLinks e n many) bytes
no_links e n many links bytes after few lt keep spelled none others rest fits same =
    no_list (to_le_bytes w16) (λ at. IsLink e n) (λ at. one_link e n few) 0 links others after rest (omega (arith, fits.long, lt)) (all_fit (IsLink e n) 0 links keep) (all_fit (IsLink e n) 0 others fits.each) none (sym spelled ∙ same)

-- too few bytes for a link
pub short_link : (e n : ℕ) (after : List ℕ) → length after < 2 → NoneSpelled (to_le_bytes w16) (IsLink e n) after
short_link e n after short link rest fits same = omega (arith, ap length same, length-append (to_le_bytes w16 link) rest)

-- the number that is there is no link
pub bad_link : (e n link : ℕ) (bytes after : List ℕ) → n ≤ 2 ^ 16 → link < 2 ^ 16 → bytes ≡ to_le_bytes w16 link ++ after → (IsLink e n link → ⊥)
    → NoneSpelled (to_le_bytes w16) (IsLink e n) bytes
bad_link e n link bytes after few half spelled refused other rest fits same =
    let both = one_half link other after rest half (omega (arith, fits.1, few)) (sym spelled ∙ same) in
    refused (omega (arith, both.0, fits.0), omega (arith, both.0, fits.1))

-- ---- seals

-- seals within their limits, one by one
pub seal_fits : (at : ℕ) (seals : List Seal) → AllSealLimits seals → FitFrom (λ at. SealLimits) at seals
seal_fits at [] keep = tt
seal_fits at (seal ∷ seals) keep = (keep.0, seal_fits (at + 1) seals keep.1)

-- seals that were read, and the next
pub sealed_one_more : (many : ℕ) (seals all : List Seal) (seal : Seal) (bytes after more : List ℕ) → AreSealed many seals → SealLimits seal → all ≡ seals ++ seal ∷ []
    → bytes ≡ flat_map seal_bytes seals ++ after → after ≡ seal_bytes seal ++ more → AreSealed (many + 1) all × (bytes ≡ flat_map seal_bytes all ++ more)
sealed_one_more many seals all seal bytes after more sealed limits is spelled next = (
  record {
    long = omega (arith, ap length is, length-append seals (seal ∷ []), sealed.long);
    limits = subst (λ (s : List Seal). AllSealLimits s) (sym is) (AllSealLimits-push seals seal sealed.limits limits);
  },
  spelled_one_more seal_bytes seals seal bytes after more spelled next ∙ ap (λ (s : List Seal). flat_map seal_bytes s ++ more) (sym is),
)

-- the seals so far, and then nothing that spells the next
pub no_seals : (many : ℕ) (seals : List Seal) (bytes after : List ℕ) → length seals < many → AllSealLimits seals → bytes ≡ flat_map seal_bytes seals ++ after
    → NoneSpelled seal_bytes SealLimits after → NoneSpelled (flat_map seal_bytes) (AreSealed many) bytes
no_seals many seals bytes after lt keep spelled none others rest fits same =
    no_list seal_bytes (λ at. SealLimits) (λ at. one_seal) 0 seals others after rest (omega (arith, fits.long, lt)) (seal_fits 0 seals keep) (seal_fits 0 others fits.limits) none (sym spelled ∙ same)

-- ---- entries

-- an entry's bytes, part by part
pub entry_parts : (entry : Entry) (rest : List ℕ)
    → entry_bytes entry ++ rest
    ≡ to_le_bytes w32 (length entry.links) ++ (to_le_bytes w32 (length entry.seals) ++ (flat_map (to_le_bytes w16) entry.links ++ (flat_map seal_bytes entry.seals ++ rest)))
entry_parts entry rest =
    ap (λ (z : List ℕ). to_le_bytes w32 (length entry.links) ++ (to_le_bytes w32 (length entry.seals) ++ z))
    (append_assoc (flat_map (to_le_bytes w16) entry.links) (flat_map seal_bytes entry.seals) rest)

-- the numbers at the front of an entry are those of its links and of its seals
pub entry_counts : (e n links seals : ℕ) (after : List ℕ) (entry : Entry) (rest : List ℕ) → links < 2 ^ 32 → seals < 2 ^ 32 → EntryLimits e n entry
    → to_le_bytes w32 links ++ (to_le_bytes w32 seals ++ after) ≡ entry_bytes entry ++ rest
    → (links ≡ length entry.links) × (seals ≡ length entry.seals) × (after ≡ flat_map (to_le_bytes w16) entry.links ++ (flat_map seal_bytes entry.seals ++ rest))
entry_counts e n links seals after entry rest p q limits same =
    let tail : List ℕ = flat_map (to_le_bytes w16) entry.links ++ (flat_map seal_bytes entry.seals ++ rest) in
    let first = one_number links (length entry.links) (to_le_bytes w32 seals ++ after) (to_le_bytes w32 (length entry.seals) ++ tail) p (omega (arith, limits.few_links)) (same ∙ entry_parts entry rest) in
    let second = one_number seals (length entry.seals) after tail q (omega (arith, limits.few_seals)) first.1 in
    (first.0, second.0, second.1)

-- entries with the same fields are the same
abbrev entry_of : List ℕ → List Seal → Entry
entry_of links seals = record { links = links; seals = seals }

same_entry : (a b : Entry) → a.links ≡ b.links → a.seals ≡ b.seals → a ≡ b
same_entry a b links seals = ap (λ (l : List ℕ). entry_of l a.seals) links ∙ ap (λ (s : List Seal). entry_of b.links s) seals

-- links of an entry are not the beginning of as many others
pub one_links : (e n : ℕ) (a b rest more : List ℕ) → n ≤ 2 ^ 16 → length a ≡ length b → All (IsLink e n) a → All (IsLink e n) b
    → flat_map (to_le_bytes w16) a ++ rest ≡ flat_map (to_le_bytes w16) b ++ more → (a ≡ b) × (rest ≡ more)
one_links e n a b rest more few long p q same =
    one_list (to_le_bytes w16) (λ at. IsLink e n) (λ at. one_link e n few) 0 a b rest more long (all_fit (IsLink e n) 0 a p) (all_fit (IsLink e n) 0 b q) same

-- and seals of an entry are not the beginning of as many others
pub one_seals : (a b : List Seal) (rest more : List ℕ) → length a ≡ length b → AllSealLimits a → AllSealLimits b → flat_map seal_bytes a ++ rest ≡ flat_map seal_bytes b ++ more → (a ≡ b) × (rest ≡ more)
one_seals a b rest more long p q same = one_list seal_bytes (λ at. SealLimits) (λ at. one_seal) 0 a b rest more long (seal_fits 0 a p) (seal_fits 0 b q) same

-- the bytes of an entry are not the beginning of those of another, of so few entries that a link has two bytes
pub one_entry : (e n : ℕ) → n ≤ 2 ^ 16 → OneSpelled entry_bytes (EntryLimits e n)
one_entry e n few a b x y p q same =
    let after : List ℕ = flat_map (to_le_bytes w16) a.links ++ (flat_map seal_bytes a.seals ++ x) in
    let counts = entry_counts e n (length a.links) (length a.seals) after b y (omega (arith, p.few_links)) (omega (arith, p.few_seals)) q (sym (entry_parts a x) ∙ same) in
    let links = one_links e n a.links b.links (flat_map seal_bytes a.seals ++ x) (flat_map seal_bytes b.seals ++ y) few counts.0 p.links q.links counts.2 in
    let seals = one_seals a.seals b.seals x y counts.1 p.seals q.seals links.1 in
    (same_entry a b links.0 seals.0, seals.1)

-- no entry without its seals after its links
pub no_entry_seals : (e n seals : ℕ) (links bytes after more : List ℕ) (many : ℕ) → n ≤ 2 ^ 16 → many < 2 ^ 32 → seals < 2 ^ 32 → AreLinks e n many links
    → bytes ≡ to_le_bytes w32 many ++ (to_le_bytes w32 seals ++ after) → after ≡ flat_map (to_le_bytes w16) links ++ more → NoneSpelled (flat_map seal_bytes) (AreSealed seals) more
    → NoneSpelled entry_bytes (EntryLimits e n) bytes
no_entry_seals e n seals links bytes after more many few p q are_links spelled spelled_links none entry rest limits same =
    let counts = entry_counts e n many seals after entry rest p q limits (sym spelled ∙ same) in
    let both = one_links e n links entry.links more (flat_map seal_bytes entry.seals ++ rest) few (are_links.long ∙ counts.0) are_links.each limits.links (sym spelled_links ∙ counts.2) in
    none entry.seals rest (record { long = sym counts.1; limits = limits.seals }) both.1

-- ---- lists of entries

-- entries within their limits, one by one
pub entry_fits : (e n : ℕ) (entries : List Entry) → AllEntryLimits e n entries → FitFrom (λ at. EntryLimits at n) e entries
entry_fits e n [] keep = tt
entry_fits e n (entry ∷ entries) keep = (keep.0, entry_fits (e + 1) n entries keep.1)

-- with one more at the end
pub entries_one_more : (e n : ℕ) (entries : List Entry) (entry : Entry) → AllEntryLimits e n entries → EntryLimits (e + length entries) n entry → AllEntryLimits e n (entries ++ entry ∷ [])
entries_one_more e n [] entry keep limits =
    let at : e + 0 ≡ e = omega arith in
    (subst (λ (k : ℕ). EntryLimits k n entry) at limits, tt)
entries_one_more e n (first ∷ entries) entry keep limits =
    let at : e + length (first ∷ entries) ≡ (e + 1) + length entries = omega arith in
    (keep.0, entries_one_more (e + 1) n entries entry keep.1 (subst (λ (k : ℕ). EntryLimits k n entry) at limits))

-- entries that were read, and the next
pub entries_kept : (count number : ℕ) (entries all : List Entry) (entry : Entry) (bytes after more : List ℕ) → length entries ≡ number → AllEntryLimits 0 count entries → EntryLimits number count entry
    → all ≡ entries ++ entry ∷ [] → bytes ≡ flat_map entry_bytes entries ++ after → after ≡ entry_bytes entry ++ more
    → (length all ≡ number + 1) × AllEntryLimits 0 count all × (bytes ≡ flat_map entry_bytes all ++ more)
entries_kept count number entries all entry bytes after more long keep limits is spelled next =
    let at : number ≡ 0 + length entries = omega (arith, long) in (
      omega (arith, ap length is, length-append entries (entry ∷ []), long),
      subst (λ (s : List Entry). AllEntryLimits 0 count s) (sym is) (entries_one_more 0 count entries entry keep (subst (λ (n : ℕ). EntryLimits n count entry) at limits)),
      spelled_one_more entry_bytes entries entry bytes after more spelled next ∙ ap (λ (s : List Entry). flat_map entry_bytes s ++ more) (sym is),
    )
