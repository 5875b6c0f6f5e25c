-- What the grammar's rules spell is what the bytes of a bundle are.
use Rattle.std.proofs.Common.{◌≡◌, ℕ, zero, suc, ◌+◌, ◌^◌, ◌<◌, ◌≤◌, List, [], ◌∷◌, ◌++◌, length, refl, sym, ap, ap₂, ◌∙◌, append_assoc, arith}
use Rattle.std.specs.Prelude.{All, codes}
use Rattle.std.specs.Int.{w16, w32, to_le_bytes}
use Rattle.std.specs.List.{flat_map}
use Rattle.std.proofs.lemmas.List.Elements.{All-nil, All-cons, All-head, All-tail}
use Rattle.part_tree.specs.Part.{Part, pruned, branch, leaf, IsPart}
use Rattle.part_tree.specs.Canonical.{IsCanonical}
use Rattle.receipt_types.specs.Seals.{Seal}
use Rattle.receipt_types.specs.Bundles.{Entry, Bundle}
use Rattle.receipt_types.specs.Limits.{SealLimits, AllSealLimits, EntryLimits, AllEntryLimits}
use Rattle.receipt_types.specs.Grammar.{WordRule, EachRule, NodeRule, TreeRule, SealRule, LinkRule, EntryRule, EntriesRule, BundleRule}
use Rattle.receipt_types.specs.Spelling.{tree_bytes, seal_bytes, entry_bytes, Spells}
use Rattle.receipt_types.specs.Laws.{SpelledByRules}

-- a number up to 16,777,216 is one of four bytes
below_word : (n : ℕ) → n ≤ 16777216 → n < 2 ^ 32
below_word n l = omega (arith, l)

-- so is one up to 65,535
short_below_word : (n : ℕ) → n ≤ 65535 → n < 2 ^ 32
short_below_word n l = omega (arith, l)

-- a number below one up to 256 is one of two bytes
below_half : (k n : ℕ) → k < n → n ≤ 256 → k < 2 ^ 16
below_half k n l m = omega (arith, l, m)

-- so is a number up to 256 itself
count_below_half : (n : ℕ) → n ≤ 256 → n < 2 ^ 16
count_below_half n l = omega (arith, l)

-- the version is a number of two bytes
one_below_half : 1 < 2 ^ 16
one_below_half = omega arith

-- two pieces that are the same make the same bytes
two_same : (a b x y : List ℕ) → a ≡ x → b ≡ y → a ++ b ≡ x ++ y
two_same a b x y p q = ap₂ (λ (u v : List ℕ). u ++ v) p q

-- four pieces associate to the right as well
four_pieces : (a b c d : List ℕ) → ((a ++ b) ++ c) ++ d ≡ a ++ (b ++ (c ++ d))
four_pieces a b c d = append_assoc (a ++ b) c d ∙ append_assoc a b (c ++ d)

-- and five pieces
five_pieces : (a b c d e : List ℕ) → (((a ++ b) ++ c) ++ d) ++ e ≡ a ++ (b ++ (c ++ (d ++ e)))
five_pieces a b c d e = append_assoc ((a ++ b) ++ c) d e ∙ four_pieces a b c (d ++ e)

-- four pieces that are the same make the same bytes
four_same : (bytes a b c d w x y z : List ℕ) → bytes ≡ a ++ (b ++ (c ++ d)) → a ≡ w → b ≡ x → c ≡ y → d ≡ z → bytes ≡ ((w ++ x) ++ y) ++ z
four_same bytes a b c d w x y z is p q r s =
    is ∙ two_same a (b ++ (c ++ d)) w (x ++ (y ++ z)) p (two_same b (c ++ d) x (y ++ z) q (two_same c d y z r s)) ∙ sym (four_pieces w x y z)

-- and so do five
five_same : (bytes a b c d e v w x y z : List ℕ) → bytes ≡ a ++ (b ++ (c ++ (d ++ e))) → a ≡ v → b ≡ w → c ≡ x → d ≡ y → e ≡ z
    → bytes ≡ (((v ++ w) ++ x) ++ y) ++ z
five_same bytes a b c d e v w x y z is p q r s t =
    is ∙ two_same a (b ++ (c ++ (d ++ e))) v (w ++ (x ++ (y ++ z))) p (two_same b (c ++ (d ++ e)) w (x ++ (y ++ z)) q (two_same c (d ++ e) x (y ++ z) r (two_same d e y z s t)))
    ∙ sym (five_pieces v w x y z)

module _ {A : Type 0} (Rule : A → List ℕ → Type 0) (spelling : A → List ℕ) (P : A → Type 0) where
  -- where each spelling keeps the rule, the spellings one after the other do
  each_rule : ((x : A) → P x → Rule x (spelling x)) → (xs : List A) → All P xs → EachRule Rule xs (flat_map spelling xs)
  each_rule one [] l = refl
  each_rule one (x ∷ xs) l = (spelling x, flat_map spelling xs, refl, one x (All-head P x xs l), each_rule one xs (All-tail P x xs l))

  -- where the rule leaves the spelling alone, it leaves the spellings one after the other
  each_spelled : ((x : A) (b : List ℕ) → Rule x b → P x × (b ≡ spelling x)) → (xs : List A) (bytes : List ℕ) → EachRule Rule xs bytes → All P xs × (bytes ≡ flat_map spelling xs)
  each_spelled one [] bytes r = (All-nil P, r)
  each_spelled one (x ∷ xs) bytes r =
      let (front, rest, is, rule, more) = r in
      let (p, same) = one x front rule in
      let (ps, sames) = each_spelled one xs rest more in
      (All-cons P x xs p ps, is ∙ two_same front rest (spelling x) (flat_map spelling xs) same sames)

-- a tree of its shape is spelled by the rule of nodes
node_rule : (h : ℕ) (t : Part) → IsPart h t → NodeRule h t (tree_bytes t)
node_rule h (pruned digest) shape = (shape, refl)
node_rule zero (branch left right) shape = absurd shape
node_rule (suc h) (branch left right) shape = (tree_bytes left, tree_bytes right, refl, node_rule h left shape.0, node_rule h right shape.1)
node_rule zero (leaf page) shape = (shape, refl)
node_rule (suc h) (leaf page) shape = absurd shape

-- the rule of nodes gives the shape, and one spelling
node_spelled : (h : ℕ) (t : Part) (bytes : List ℕ) → NodeRule h t bytes → IsPart h t × (bytes ≡ tree_bytes t)
node_spelled h (pruned digest) bytes r = (r.0, r.1)
node_spelled zero (branch left right) bytes r = absurd r
node_spelled (suc h) (branch left right) bytes r =
    let (first, second, is, l, m) = r in
    let (p, same) = node_spelled h left first l in
    let (q, sames) = node_spelled h right second m in
    ((p, q), is ∙ ap (λ (xs : List ℕ). 1 ∷ xs) (two_same first second (tree_bytes left) (tree_bytes right) same sames))
node_spelled zero (leaf page) bytes r = (r.0, r.1)
node_spelled (suc h) (leaf page) bytes r = absurd r

-- a tree of canonical form is spelled by the rule of trees
tree_rule : (t : Part) → IsCanonical t → TreeRule t (tree_bytes t)
tree_rule t l = record { node = node_rule 18 t l.shape; root = l.root; branches = l.branches; few = l.few }

-- the rule of trees gives the canonical form, and one spelling
tree_spelled : (t : Part) (bytes : List ℕ) → TreeRule t bytes → IsCanonical t × (bytes ≡ tree_bytes t)
tree_spelled t bytes r =
    let (shape, same) = node_spelled 18 t bytes r.node in
    (record { shape = shape; root = r.root; branches = r.branches; few = r.few }, same)

-- a word is spelled by the rule of words
word_rule : (n : ℕ) → n < 2 ^ 32 → WordRule n (to_le_bytes w32 n)
word_rule n l = (l, refl)

-- the rule of words gives the bound, and one spelling
word_spelled : (n : ℕ) (bytes : List ℕ) → WordRule n bytes → (n < 2 ^ 32) × (bytes ≡ to_le_bytes w32 n)
word_spelled n bytes r = (r.0, r.1)

-- words one after the other are spelled by the rule of words
words_rule : (words : List ℕ) → All (λ word. word < 2 ^ 32) words → EachRule WordRule words (flat_map (to_le_bytes w32) words)
words_rule = each_rule WordRule (to_le_bytes w32) (λ word. word < 2 ^ 32) word_rule

-- and the rule gives their bounds, and one spelling
words_spelled : (words : List ℕ) (bytes : List ℕ) → EachRule WordRule words bytes → All (λ word. word < 2 ^ 32) words × (bytes ≡ flat_map (to_le_bytes w32) words)
words_spelled = each_spelled WordRule (to_le_bytes w32) (λ word. word < 2 ^ 32) word_spelled

-- a seal within its limits is spelled by the rule of seals
seal_rule : (seal : Seal) → SealLimits seal → SealRule seal (seal_bytes seal)
seal_rule seal l = record {
  pc = to_le_bytes w32 seal.pc;
  steps = to_le_bytes w32 seal.steps;
  count = to_le_bytes w32 (length seal.words);
  words = flat_map (to_le_bytes w32) seal.words;
  tree = tree_bytes seal.tree;
  parts = five_pieces (to_le_bytes w32 seal.pc) (to_le_bytes w32 seal.steps) (to_le_bytes w32 (length seal.words)) (flat_map (to_le_bytes w32) seal.words) (tree_bytes seal.tree);
  is_pc = word_rule seal.pc l.numbers.is_word;
  aligned = l.numbers.aligned;
  is_steps = word_rule seal.steps (below_word seal.steps l.numbers.few_steps);
  some_steps = l.numbers.some_steps;
  few_steps = l.numbers.few_steps;
  is_count = word_rule (length seal.words) (below_word (length seal.words) l.numbers.few_words);
  few_words = l.numbers.few_words;
  are_words = words_rule seal.words l.are_words;
  is_tree = tree_rule seal.tree l.tree;
}

-- the rule of seals gives the limits, and one spelling
seal_spelled : (seal : Seal) (bytes : List ℕ) → SealRule seal bytes → SealLimits seal × (bytes ≡ seal_bytes seal)
seal_spelled seal bytes r =
    let (words, is_words) = words_spelled seal.words r.words r.are_words in
    let (tree, is_tree) = tree_spelled seal.tree r.tree r.is_tree in (
      record {
        numbers = record {
          aligned = r.aligned;
          is_word = r.is_pc.0;
          some_steps = r.some_steps;
          few_steps = r.few_steps;
          few_words = r.few_words;
        };
        are_words = words;
        tree = tree;
      },
      five_same bytes r.pc r.steps r.count r.words r.tree
          (to_le_bytes w32 seal.pc) (to_le_bytes w32 seal.steps) (to_le_bytes w32 (length seal.words)) (flat_map (to_le_bytes w32) seal.words) (tree_bytes seal.tree)
          r.parts r.is_pc.1 r.is_steps.1 r.is_count.1 is_words is_tree,
    )

-- seals within their limits are spelled one after the other
seals_rule : (seals : List Seal) → AllSealLimits seals → EachRule SealRule seals (flat_map seal_bytes seals)
seals_rule [] l = refl
seals_rule (seal ∷ seals) l = (seal_bytes seal, flat_map seal_bytes seals, refl, seal_rule seal l.0, seals_rule seals l.1)

-- and the rule gives their limits, and one spelling
seals_spelled : (seals : List Seal) (bytes : List ℕ) → EachRule SealRule seals bytes → AllSealLimits seals × (bytes ≡ flat_map seal_bytes seals)
seals_spelled [] bytes r = (tt, r)
seals_spelled (seal ∷ seals) bytes r =
    let (front, rest, is, rule, more) = r in
    let (p, same) = seal_spelled seal front rule in
    let (ps, sames) = seals_spelled seals rest more in
    ((p, ps), is ∙ two_same front rest (seal_bytes seal) (flat_map seal_bytes seals) same sames)

-- a link to a later entry is spelled by the rule of links
link_rule : (e n : ℕ) → n ≤ 256 → (link : ℕ) → (e < link) × (link < n) → LinkRule e n link (to_le_bytes w16 link)
link_rule e n few link l = (l.0, l.1, (below_half link n l.1 few, refl))

-- the rule of links gives the bounds, and one spelling
link_spelled : (e n link : ℕ) (bytes : List ℕ) → LinkRule e n link bytes → ((e < link) × (link < n)) × (bytes ≡ to_le_bytes w16 link)
link_spelled e n link bytes r = ((r.0, r.1), r.2.1)

-- an entry within its limits is spelled by the rule of entries
entry_rule : (e n : ℕ) → n ≤ 256 → (entry : Entry) → EntryLimits e n entry → EntryRule e n entry (entry_bytes entry)
entry_rule e n few entry l = record {
  link_count = to_le_bytes w32 (length entry.links);
  seal_count = to_le_bytes w32 (length entry.seals);
  links = flat_map (to_le_bytes w16) entry.links;
  seals = flat_map seal_bytes entry.seals;
  parts = four_pieces (to_le_bytes w32 (length entry.links)) (to_le_bytes w32 (length entry.seals)) (flat_map (to_le_bytes w16) entry.links) (flat_map seal_bytes entry.seals);
  is_link_count = word_rule (length entry.links) (below_word (length entry.links) l.few_links);
  few_links = l.few_links;
  is_seal_count = word_rule (length entry.seals) (short_below_word (length entry.seals) l.few_seals);
  some_seals = l.some_seals;
  few_seals = l.few_seals;
  are_links = each_rule (LinkRule e n) (to_le_bytes w16) (λ link. (e < link) × (link < n)) (link_rule e n few) entry.links l.links;
  are_seals = seals_rule entry.seals l.seals;
}

-- the rule of entries gives the limits, and one spelling
entry_spelled : (e n : ℕ) (entry : Entry) (bytes : List ℕ) → EntryRule e n entry bytes → EntryLimits e n entry × (bytes ≡ entry_bytes entry)
entry_spelled e n entry bytes r =
    let (links, is_links) = each_spelled (LinkRule e n) (to_le_bytes w16) (λ link. (e < link) × (link < n)) (link_spelled e n) entry.links r.links r.are_links in
    let (seals, is_seals) = seals_spelled entry.seals r.seals r.are_seals in (
      record { few_links = r.few_links; links = links; some_seals = r.some_seals; few_seals = r.few_seals; seals = seals },
      four_same bytes r.link_count r.seal_count r.links r.seals
          (to_le_bytes w32 (length entry.links)) (to_le_bytes w32 (length entry.seals)) (flat_map (to_le_bytes w16) entry.links) (flat_map seal_bytes entry.seals)
          r.parts r.is_link_count.1 r.is_seal_count.1 is_links is_seals,
    )

-- entries within their limits are spelled one after the other
entries_rule : (e n : ℕ) → n ≤ 256 → (entries : List Entry) → AllEntryLimits e n entries → EntriesRule e n entries (flat_map entry_bytes entries)
entries_rule e n few [] l = refl
entries_rule e n few (entry ∷ entries) l = (entry_bytes entry, flat_map entry_bytes entries, refl, entry_rule e n few entry l.0, entries_rule (e + 1) n few entries l.1)

-- and the rule gives their limits, and one spelling
entries_spelled : (e n : ℕ) (entries : List Entry) (bytes : List ℕ) → EntriesRule e n entries bytes → AllEntryLimits e n entries × (bytes ≡ flat_map entry_bytes entries)
entries_spelled e n [] bytes r = (tt, r)
entries_spelled e n (entry ∷ entries) bytes r =
    let (front, rest, is, rule, more) = r in
    let (p, same) = entry_spelled e n entry front rule in
    let (ps, sames) = entries_spelled (e + 1) n entries rest more in
    ((p, ps), is ∙ two_same front rest (entry_bytes entry) (flat_map entry_bytes entries) same sames)

-- bytes that spell a bundle keep the rule of bundles
bundle_rule : (B : Bundle) (bytes : List ℕ) → Spells B bytes → BundleRule B bytes
bundle_rule B bytes s = record {
  version = to_le_bytes w16 1;
  count = to_le_bytes w16 (length B);
  entries = flat_map entry_bytes B;
  parts = s.is ∙ four_pieces (codes "SEAL") (to_le_bytes w16 1) (to_le_bytes w16 (length B)) (flat_map entry_bytes B);
  is_version = (one_below_half, refl);
  is_count = (count_below_half (length B) s.limits.few_entries, refl);
  some_entries = s.limits.some_entries;
  few_entries = s.limits.few_entries;
  are_entries = entries_rule 0 (length B) s.limits.few_entries B s.limits.entries;
}

-- and the rule of bundles gives the limits and the bytes
bundle_spelled : (B : Bundle) (bytes : List ℕ) → BundleRule B bytes → Spells B bytes
bundle_spelled B bytes r =
    let (entries, is_entries) = entries_spelled 0 (length B) B r.entries r.are_entries in
    record {
      limits = record { some_entries = r.some_entries; few_entries = r.few_entries; entries = entries };
      is =
          four_same bytes (codes "SEAL") r.version r.count r.entries
          (codes "SEAL") (to_le_bytes w16 1) (to_le_bytes w16 (length B)) (flat_map entry_bytes B)
          r.parts refl r.is_version.1 r.is_count.1 is_entries;
    }

pub spelled_by_rules : SpelledByRules
spelled_by_rules B bytes = (bundle_rule B bytes, bundle_spelled B bytes)
