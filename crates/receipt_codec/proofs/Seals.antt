-- What the front of some bytes says of a seal that they spell.
use Rattle.std.proofs.Common.{◌≡◌, ℕ, ◌%◌, ◌^◌, ◌<◌, List, ◌++◌, length, All, refl, sym, ap, ◌∙◌, append_assoc, length-append, arith}
use Rattle.std.specs.Int.{w32, to_le_bytes, from_le_bytes}
use Rattle.std.specs.List.{flat_map}
use Rattle.std.proofs.lemmas.Nat.{from_le_bytes-to_le_bytes_4}
use Rattle.page_core.proofs.Bytes.{length-words}
use Rattle.part_tree.specs.Part.{Part}
use Rattle.part_tree.specs.Canonical.{IsCanonical}
use Rattle.part_tree.proofs.Strings.{halves}
use Rattle.receipt_types.specs.Seals.{Seal}
use Rattle.receipt_types.specs.Limits.{SealLimits}
use Rattle.receipt_types.specs.Spelling.{tree_bytes, seal_bytes}
use Rattle.receipt_codec.specs.declared.seal.Fields.{Fields}
use Rattle.receipt_codec.specs.Reading.{NoneSpelled, OneSpelled}
use Rattle.receipt_codec.specs.Fields.{fields_bytes, FieldLimits, AreWords}
use Rattle.receipt_codec.proofs.Items.{all_fit, one_list}
use Rattle.receipt_codec.proofs.Trees.{one_canonical}

-- ---- numbers and words

-- the bytes of a number are not the beginning of those of another
pub one_number : (a b : ℕ) (x y : List ℕ) → a < 2 ^ 32 → b < 2 ^ 32 → to_le_bytes w32 a ++ x ≡ to_le_bytes w32 b ++ y → (a ≡ b) × (x ≡ y)
one_number a b x y p q same =
    let h = halves (to_le_bytes w32 a) x (to_le_bytes w32 b) y refl same in
    (sym (from_le_bytes-to_le_bytes_4 a p) ∙ ap (from_le_bytes w32) h.0 ∙ from_le_bytes-to_le_bytes_4 b q, h.1)

-- the bytes end before the last word
pub no_words : (count read : ℕ) (words bytes after : List ℕ) → read < count → length words ≡ read → bytes ≡ flat_map (to_le_bytes w32) words ++ after → length after < 4
    → NoneSpelled (flat_map (to_le_bytes w32)) (AreWords count) bytes
no_words count read words bytes after lt so_far spelled short others rest fits e =
    omega (
      arith,
      fits.many,
      ap length (sym spelled ∙ e),
      length-append (flat_map (to_le_bytes w32) words) after,
      length-append (flat_map (to_le_bytes w32) others) rest,
      length-words words,
      length-words others,
    )

-- ---- the numbers at the front

-- the bytes of a seal's numbers are not the beginning of those of others
pub one_fields : (f g : Fields) (x y : List ℕ) → f.pc < 2 ^ 32 → f.steps < 2 ^ 32 → f.count < 2 ^ 32 → FieldLimits g → fields_bytes f ++ x ≡ fields_bytes g ++ y
    → (f.pc ≡ g.pc) × (f.steps ≡ g.steps) × (f.count ≡ g.count) × (x ≡ y)
one_fields f g x y p q r limits same =
    let pc = one_number f.pc g.pc (to_le_bytes w32 f.steps ++ (to_le_bytes w32 f.count ++ x)) (to_le_bytes w32 g.steps ++ (to_le_bytes w32 g.count ++ y)) p limits.is_word same in
    let steps = one_number f.steps g.steps (to_le_bytes w32 f.count ++ x) (to_le_bytes w32 g.count ++ y) q (omega (arith, limits.few_steps)) pc.1 in
    let count = one_number f.count g.count x y r (omega (arith, limits.few_words)) steps.1 in
    (pc.0, steps.0, count.0, count.1)

-- the numbers that are there do not keep the limits
pub no_fields : (f : Fields) (bytes after : List ℕ) → f.pc < 2 ^ 32 → f.steps < 2 ^ 32 → f.count < 2 ^ 32 → bytes ≡ fields_bytes f ++ after → (FieldLimits f → ⊥)
    → NoneSpelled fields_bytes FieldLimits bytes
no_fields f bytes after p q r spelled refused g rest limits e =
    let same = one_fields f g after rest p q r limits (sym spelled ∙ e) in
    refused (record {
      aligned = ap (λ (n : ℕ). n % 4) same.0 ∙ limits.aligned;
      is_word = p;
      some_steps = omega (arith, same.1, limits.some_steps);
      few_steps = omega (arith, same.2, limits.few_steps);
      few_words = omega (arith, same.2, limits.few_words);
    })

-- ---- seals

-- the numbers at the front of a seal
abbrev pub fields_of : Seal → Fields
fields_of seal = record { pc = seal.pc; steps = seal.steps; count = length seal.words }

-- a seal's bytes, part by part
pub seal_parts : (seal : Seal) (rest : List ℕ)
    → seal_bytes seal ++ rest ≡ fields_bytes (fields_of seal) ++ (flat_map (to_le_bytes w32) seal.words ++ (tree_bytes seal.tree ++ rest))
seal_parts seal rest =
    ap (λ (z : List ℕ). fields_bytes (fields_of seal) ++ z) (append_assoc (flat_map (to_le_bytes w32) seal.words) (tree_bytes seal.tree) rest)

-- no seal without its numbers
pub no_seal_fields : (bytes ahead : List ℕ) → ahead ≡ bytes → NoneSpelled fields_bytes FieldLimits ahead → NoneSpelled seal_bytes SealLimits bytes
no_seal_fields bytes ahead same none seal rest limits e =
    none (fields_of seal) (flat_map (to_le_bytes w32) seal.words ++ (tree_bytes seal.tree ++ rest)) limits.numbers (same ∙ e ∙ seal_parts seal rest)

-- the numbers that are there are the seal's
pub same_fields : (f : Fields) (seal : Seal) (bytes after rest : List ℕ) → FieldLimits f → bytes ≡ fields_bytes f ++ after → SealLimits seal → bytes ≡ seal_bytes seal ++ rest
    → (f.count ≡ length seal.words) × (after ≡ flat_map (to_le_bytes w32) seal.words ++ (tree_bytes seal.tree ++ rest))
same_fields f seal bytes after rest keep spelled limits e =
    let same = one_fields f (fields_of seal) after (flat_map (to_le_bytes w32) seal.words ++ (tree_bytes seal.tree ++ rest)) keep.is_word (omega (arith, keep.few_steps)) (omega (arith, keep.few_words))
    limits.numbers (sym spelled ∙ e ∙ seal_parts seal rest) in
    (same.2, same.3)

-- and none without a tree after its words
pub no_seal_tree : (f : Fields) (words bytes after more : List ℕ) → FieldLimits f → bytes ≡ fields_bytes f ++ after → AreWords f.count words
    → after ≡ flat_map (to_le_bytes w32) words ++ more → NoneSpelled tree_bytes IsCanonical more → NoneSpelled seal_bytes SealLimits bytes
no_seal_tree f words bytes after more keep spelled are_words spelled_words none seal rest limits e =
    let same = same_fields f seal bytes after rest keep spelled limits e in
    let long : length (flat_map (to_le_bytes w32) words) ≡ length (flat_map (to_le_bytes w32) seal.words) =
    omega (arith, length-words words, length-words seal.words, are_words.many, same.0) in
    let both = halves (flat_map (to_le_bytes w32) words) more (flat_map (to_le_bytes w32) seal.words) (tree_bytes seal.tree ++ rest) long (sym spelled_words ∙ same.1) in
    none seal.tree rest limits.tree both.1

-- ---- a seal's bytes are those of no other

-- as many words have bytes of their own
pub one_words : (ws vs : List ℕ) (x y : List ℕ) → length ws ≡ length vs → All (λ w. w < 2 ^ 32) ws → All (λ w. w < 2 ^ 32) vs
    → flat_map (to_le_bytes w32) ws ++ x ≡ flat_map (to_le_bytes w32) vs ++ y → (ws ≡ vs) × (x ≡ y)
one_words ws vs x y n p q same =
    let P : ℕ → Type 0 = λ word. word < 2 ^ 32 in
    one_list (to_le_bytes w32) (λ at. P) (λ at. one_number) 0 ws vs x y n (all_fit P 0 ws p) (all_fit P 0 vs q) same

-- seals with the same fields are the same
abbrev seal_of : ℕ → ℕ → List ℕ → Part → Seal
seal_of pc steps words tree = record { pc = pc; steps = steps; words = words; tree = tree }

same_seal : (s r : Seal) → s.pc ≡ r.pc → s.steps ≡ r.steps → s.words ≡ r.words → s.tree ≡ r.tree → s ≡ r
same_seal s r pc steps words tree =
    ap (λ (n : ℕ). seal_of n s.steps s.words s.tree) pc ∙ ap (λ (n : ℕ). seal_of r.pc n s.words s.tree) steps
    ∙ ap (λ (w : List ℕ). seal_of r.pc r.steps w s.tree) words ∙ ap (λ (t : Part). seal_of r.pc r.steps r.words t) tree

-- the bytes of a seal are not the beginning of those of another
pub one_seal : OneSpelled seal_bytes SealLimits
one_seal s r x y p q same =
    let after_s : List ℕ = flat_map (to_le_bytes w32) s.words ++ (tree_bytes s.tree ++ x) in
    let after_r : List ℕ = flat_map (to_le_bytes w32) r.words ++ (tree_bytes r.tree ++ y) in
    let keep = p.numbers in
    let fields = one_fields (fields_of s) (fields_of r) after_s after_r keep.is_word (omega (arith, keep.few_steps)) (omega (arith, keep.few_words)) q.numbers
    (sym (seal_parts s x) ∙ same ∙ seal_parts r y) in
    let words = one_words s.words r.words (tree_bytes s.tree ++ x) (tree_bytes r.tree ++ y) fields.2 p.are_words q.are_words fields.3 in
    let tree = one_canonical s.tree r.tree x y p.tree q.tree words.1 in
    (same_seal s r fields.0 fields.1 words.0 tree.0, tree.1)
