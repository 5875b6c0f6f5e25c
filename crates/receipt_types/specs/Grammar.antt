-- The grammar of a receipt, version 1, rule by rule: which bytes spell what. Numbers are little-endian.
use Rattle.std.specs.Prelude.{◌≡◌, ℕ, zero, suc, ◌+◌, ◌%◌, ◌^◌, ◌<◌, ◌≤◌, List, [], ◌∷◌, ◌++◌, length, codes}
use Rattle.std.specs.Int.{w16, w32, to_le_bytes}
use Rattle.digest_core.specs.Digests.{IsDigest}
use Rattle.page_core.specs.Pages.{IsPage}
use Rattle.part_tree.specs.Part.{Part, pruned, branch, leaf}
use Rattle.part_tree.specs.Canonical.{page_count, BranchesOpen, IsBranch}
use Rattle.receipt_types.specs.Seals.{Seal}
use Rattle.receipt_types.specs.Bundles.{Entry, Bundle}
use Rattle.part_tree.specs.declared.sizes.TheConstants.{HEIGHT, MOST_PAGES}
use Rattle.receipt_types.specs.declared.sizes.TheConstants.{MOST_ENTRIES, MOST_LINKS, MOST_SEALS, MOST_STEPS, MOST_WORDS}

-- a number of two bytes, and one of four
abbrev pub HalfRule : ℕ → List ℕ → Type 0
HalfRule n bytes = (n < 2 ^ 16) × (bytes ≡ to_le_bytes w16 n)

abbrev pub WordRule : ℕ → List ℕ → Type 0
WordRule n bytes = (n < 2 ^ 32) × (bytes ≡ to_le_bytes w32 n)

-- items one after the other, each by its rule
abbrev pub EachRule : {A : Type 0} → (A → List ℕ → Type 0) → List A → List ℕ → Type 0
EachRule Rule [] bytes = bytes ≡ []
EachRule Rule (x ∷ xs) bytes = (front : List ℕ) × (rest : List ℕ) × (bytes ≡ front ++ rest) × Rule x front × EachRule Rule xs rest

-- a node of height h in preorder: byte 0 and 32 bytes is a pruned digest; byte 1, then left, then right is a branch; byte 2 and 1,024 bytes is a page
abbrev pub NodeRule : ℕ → Part → List ℕ → Type 0
NodeRule h (pruned digest) bytes = IsDigest digest × (bytes ≡ 0 ∷ digest)
NodeRule zero (branch left right) bytes = ⊥
NodeRule (suc h) (branch left right) bytes = (first : List ℕ) × (second : List ℕ) × (bytes ≡ 1 ∷ (first ++ second)) × NodeRule h left first × NodeRule h right second
NodeRule zero (leaf page) bytes = IsPage page × (bytes ≡ 2 ∷ page)
NodeRule (suc h) (leaf page) bytes = ⊥

-- the whole tree has height 18, its root is a branch, every branch has a page below it, and at most 4,096 pages are open
pub record TreeRule (t : Part) (bytes : List ℕ) : Type 0 where
  pub node : NodeRule HEIGHT t bytes
  pub root : IsBranch t
  pub branches : BranchesOpen t
  pub few : page_count t ≤ MOST_PAGES

-- pc, a multiple of 4; steps, 1 to 16,777,216; number of words, at most 16,777,216; the words; the tree
pub record SealRule (seal : Seal) (bytes : List ℕ) : Type 0 where
  pub pc : List ℕ
  pub steps : List ℕ
  pub count : List ℕ
  pub words : List ℕ
  pub tree : List ℕ
  pub parts : bytes ≡ pc ++ (steps ++ (count ++ (words ++ tree)))
  pub is_pc : WordRule seal.pc pc
  pub aligned : seal.pc % 4 ≡ 0
  pub is_steps : WordRule seal.steps steps
  pub some_steps : 0 < seal.steps
  pub few_steps : seal.steps ≤ MOST_STEPS
  pub is_count : WordRule (length seal.words) count
  pub few_words : length seal.words ≤ MOST_WORDS
  pub are_words : EachRule WordRule seal.words words
  pub is_tree : TreeRule seal.tree tree

-- a link of entry e of n: greater than e and less than n
abbrev pub LinkRule : ℕ → ℕ → ℕ → List ℕ → Type 0
LinkRule e n link bytes = (e < link) × (link < n) × HalfRule link bytes

-- entry e of n: number of links, at most 16,777,216; number of seals, 1 to 65,535; the links; the seals
pub record EntryRule (e n : ℕ) (entry : Entry) (bytes : List ℕ) : Type 0 where
  pub link_count : List ℕ
  pub seal_count : List ℕ
  pub links : List ℕ
  pub seals : List ℕ
  pub parts : bytes ≡ link_count ++ (seal_count ++ (links ++ seals))
  pub is_link_count : WordRule (length entry.links) link_count
  pub few_links : length entry.links ≤ MOST_LINKS
  pub is_seal_count : WordRule (length entry.seals) seal_count
  pub some_seals : 0 < length entry.seals
  pub few_seals : length entry.seals ≤ MOST_SEALS
  pub are_links : EachRule (LinkRule e n) entry.links links
  pub are_seals : EachRule SealRule entry.seals seals

-- the entries from entry e of n on
abbrev pub EntriesRule : ℕ → ℕ → List Entry → List ℕ → Type 0
EntriesRule e n [] bytes = bytes ≡ []
EntriesRule e n (entry ∷ entries) bytes = (front : List ℕ) × (rest : List ℕ) × (bytes ≡ front ++ rest) × EntryRule e n entry front × EntriesRule (e + 1) n entries rest

-- "SEAL"; the version, 1; the number of entries, 1 to 256; the entries; and nothing follows
pub record BundleRule (B : Bundle) (bytes : List ℕ) : Type 0 where
  pub version : List ℕ
  pub count : List ℕ
  pub entries : List ℕ
  pub parts : bytes ≡ codes "SEAL" ++ (version ++ (count ++ entries))
  pub is_version : HalfRule 1 version
  pub is_count : HalfRule (length B) count
  pub some_entries : 0 < length B
  pub few_entries : length B ≤ MOST_ENTRIES
  pub are_entries : EntriesRule 0 (length B) B entries
