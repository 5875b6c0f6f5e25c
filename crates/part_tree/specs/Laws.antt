-- What holds of every part tree and every memory.
use Rattle.std.specs.Prelude.{◌≡◌, ◌⊎◌, ◌↔◌, ℕ, ◌<◌, ◌≤◌, List, ◌++◌, length, All, None, Contains, IsSome, option_map}
use Rattle.digest_core.specs.Digests.{IsBytes}
use Rattle.page_core.specs.Pages.{Pages, ArePages, with_page}
use Rattle.part_tree.specs.Tree.{node, tree_strings, IsBelow}
use Rattle.part_tree.specs.Part.{Part, IsPart, root_of, part_strings, open_numbers, page_at, fill, put_part, Agree, part_of}
use Rattle.part_tree.specs.Canonical.{IsCanonical}
use Rattle.part_tree.specs.Splits.{split_of, Exhibits}
use Rattle.page_core.specs.declared.sizes.TheConstants.{PAGES}
use Rattle.part_tree.specs.declared.sizes.TheConstants.{HEIGHT, MOST_PAGES}

-- a part tree that agrees with a memory splits nowhere from it
abbrev pub AgreeUnsplit : (List ℕ → List ℕ) → Type 0
AgreeUnsplit H = (m : Pages) (h i : ℕ) (t : Part) → Agree H m h i t → split_of H m h i t ≡ None

-- a part tree with a memory's digest agrees with that memory, or the two strings of its first split are a collision
abbrev pub SplitExhibits : (List ℕ → List ℕ) → Type 0
SplitExhibits H = (m : Pages) (h i : ℕ) (t : Part) → IsPart h t → root_of H t ≡ node H m h i
    → Agree H m h i t ⊎ Exhibits H (part_strings H t ++ tree_strings H m h i) (split_of H m h i t)

-- the memories are the same on each page under the node that isn't open in the tree
abbrev pub SameUnopened : Pages → Pages → ℕ → ℕ → Part → Type 0
SameUnopened m m' h i t = (page : ℕ) → IsBelow h i page → (Contains (open_numbers i t) page → ⊥) → m' page ≡ m page

-- where pages change that are open alone, the tree with these pages in it agrees with the memory after
abbrev pub PutKeepsAgreement : (List ℕ → List ℕ) → Type 0
PutKeepsAgreement H = (m m' : Pages) (h i : ℕ) (t : Part) → Agree H m h i t → SameUnopened m m' h i t → Agree H m' h i (put_part i t m')

-- and each string of the memory after was hashed for the memory before, or is hashed for that tree
abbrev pub PutHasNewStrings : (List ℕ → List ℕ) → Type 0
PutHasNewStrings H = (m m' : Pages) (h i : ℕ) (t : Part) → Agree H m h i t → SameUnopened m m' h i t → (x : List ℕ)
    → Contains (tree_strings H m' h i) x → Contains (tree_strings H m h i) x ⊎ Contains (part_strings H (put_part i t m')) x

-- the open pages of a tree, by their list and one at a time
abbrev pub OpenedAreOpen : Type 0
OpenedAreOpen = (i : ℕ) (t : Part) (number : ℕ) → Contains (open_numbers i t) number ↔ IsSome (page_at i t number)

-- after a put, the open pages are those before, with the memory's bytes
abbrev pub PutChangesPages : Type 0
PutChangesPages = (i : ℕ) (t : Part) (m : Pages) (number : ℕ) → page_at i (put_part i t m) number ≡ option_map (λ _. m number) (page_at i t number)

-- of two puts the last counts
abbrev pub PutTwice : Type 0
PutTwice = (i : ℕ) (t : Part) (m m' : Pages) → put_part i (put_part i t m) m' ≡ put_part i t m'

-- putting the pages that are there changes nothing
abbrev pub PutSame : Type 0
PutSame = (t : Part) → IsPart HEIGHT t → put_part 0 t (fill t) ≡ t

-- after a write to an open page, the memory is that before with this page in place of one
abbrev pub PutFills : Type 0
PutFills = (t : Part) (number : ℕ) (bytes : List ℕ) → IsSome (page_at 0 t number) → (page : ℕ) → fill (put_part 0 t (with_page (fill t) number bytes)) page ≡ with_page (fill t) number bytes page

-- a memory's part tree agrees with it
abbrev pub PartAgrees : (List ℕ → List ℕ) → Type 0
PartAgrees H = (m : Pages) (pages : List ℕ) (h i : ℕ) → Agree H m h i (part_of H m pages h i)

-- and opens exactly the pages that are asked for
abbrev pub PartOpens : (List ℕ → List ℕ) → Type 0
PartOpens H = (m : Pages) (pages : List ℕ) (h i number : ℕ) → Contains (open_numbers i (part_of H m pages h i)) number ↔ (Contains pages number × IsBelow h i number)

-- where these are 1 to 4,096 pages of the memory, the tree has its canonical form
abbrev pub PartIsCanonical : (List ℕ → List ℕ) → Type 0
PartIsCanonical H = (m : Pages) (pages : List ℕ) → ArePages m → All (λ page. page < PAGES) pages → 1 ≤ length pages → length pages ≤ MOST_PAGES → IsCanonical (part_of H m pages HEIGHT 0)

-- a tree that agrees has its shape and the digest of the memory's node
abbrev pub AgreeTells : (List ℕ → List ℕ) → Type 0
AgreeTells H = (m : Pages) (h i : ℕ) (t : Part) → ArePages m → Agree H m h i t → IsPart h t × (root_of H t ≡ node H m h i)

-- what is hashed are bytes: a collision of two of these strings is one of the digest function on bytes
abbrev pub StringsAreBytes : (List ℕ → List ℕ) → Type 0
StringsAreBytes H = (m : Pages) (h i : ℕ) (t : Part) (x : List ℕ) → ArePages m → IsPart h t → Contains (tree_strings H m h i) x ⊎ Contains (part_strings H t) x → IsBytes x
