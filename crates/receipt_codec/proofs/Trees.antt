-- What the front of some bytes says of a tree that they spell.
use Rattle.std.proofs.Common.{◌≡◌, ◌≢◌, ℕ, zero, suc, ◌-◌, ◌<◌, List, ◌∷◌, ◌++◌, length, sym, ap, subst, ◌∙◌, append_assoc, length-append, arith}
use Rattle.part_tree.specs.Part.{Part, pruned, branch, leaf, IsPart}
use Rattle.part_tree.specs.Canonical.{IsCanonical}
use Rattle.part_tree.proofs.Strings.{halves}
use Rattle.receipt_types.specs.Spelling.{tree_bytes}
use Rattle.receipt_codec.specs.Reading.{NoneSpelled, OneSpelled}

-- the bytes of a tree are not the beginning of those of another tree of its height
pub one_tree : (h : ℕ) (t u : Part) (x y : List ℕ) → IsPart h t → IsPart h u → tree_bytes t ++ x ≡ tree_bytes u ++ y → (t ≡ u) × (x ≡ y)
one_tree h (pruned d) (pruned e) x y p q same =
    let b = halves d x e y (p.0 ∙ sym q.0) (cc) in
    (ap pruned b.0, b.1)
one_tree h (pruned d) (branch l r) x y p q same = absurd cc
one_tree h (pruned d) (leaf b) x y p q same = absurd cc
one_tree h (branch l r) (pruned e) x y p q same = absurd cc
one_tree zero (branch l r) (branch m s) x y p q same = absurd p
one_tree (suc h) (branch l r) (branch m s) x y p q same =
    let tail : (tree_bytes l ++ tree_bytes r) ++ x ≡ (tree_bytes m ++ tree_bytes s) ++ y = cc in
    let parts : tree_bytes l ++ (tree_bytes r ++ x) ≡ tree_bytes m ++ (tree_bytes s ++ y) =
    sym (append_assoc (tree_bytes l) (tree_bytes r) x) ∙ tail ∙ append_assoc (tree_bytes m) (tree_bytes s) y in
    let left = one_tree h l m (tree_bytes r ++ x) (tree_bytes s ++ y) p.0 q.0 parts in
    let right = one_tree h r s x y p.1 q.1 left.1 in
    (cc (left.0, right.0), right.1)
one_tree h (branch l r) (leaf b) x y p q same = absurd cc
one_tree h (leaf a) (pruned e) x y p q same = absurd cc
one_tree h (leaf a) (branch m s) x y p q same = absurd cc
one_tree zero (leaf a) (leaf b) x y p q same =
    let c = halves a x b y (p.0 ∙ sym q.0) (cc) in
    (ap leaf c.0, c.1)
one_tree (suc h) (leaf a) (leaf b) x y p q same = absurd p

-- nothing is spelled by no bytes
pub no_byte : (h : ℕ) (bytes : List ℕ) → length bytes < 1 → NoneSpelled tree_bytes (IsPart h) bytes
no_byte h bytes short (pruned d) rest shape e = omega (arith, ap length e)
no_byte h bytes short (branch l r) rest shape e = omega (arith, ap length e)
no_byte h bytes short (leaf p) rest shape e = omega (arith, ap length e)

-- the first byte is that of no node of this height
pub no_node : (h kind : ℕ) (bytes after : List ℕ) → bytes ≡ kind ∷ after → kind ≢ 0 → (kind ≡ 1 → h ≡ 0) → (kind ≡ 2 → 0 < h) → NoneSpelled tree_bytes (IsPart h) bytes
no_node h kind bytes after front not_pruned one two (pruned d) rest shape e = not_pruned (cc)
no_node zero kind bytes after front not_pruned one two (branch l r) rest shape e = shape
no_node (suc h) kind bytes after front not_pruned one two (branch l r) rest shape e =
    let k : kind ≡ 1 = cc in omega (arith, one k)
no_node zero kind bytes after front not_pruned one two (leaf p) rest shape e =
    let k : kind ≡ 2 = cc in omega (arith, two k)
no_node (suc h) kind bytes after front not_pruned one two (leaf p) rest shape e = shape

-- a pruned node's digest wants 32 bytes
pub no_digest : (h : ℕ) (bytes after : List ℕ) → bytes ≡ 0 ∷ after → length after < 32 → NoneSpelled tree_bytes (IsPart h) bytes
no_digest h bytes after front short (pruned d) rest shape e =
    let tail : after ≡ d ++ rest = cc in
    omega (arith, ap length tail, length-append d rest, shape.0)
no_digest h bytes after front short (branch l r) rest shape e = cc
no_digest h bytes after front short (leaf p) rest shape e = cc

-- a page wants 1,024 bytes
pub no_page : (h : ℕ) (bytes after : List ℕ) → bytes ≡ 2 ∷ after → length after < 1024 → NoneSpelled tree_bytes (IsPart h) bytes
no_page h bytes after front short (pruned d) rest shape e = cc
no_page h bytes after front short (branch l r) rest shape e = cc
no_page zero bytes after front short (leaf p) rest shape e =
    let tail : after ≡ p ++ rest = cc in
    omega (arith, ap length tail, length-append p rest, shape.0)
no_page (suc h) bytes after front short (leaf p) rest shape e = shape

-- a branch wants a node below it on the left
pub no_left : (h : ℕ) (bytes after : List ℕ) → bytes ≡ 1 ∷ after → NoneSpelled tree_bytes (IsPart (h - 1)) after → NoneSpelled tree_bytes (IsPart h) bytes
no_left h bytes after front none (pruned d) rest shape e = cc
no_left zero bytes after front none (branch l r) rest shape e = shape
no_left (suc h) bytes after front none (branch l r) rest shape e =
    let at : suc h - 1 ≡ h = omega arith in
    let below = rw at at none in
    let tail : after ≡ (tree_bytes l ++ tree_bytes r) ++ rest = cc in
    below l (tree_bytes r ++ rest) shape.0 (tail ∙ append_assoc (tree_bytes l) (tree_bytes r) rest)
no_left h bytes after front none (leaf p) rest shape e = cc

-- and one on the right
pub no_right : (h : ℕ) (left : Part) (bytes after more : List ℕ) → bytes ≡ 1 ∷ after → IsPart (h - 1) left → after ≡ tree_bytes left ++ more → NoneSpelled tree_bytes (IsPart (h - 1)) more
    → NoneSpelled tree_bytes (IsPart h) bytes
no_right h left bytes after more front is_left spelled none (pruned d) rest shape e = cc
no_right zero left bytes after more front is_left spelled none (branch l r) rest shape e = shape
no_right (suc h) left bytes after more front is_left spelled none (branch l r) rest shape e =
    let at : suc h - 1 ≡ h = omega arith in
    let below = rw at at none in
    let here = rw at at is_left in
    let tail : after ≡ (tree_bytes l ++ tree_bytes r) ++ rest = cc in
    let parts : tree_bytes left ++ more ≡ tree_bytes l ++ (tree_bytes r ++ rest) = sym spelled ∙ tail ∙ append_assoc (tree_bytes l) (tree_bytes r) rest in
    let both = one_tree h left l more (tree_bytes r ++ rest) here shape.0 parts in
    below r rest shape.1 both.1
no_right h left bytes after more front is_left spelled none (leaf p) rest shape e = cc

-- the one tree that the bytes spell is not canonical
pub no_other : (tree : Part) (bytes after : List ℕ) → IsPart 18 tree → bytes ≡ tree_bytes tree ++ after → (IsCanonical tree → ⊥) → NoneSpelled tree_bytes IsCanonical bytes
no_other tree bytes after shape spelled refused t rest canonical e =
    let both = one_tree 18 tree t after rest shape canonical.shape (sym spelled ∙ e) in
    refused (subst (λ (u : Part). IsCanonical u) (sym both.0) canonical)

-- and those of a canonical tree are not the beginning of those of another
pub one_canonical : OneSpelled tree_bytes IsCanonical
one_canonical t u x y p q same = one_tree 18 t u x y p.shape q.shape same
