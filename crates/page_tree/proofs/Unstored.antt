-- The digests of the nodes with no stored page below. H is the digest function.
use Rattle.std.proofs.Common.{◌≡◌, ℕ, zero, suc, ◌+◌, ◌-◌, ◌*◌, ◌<◌, ◌≤◌, List, [], ◌∷◌, ◌++◌, length, get_or, refl, sym, ap, ◌∙◌, arith, below_more}
use Rattle.std.proofs.Math.ListN.{set}
use Rattle.std.proofs.lemmas.List.{get_or_default, get_or-set_same, get_or-set_other}
use Rattle.page_core.specs.Pages.{Pages, zero_page}
use Rattle.part_tree.specs.Tree.{node, node_string, node-zero, node-suc, IsBelow}
use Rattle.part_tree.proofs.Below.{below_left, below_right, below_itself}
use Rattle.page_tree.specs.Blocks.{zero_node}

-- the node of a memory with zeros below it, whatever its number
pub zeros_below : (H : List ℕ → List ℕ) (m : Pages) (h i j : ℕ) → ((number : ℕ) → IsBelow h i number → m number ≡ zero_page) → node H (λ page. zero_page) h j ≡ node H m h i
unfolding node_string
zeros_below H m zero i j zeros = ap H (sym (zeros i (below_itself i)))
zeros_below H m (suc h) i j zeros =
    rw (zeros_below H m h (2 * i) (2 * j) (λ number b. zeros number (below_left h i number b)), zeros_below H m h (2 * i + 1) (2 * j + 1) (λ number b. zeros number (below_right h i number b))) refl

-- the digest of a node in a memory of zeros is that of two digests of the height below
zero_twice : (H : List ℕ → List ℕ) (h : ℕ) → zero_node H (suc h) ≡ H (zero_node H h ++ zero_node H h)
zero_twice H h = node-suc H (λ page. zero_page) h 0 ∙ ap (λ (d : List ℕ). H (zero_node H h ++ d)) (zeros_below H (λ page. zero_page) h 0 1 (λ page b. refl))

-- a table that begins with the digest of a page of zeros
pub zero_first : (H : List ℕ → List ℕ) (d : List ℕ) (ds : List (List ℕ)) → d ≡ H zero_page → (h : ℕ) → h < 1 → get_or (d ∷ ds) h [] ≡ zero_node H h
zero_first H d ds is zero low = is ∙ sym (node-zero H (λ page. zero_page) 0)
zero_first H d ds is (suc h) low = absurd (omega (arith, low))

-- the next digest of the table
zero_next : (H : List ℕ → List ℕ) (height : ℕ) (below d : List ℕ) → 1 ≤ height → below ≡ zero_node H (height - 1) → d ≡ H (below ++ below) → d ≡ zero_node H height
zero_next H zero below d some is made = absurd (omega (arith, some))
zero_next H (suc h) below d some is made =
    let at : suc h - 1 ≡ h = omega arith in
    let e = rw at at is in
    made ∙ rw e (sym (zero_twice H h))

-- a table with one digest more
pub zero_more : (H : List ℕ → List ℕ) (digests : List (List ℕ)) (height : ℕ) (d e : List ℕ) → 1 ≤ height → height < length digests
    → ((h : ℕ) → h < height → get_or digests h [] ≡ zero_node H h)
    → d ≡ H (get_or digests (height - 1) e ++ get_or digests (height - 1) e)
    → (h : ℕ) → h < height + 1 → get_or (set digests height d) h [] ≡ zero_node H h
zero_more H digests height d e some within known made =
    let below = get_or_default digests (height - 1) e [] (omega arith) ∙ known (height - 1) (omega arith) in
    below_more _ _
    (λ h low. get_or-set_other digests height h d [] (λ e. omega (arith, low, e)) ∙ known h low)
    (get_or-set_same digests height d [] within ∙ zero_next H height (get_or digests (height - 1) e) d some below made)
