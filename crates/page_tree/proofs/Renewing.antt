-- A block whose children are put in their places, one after the other. H is the digest function; a child has 2^b pages, of which
-- it has those that `at` finds, and is what `Is` says.
use Rattle.std.proofs.Common.{◌≡◌, ◌≢◌, inl, inr, ℕ, zero, suc, ◌+◌, ◌/◌, ◌%◌, ◌^◌, ◌<◌, ◌≤◌, Bool, true, false, eqb, List, [], ◌∷◌, ◌++◌, length, get_or, Option, Some, None, refl, sym, ap, ap₂, ◌∙◌, arith}
use Rattle.std.specs.Prelude.{All, IfSome, ◌==◌, if◌then◌else◌, option_and_then, unwrap_or}
use Rattle.std.specs.Option.{option_or}
use Rattle.std.specs.declared.sync.Arc.{Arc}
use Rattle.std.proofs.Math.ListN.{set}
use Rattle.std.proofs.lemmas.Bool.{eqb-true}
use Rattle.std.proofs.lemmas.Bool.Decides.{eqb_tells}
use Rattle.std.proofs.lemmas.List.{get_or-set_same, get_or-set_other}
use Rattle.page_core.specs.Pages.{Pages, IsPage, zero_page}
use Rattle.part_tree.specs.Tree.{node, node-zero}
use Rattle.part_tree.proofs.Change.{same_pages}
use Rattle.page_tree.specs.Blocks.{place_of, LevelIs, DigestsAre, child_at, page_in, memory_by, IsBlock}
use Rattle.page_tree.specs.Changes.{Untouched, last_of}
use Rattle.page_tree.proofs.Places.{place_inner}
use Rattle.page_tree.proofs.Changed.{last_of-append, last_of-child, last_of-other, option_or-assoc, untouched_none}

-- what is to be put for a child: its pages are those of the child before and of the run, all of them below it
pub record IsRenewed {C : Type 0} (H : List ℕ → List ℕ) (at : C → ℕ → Option (List ℕ)) (Is : C → Type 0) (b i : ℕ) (run : List (ℕ × List ℕ)) (before : Option C) (child : C) (digest : List ℕ) : Type 0 where
  pub below : All (λ p. p.0 / 2 ^ b ≡ i) run
  pub is : Is child
  pub pages : (n : ℕ) → at child n ≡ option_or (last_of (2 ^ b) n run) (option_and_then (λ c. at c n) before)
  pub digest_is : (x : ℕ) → digest ≡ node H (memory_by (at child)) b x

-- the digests of the children, at the height of these
leaf_is : (H : List ℕ → List ℕ) (b : ℕ) (m : Pages) (digests : List (List ℕ)) → LevelIs H m b 0 digests → (x : ℕ) → get_or digests (64 + x % 64) [] ≡ node H m b x
leaf_is H b m digests level x = let zero : b + 0 ≡ b = omega arith in level x ∙ ap (λ (k : ℕ). node H m k x) zero

level_of : (H : List ℕ → List ℕ) (b : ℕ) (m : Pages) (digests : List (List ℕ)) → ((x : ℕ) → get_or digests (64 + x % 64) [] ≡ node H m b x) → LevelIs H m b 0 digests
level_of H b m digests leaves x = let zero : b ≡ b + 0 = omega arith in leaves x ∙ ap (λ (k : ℕ). node H m k x) zero

module _ {C Z : Type 0} (H : List ℕ → List ℕ) (at : C → ℕ → Option (List ℕ)) (Is : C → Type 0) (b : ℕ) where
  -- the pages of a memory that a list of children has
  abbrev memory : List (Option (Arc C Z)) → Pages
  memory children = memory_by (page_in at b children)

  -- what was put so far, of all these pages: the rest is still to be put. The digests above the children are as they were.
  pub record IsRenewing (digests : List (List ℕ)) (children : List (Option (Arc C Z))) (all : List (ℕ × List ℕ)) (digests' : List (List ℕ)) (children' : List (Option (Arc C Z))) (rest : List (ℕ × List ℕ)) : Type 0 where
    pub long : length children' ≡ 64
    pub children_are : (k : ℕ) → IfSome (child_at children' k) Is
    pub pages : (n : ℕ) → option_or (last_of (2 ^ (b + 6)) n rest) (page_in at b children' n) ≡ option_or (last_of (2 ^ (b + 6)) n all) (page_in at b children n)
    pub leaves : LevelIs H (memory children') b 0 digests'
    pub above : (p : ℕ) → p < 64 → get_or digests' p [] ≡ get_or digests p []

  -- nothing is put at first
  pub renewing_first : (digests : List (List ℕ)) (children : List (Option (Arc C Z))) (all : List (ℕ × List ℕ)) → IsBlock H at Is b digests children
      → IsRenewing digests children all digests children all
  renewing_first digests children all block =
      record { long = block.long; children_are = block.children_are; pages = λ n. refl; leaves = block.digests_are 0 (omega arith); above = λ p low. refl }

  -- children with another in the place of one
  abbrev WithChild : ℕ → C → List (Option (Arc C Z)) → List (Option (Arc C Z)) → Type 0
  WithChild i child children children' = (k : ℕ) → child_at children' k ≡ (if k == i % 64 then Some child else child_at children k)

  -- the page of a number below the child that is put, and of another number
  found_in : (i n : ℕ) (child : C) (children children' : List (Option (Arc C Z))) → WithChild i child children children' → n / 2 ^ b % 64 ≡ i % 64
      → page_in at b children' n ≡ at child n
  found_in i n child children children' put same =
      ap (λ (o : Option C). option_and_then (λ c. at c n) o) (put (n / 2 ^ b % 64) ∙ elim (eqb_tells (n / 2 ^ b % 64) (i % 64)) [ inl e ↦ ap (λ t. if t then Some child else child_at children (n / 2 ^ b % 64)) e.0 | inr ne ↦ absurd (ne.1 same) ])

  found_out : (i n : ℕ) (child : C) (children children' : List (Option (Arc C Z))) → WithChild i child children children' → n / 2 ^ b % 64 ≢ i % 64
      → page_in at b children' n ≡ page_in at b children n
  found_out i n child children children' put other =
      ap (λ (o : Option C). option_and_then (λ c. at c n) o) (put (n / 2 ^ b % 64) ∙ elim (eqb_tells (n / 2 ^ b % 64) (i % 64)) [ inl e ↦ absurd (other e.1) | inr ne ↦ ap (λ t. if t then Some child else child_at children (n / 2 ^ b % 64)) ne.0 ])

  -- the pages of the block after the run
  put_pages : (i n : ℕ) (run : List (ℕ × List ℕ)) (child : C) (digest : List ℕ) (children children' : List (Option (Arc C Z)))
      → WithChild i child children children' → IsRenewed H at Is b i run (child_at children (i % 64)) child digest
      → page_in at b children' n ≡ option_or (last_of (2 ^ (b + 6)) n run) (page_in at b children n)
  put_pages i n run child digest children children' put renewed =
      elim (eqb_tells (n / 2 ^ b % 64) (i % 64)) [
        | inl same ↦
            found_in i n child children children' put same.1 ∙ renewed.pages n
            ∙ ap₂ option_or (last_of-child b i n run same.1 renewed.below) (ap (λ (k : ℕ). option_and_then (λ c. at c n) (child_at children k)) (sym same.1))
        | inr other ↦
            found_out i n child children children' put other.1
            ∙ ap (λ (o : Option (List ℕ)). option_or o (page_in at b children n)) (sym (last_of-other b i n run other.1 renewed.below))
      ]

  -- the digests of the children after it
  put_leaves : (i : ℕ) (run : List (ℕ × List ℕ)) (child : C) (digest : List ℕ) (digests : List (List ℕ)) (children children' : List (Option (Arc C Z)))
      → length digests ≡ 128 → WithChild i child children children' → IsRenewed H at Is b i run (child_at children (i % 64)) child digest
      → ((x : ℕ) → get_or digests (64 + x % 64) [] ≡ node H (memory children) b x) → (x : ℕ) → get_or (set digests (64 + i % 64) digest) (64 + x % 64) [] ≡ node H (memory children') b x
  put_leaves i run child digest digests children children' long put renewed leaves x =
      elim (eqb_tells (x % 64) (i % 64)) [
        | inl same ↦
            ap (λ (p : ℕ). get_or (set digests (64 + i % 64) digest) (64 + p) []) same.1
            ∙ get_or-set_same digests (64 + i % 64) digest [] (omega (arith, long))
            ∙ renewed.digest_is x
            ∙ sym (ap H (same_pages H (memory_by (at child)) (memory children') b x
            (λ n below. ap (λ (o : Option (List ℕ)). unwrap_or o zero_page) (found_in i n child children children' put (ap (λ (k : ℕ). k % 64) below ∙ same.1)))).0)
        | inr other ↦
            get_or-set_other digests (64 + i % 64) (64 + x % 64) digest [] (λ e. other.1 (omega (arith, e)))
            ∙ leaves x
            ∙ sym (ap H (same_pages H (memory children) (memory children') b x
            (λ n below. ap (λ (o : Option (List ℕ)). unwrap_or o zero_page) (found_out i n child children children' put (λ e. other.1 (ap (λ (k : ℕ). k % 64) (sym below) ∙ e))))).0)
      ]

  -- one child more is put
  pub renewing_next : (digests : List (List ℕ)) (children : List (Option (Arc C Z))) (all : List (ℕ × List ℕ)) (d d' : List (List ℕ)) (c c' : List (Option (Arc C Z))) (rest run after : List (ℕ × List ℕ))
      (i : ℕ) (child : C) (digest : List ℕ) → IsRenewing digests children all d c rest → rest ≡ run ++ after → length d ≡ 128
      → IsRenewed H at Is b i run (child_at c (i % 64)) child digest → length c' ≡ 64 → WithChild i child c c' → d' ≡ set d (64 + i % 64) digest
      → IsRenewing digests children all d' c' after
  renewing_next digests children all d d' c c' rest run after i child digest renewing parts long renewed whole put is =
      record {
        long = whole;
        children_are = λ k. rw (put k) (elim (eqb k (i % 64)) as (λ t. IfSome (if t then Some child else child_at c k) Is) [ true ↦ renewed.is | false ↦ renewing.children_are k ]);
        pages = λ n.
            ap (option_or (last_of (2 ^ (b + 6)) n after)) (put_pages i n run child digest c c' put renewed)
            ∙ option_or-assoc (last_of (2 ^ (b + 6)) n after) (last_of (2 ^ (b + 6)) n run) (page_in at b c n)
            ∙ ap (λ (o : Option (List ℕ)). option_or o (page_in at b c n)) (sym (last_of-append (2 ^ (b + 6)) n run after) ∙ ap (last_of (2 ^ (b + 6)) n) (sym parts))
            ∙ renewing.pages n;
        leaves = rw is (level_of H b (memory c') (set d (64 + i % 64) digest) (put_leaves i run child digest d c c' long put renewed (leaf_is H b (memory c) d renewing.leaves)));
        above = λ p low. rw is (get_or-set_other d (64 + i % 64) p digest [] (λ e. omega (arith, low, e)) ∙ renewing.above p low);
      }

  -- when all are put, the digests above children without a page below are those of the memory after
  pub renewing_above : (digests : List (List ℕ)) (children : List (Option (Arc C Z))) (all : List (ℕ × List ℕ)) (d : List (List ℕ)) (c : List (Option (Arc C Z)))
      → IsBlock H at Is b digests children → IsRenewing digests children all d c []
      → (k x : ℕ) → 1 ≤ k → k < 6 → Untouched b k x all → get_or d (place_of k x) [] ≡ node H (memory c) (b + k) x
  renewing_above digests children all d c block renewing k x some most away =
      renewing.above (place_of k x) (place_inner k x some)
      ∙ block.digests_are k most x
      ∙ sym (ap H (same_pages H (memory children) (memory c) (b + k) x (λ n below. ap (λ (o : Option (List ℕ)). unwrap_or o zero_page)
      (renewing.pages n ∙ ap (λ (o : Option (List ℕ)). option_or o (page_in at b children n)) (untouched_none b k x n all (omega (arith, most)) below away)))).0)

  -- and with the digests that are computed then it is a block again
  pub renewing_last : (digests : List (List ℕ)) (children : List (Option (Arc C Z))) (all : List (ℕ × List ℕ)) (d d' : List (List ℕ)) (c : List (Option (Arc C Z)))
      → IsRenewing digests children all d c [] → DigestsAre H (memory c) b d' → IsBlock H at Is b d' c
  renewing_last digests children all d d' c renewing are = record { long = renewing.long; digests_are = are; children_are = renewing.children_are }

  -- the digests that are computed from there
  pub renewed_digests : (digests : List (List ℕ)) (children : List (Option (Arc C Z))) (all : List (ℕ × List ℕ)) (d d' : List (List ℕ)) (c : List (Option (Arc C Z)))
      → IsBlock H at Is b digests children → IsRenewing digests children all d c []
      → ((m : Pages) → LevelIs H m b 0 d → ((k x : ℕ) → 1 ≤ k → k < 6 → Untouched b k x all → get_or d (place_of k x) [] ≡ node H m (b + k) x) → DigestsAre H m b d')
      → DigestsAre H (memory c) b d'
  renewed_digests digests children all d d' c block renewing made = made (memory c) renewing.leaves (renewing_above digests children all d c block renewing)

-- a list that the code found empty has no item
pub none_left : (ps : List (ℕ × List ℕ)) (test : Bool) → test ≡ (length ps == 0) → test ≡ true → ps ≡ []
none_left [] test is passed = refl
none_left (p ∷ ps) test is passed = absurd (omega (arith, eqb-true (length (p ∷ ps)) 0 (sym is ∙ passed)))

one_below : (number : ℕ) (page : List ℕ) → All (λ (p : ℕ × List ℕ). p.0 / 2 ^ 0 ≡ number) ((number, page) ∷ [])
one_below number page zero d lt = omega arith
one_below number page (suc k) d lt = absurd (omega (arith, lt))

-- a page that is put: its run is the page alone
pub page_renewed : (H : List ℕ → List ℕ) (number : ℕ) (page digest : List ℕ) (before : Option (List ℕ)) → IsPage page → digest ≡ H page
    → IsRenewed H (λ (p : List ℕ) (n : ℕ). Some p) IsPage 0 number ((number, page) ∷ []) before page digest
page_renewed H number page digest before is made =
    record {
      below = one_below number page;
      is = is;
      pages = λ n. elim (eqb_tells (number % 1) (n % 1)) [ inl same ↦ sym (ap (λ t. option_or (if t then Some page else None) (option_and_then (λ (p : List ℕ). Some p) before)) same.0) | inr other ↦ absurd (other.1 (omega arith)) ];
      digest_is = λ x. made ∙ sym (node-zero H (memory_by (λ n. Some page)) x);
    }
