-- The pages and digests below one child of a block. H is the digest function; a child has 2^b pages, of which it has those that
-- `at` finds.
use Rattle.std.proofs.Common.{◌≡◌, ℕ, zero, suc, ◌+◌, ◌-◌, ◌/◌, ◌%◌, ◌^◌, ◌<◌, ◌≤◌, List, [], ◌∷◌, ◌++◌, length, get_or, Option, Some, None, Result, Ok, Err, refl, sym, ap, ◌∙◌, arith}
use Rattle.std.specs.Prelude.{IfSome, IfOk, option_and_then, unwrap_or}
use Rattle.std.specs.declared.sync.Arc.{Arc}
use Rattle.std.proofs.lemmas.Nat.{shr-shr}
use Rattle.page_core.specs.Pages.{IsPage, zero_page}
use Rattle.part_tree.specs.Tree.{node, IsBelow}
use Rattle.part_tree.proofs.Change.{same_pages}
use Rattle.page_tree.specs.Blocks.{place_of, zero_node, child_at, page_in, memory_by, IsBlock}
use Rattle.page_tree.proofs.Unstored.{zeros_below}

-- a page below a node is below the child that the node is below
under : (b h x n : ℕ) → h ≤ b → IsBelow h x n → n / 2 ^ b ≡ x / 2 ^ (b - h)
under b h x n low below =
    let whole : b ≡ h + (b - h) = omega (arith, low) in
    ap (λ (k : ℕ). n / 2 ^ k) whole ∙ sym (shr-shr n h (b - h)) ∙ ap (λ (i : ℕ). i / 2 ^ (b - h)) below

module _ {C Z : Type 0} (H : List ℕ → List ℕ) (at : C → ℕ → Option (List ℕ)) (b : ℕ) where
  -- the digest of a node below a child is the child's
  pub child_node : (h x : ℕ) (children : List (Option (Arc C Z))) (child : C) → h ≤ b → Some child ≡ child_at children (x / 2 ^ (b - h) % 64)
      → node H (memory_by (at child)) h x ≡ node H (memory_by (page_in at b children)) h x
  child_node h x children child low is =
      ap H (same_pages H (memory_by (page_in at b children)) (memory_by (at child)) h x
      (λ n below. ap (λ (o : Option C). unwrap_or (option_and_then (λ c. at c n) o) zero_page)
      (is ∙ ap (λ (i : ℕ). child_at children (i % 64)) (sym (under b h x n low below))))).0

  -- and below an absent child it is that of zeros
  pub absent_node : (h x : ℕ) (children : List (Option (Arc C Z))) → h ≤ b → None ≡ child_at children (x / 2 ^ (b - h) % 64)
      → zero_node H h ≡ node H (memory_by (page_in at b children)) h x
  absent_node h x children low is =
      zeros_below H (memory_by (page_in at b children)) h x 0
      (λ n below. ap (λ (o : Option C). unwrap_or (option_and_then (λ c. at c n) o) zero_page)
      (ap (λ (i : ℕ). child_at children (i % 64)) (under b h x n low below) ∙ sym is))

  -- a block with the children and digests of another has its pages
  pub same_found : (children children' : List (Option (Arc C Z))) → ((k : ℕ) → child_at children' k ≡ child_at children k) → (n : ℕ) → page_in at b children' n ≡ page_in at b children n
  same_found children children' same n = ap (λ (o : Option C). option_and_then (λ c. at c n) o) (same (n / 2 ^ b % 64))

  pub same_block : (Is : C → Type 0) (digests digests' : List (List ℕ)) (children children' : List (Option (Arc C Z))) → IsBlock H at Is b digests children
      → digests' ≡ digests → length children' ≡ 64 → ((k : ℕ) → child_at children' k ≡ child_at children k) → IsBlock H at Is b digests' children'
  same_block Is digests digests' children children' block kept long same =
      record {
        long = long;
        digests_are = λ k most x. rw kept (block.digests_are k most x ∙ sym (ap H (same_pages H (memory_by (page_in at b children)) (memory_by (page_in at b children')) (b + k) x
            (λ n below. ap (λ (o : Option (List ℕ)). unwrap_or o zero_page) (same_found children children' same n))).0));
        children_are = λ k. rw (same k) (block.children_are k);
      }

  -- and one without children has none
  pub none_found : (children : List (Option (Arc C Z))) → ((k : ℕ) → child_at children k ≡ None) → (n : ℕ) → page_in at b children n ≡ None
  none_found children none n = ap (λ (o : Option C). option_and_then (λ c. at c n) o) (none (n / 2 ^ b % 64))

  pub zero_block : (Is : C → Type 0) (digests : List (List ℕ)) (children : List (Option (Arc C Z))) → length children ≡ 64 → ((k : ℕ) → child_at children k ≡ None)
      → ((k x : ℕ) → k < 6 → get_or digests (place_of k x) [] ≡ zero_node H (b + k)) → IsBlock H at Is b digests children
  zero_block Is digests children long none zeros =
      record {
        long = long;
        digests_are = λ k most x. zeros k x most ∙ zeros_below H (memory_by (page_in at b children)) (b + k) x 0 (λ n below. ap (λ (o : Option (List ℕ)). unwrap_or o zero_page) (none_found children none n));
        children_are = λ k. rw (none k) tt;
      }

-- three facts of one result together
pub ok_three : {T E : Type 0} (r : Result T E) (P Q R S : T → Type 0) → ((x : T) → P x → Q x → R x → S x) → IfOk r P → IfOk r Q → IfOk r R → IfOk r S
ok_three (Ok x) P Q R S all p q r = all x p q r
ok_three (Err e) P Q R S all p q r = tt

found_page : {C : Type 0} (at : C → ℕ → Option (List ℕ)) (Is : C → Type 0) (n : ℕ) (o : Option C) → IfSome o Is → ((child : C) → Is child → IfSome (at child n) IsPage)
    → IfSome (option_and_then (λ child. at child n) o) IsPage
found_page at Is n None is each = tt
found_page at Is n (Some child) is each = each child is

-- the pages of a block are pages, where those of its children are
pub are_pages : {C Z : Type 0} (at : C → ℕ → Option (List ℕ)) (Is : C → Type 0) (b n : ℕ) (children : List (Option (Arc C Z))) → ((k : ℕ) → IfSome (child_at children k) Is)
    → ((child : C) → Is child → IfSome (at child n) IsPage) → IfSome (page_in at b children n) IsPage
are_pages at Is b n children is each = found_page at Is n (child_at children (n / 2 ^ b % 64)) (is (n / 2 ^ b % 64)) each

-- a child more, which is absent
pub absent_more : {C Z : Type 0} (children : List (Option (Arc C Z))) → ((k : ℕ) → child_at children k ≡ None) → (k : ℕ) → child_at (children ++ None ∷ []) k ≡ None
absent_more [] none zero = refl
absent_more [] none (suc k) = refl
absent_more (child ∷ children) none zero = none 0
absent_more (child ∷ children) none (suc k) = absent_more children (λ j. none (suc j)) k
