-- The open pages of a tree as a bus shows them.
use Rattle.std.proofs.Common.{◌≡◌, ◌≢◌, ℕ, suc, ◌+◌, ◌/◌, ◌%◌, ◌<◌, false, List, [], ◌∷◌, get_or, length, take, Option, Some, None, refl, sym, ap, ◌∙◌, subst, arith, cond, ◌||◌, eqb, ⊎_elim}
use Rattle.std.proofs.lemmas.List.Folds.{list_any-append}
use Rattle.std.proofs.Math.Bool.{or-true, or-false}
use Rattle.std.proofs.lemmas.List.Elements.{Contains-get_or}
use Rattle.std.proofs.lemmas.Bool.Decides.{same_from_decides, eqb_tells}
use Rattle.std.proofs.lemmas.Bool.{false≢true}
use Rattle.std.specs.Prelude.{Contains, is_some, unwrap_or}
use Rattle.page_core.specs.Memory.{is_among}
use Rattle.page_core.specs.Pages.{zero_page}
use Rattle.page_core.specs.Memories.{flat}
use Rattle.page_core.proofs.Listed.{Contains-from_is_among, is_among-from_Contains}
use Rattle.part_tree.specs.Part.{Part, IsPart, open_numbers, page_at, fill}
use Rattle.part_tree.proofs.Pages.{opened_open, open_opened, open_below}
use Rattle.rv_step.specs.Opened.{page_in, pages_in}
use Rattle.std.proofs.Math.Seq.{take-suc, take-length}

-- a page is there exactly where it is listed as open
pub open_listed : (t : Part) (page : ℕ) → is_some (page_at 0 t page) ≡ is_among (open_numbers 0 t) page
open_listed t page =
    same_from_decides {P = Contains (open_numbers 0 t) page} _ _
    (open_opened 0 t page, opened_open 0 t page)
    (Contains-from_is_among (open_numbers 0 t) page, is_among-from_Contains (open_numbers 0 t) page)

-- the number of an open page
pub open_number : (t : Part) (page : ℕ) → IsPart 18 t → Contains (open_numbers 0 t) page → page < 262144
open_number t page shape h = let below = open_below 18 0 page t shape (opened_open 0 t page h) in omega (arith, below)

-- pages that are the tree's show the tree's memory
module _ (t : Part) (pages : List (Option (List ℕ))) (same : (number : ℕ) → page_in pages number ≡ page_at 0 t number) where
  pub opens_same : (λ page. is_some (page_in pages page)) ≡ is_among (open_numbers 0 t)
  opens_same = λ i page. (ap is_some (same page) ∙ open_listed t page) i

  pub memory_same : flat (pages_in pages) ≡ flat (fill t)
  memory_same = λ i a. get_or (unwrap_or (same (a / 1024) i) zero_page) (a % 1024) 0

-- ---- opening them one by one
module _ (t : Part) (numbers : List ℕ) (k : ℕ) (shape : IsPart 18 t) (listed : numbers ≡ open_numbers 0 t) (within : k < length numbers) where
  is_listed : Contains (open_numbers 0 t) (get_or numbers k 0)
  is_listed = subst (λ (xs : List ℕ). Contains xs (get_or numbers k 0)) listed (Contains-get_or numbers k 0 within)

  pub item_number : get_or numbers k 0 < 262144
  item_number = open_number t (get_or numbers k 0) shape is_listed

  pub item_open : page_at 0 t (get_or numbers k 0) ≡ None → ⊥
  item_open e = false≢true (sym (ap is_some e) ∙ opened_open 0 t (get_or numbers k 0) is_listed)

-- one more page of those that are open so far
pub opened_on : (f g h : ℕ → Option (List ℕ)) (numbers : List ℕ) (k : ℕ) (page : List ℕ) → k < length numbers → f (get_or numbers k 0) ≡ Some page
    → ((n : ℕ) → g n ≡ cond (is_among (take k numbers) n) (f n) None) → h (get_or numbers k 0) ≡ Some page
    → ((n : ℕ) → n ≢ get_or numbers k 0 → h n ≡ g n) → (n : ℕ) → h n ≡ cond (is_among (take (k + 1) numbers) n) (f n) None
opened_on f g h numbers k page within found before here others n =
    ⊎_elim
    (λ t. ap h t.1 ∙ here ∙ sym found ∙ ap f (sym t.1) ∙ ap (λ b. cond b (f n) None) (sym (listed ∙ ap (λ b. is_among (take k numbers) n || (b || false)) t.0 ∙ or-true (is_among (take k numbers) n))))
    (λ t. others n t.1 ∙ before n ∙ ap (λ b. cond b (f n) None) (sym (listed ∙ ap (λ b. is_among (take k numbers) n || (b || false)) t.0 ∙ or-false (is_among (take k numbers) n))))
    (eqb_tells n (get_or numbers k 0))
  where
    next : k + 1 ≡ suc k
    next = omega arith

    listed : is_among (take (k + 1) numbers) n ≡ (is_among (take k numbers) n || (eqb n (get_or numbers k 0) || false))
    listed = ap (λ j. is_among (take j numbers) n) next ∙ ap (λ xs. is_among xs n) (take-suc numbers k 0 within) ∙ list_any-append (eqb n) (take k numbers) (get_or numbers k 0 ∷ [])

-- all of them
pub opened_all : (t : Part) (numbers : List ℕ) (k : ℕ) (pages : List (Option (List ℕ))) → numbers ≡ open_numbers 0 t → k ≡ length numbers
    → ((n : ℕ) → page_in pages n ≡ cond (is_among (take k numbers) n) (page_at 0 t n) None) → (n : ℕ) → page_in pages n ≡ page_at 0 t n
opened_all t numbers k pages listed all before n =
    before n
    ∙ ap (λ xs. cond (is_among xs n) (page_at 0 t n) None) (ap (λ j. take j numbers) all ∙ take-length numbers ∙ listed)
    ∙ ap (λ b. cond b (page_at 0 t n) None) (sym (open_listed t n)) ∙ itself (page_at 0 t n)
  where
    itself : (o : Option (List ℕ)) → cond (is_some o) o None ≡ o
    itself (Some x) = refl
    itself None = refl
