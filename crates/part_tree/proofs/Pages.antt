-- The open pages of a part tree.
use Rattle.std.proofs.Common.{◌≡◌, ◌≢◌, ◌⊎◌, inl, inr, ℕ, zero, suc, ◌+◌, ◌-◌, ◌*◌, ◌/◌, ◌%◌, ◌^◌, ◌==◌, Bool, true, false, List, Option, Some, None, refl, sym, ap, subst, ◌∙◌, arith}
use Rattle.std.specs.Option.{option_or}
use Rattle.std.proofs.lemmas.Bool.Decides.{nat_tests, eqb_tells}
use Rattle.part_tree.specs.Tree.{IsBelow}
use Rattle.page_core.specs.Pages.{Pages, zero_page, with_page}
use Rattle.part_tree.specs.Part.{Part, pruned, branch, leaf, IsPart, HasPages, page_at, open_numbers, fill, put_part}
use Rattle.part_tree.proofs.Strings.{Contains-one}
use Rattle.part_tree.proofs.Below.{below_left, below_right, below_one, below_itself, side_left, side_right}
use Rattle.std.specs.Prelude.{unwrap_or, option_map, is_some, IsSome, Contains, if◌then◌else◌}
use Rattle.std.proofs.lemmas.List.Elements.{Contains-append_left, Contains-append_right, Contains-append_cases}

-- the choices that `page_at` and `with_page` make
if-same : {A : Type 0} (i : ℕ) (x y : A) → (if i == i then x else y) ≡ x
if-same i x y = let here : (i == i) ≡ true = grind (arith, nat_tests) in ap (λ (b : Bool). if b then x else y) here

if-other : {A : Type 0} (p i : ℕ) (x y : A) → p ≢ i → (if p == i then x else y) ≡ y
if-other p i x y other = let off : (p == i) ≡ false = grind (arith, nat_tests) in ap (λ (b : Bool). if b then x else y) off

-- no page is open that isn't below the node
pub page_at-elsewhere : (h i number : ℕ) (t : Part) → IsPart h t → (IsBelow h i number → ⊥) → page_at i t number ≡ None
page_at-elsewhere h i number (pruned digest) shape elsewhere = refl
page_at-elsewhere zero i number (branch left right) shape elsewhere = absurd shape
page_at-elsewhere (suc h) i number (branch left right) shape elsewhere =
    rw (
      page_at-elsewhere h (2 * i) number left shape.0 (λ b. elsewhere (below_left h i number b)),
      page_at-elsewhere h (2 * i + 1) number right shape.1 (λ b. elsewhere (below_right h i number b)),
    ) refl
page_at-elsewhere zero i number (leaf page) shape elsewhere =
    if-other number i (Some page) None (λ e. elsewhere (below_itself number ∙ e))
page_at-elsewhere (suc h) i number (leaf page) shape elsewhere = absurd shape

pub open_below : (h i number : ℕ) (t : Part) → IsPart h t → IsSome (page_at i t number) → IsBelow h i number
open_below h i number t shape is_open =
    elim (eqb_tells (number / 2 ^ h) i) [ inl e ↦ e.1 | inr n ↦ let no = rw (page_at-elsewhere h i number t shape n.1) at is_open in cc ]

option_or-none : {T : Type 0} (o : Option T) → option_or o None ≡ o
option_or-none None = refl
option_or-none (Some x) = refl

-- a page below one side is open there or nowhere
page_at-below_left : (h i number : ℕ) (left right : Part) → IsPart h right → IsBelow h (2 * i) number → page_at i (branch left right) number ≡ page_at (2 * i) left number
page_at-below_left h i number left right shape b =
    rw (page_at-elsewhere h (2 * i + 1) number right shape (below_one h i number b)) (option_or-none (page_at (2 * i) left number))

page_at-below_right : (h i number : ℕ) (left right : Part) → IsPart h left → IsBelow h (2 * i + 1) number → page_at i (branch left right) number ≡ page_at (2 * i + 1) right number
page_at-below_right h i number left right shape b = rw (page_at-elsewhere h (2 * i) number left shape (λ c. below_one h i number c b)) refl

-- a page of the left side is the tree's
pub page_at-left : (height i number : ℕ) (left right : Part) (found : Option (List ℕ)) → IsPart height (branch left right) → IsBelow height i number
    → number / 2 ^ (height - 1) % 2 ≡ 0 → found ≡ page_at (number / 2 ^ (height - 1)) left number → found ≡ page_at i (branch left right) number
page_at-left zero i number left right found shape below even e = absurd shape
page_at-left (suc h) i number left right found shape below even e =
    let at : suc h - 1 ≡ h = omega arith in
    let here = side_left h i number below (rw at at even) in
    (rw (at, here) at e) ∙ sym (page_at-below_left h i number left right shape.1 here)

pub page_at-right : (height i number : ℕ) (left right : Part) (found : Option (List ℕ)) → IsPart height (branch left right) → IsBelow height i number
    → number / 2 ^ (height - 1) % 2 ≢ 0 → found ≡ page_at (number / 2 ^ (height - 1)) right number → found ≡ page_at i (branch left right) number
page_at-right zero i number left right found shape below odd e = absurd shape
page_at-right (suc h) i number left right found shape below odd e =
    let at : suc h - 1 ≡ h = omega arith in
    let here = side_right h i number below (rw at at odd) in
    (rw (at, here) at e) ∙ sym (page_at-below_right h i number left right shape.0 here)

-- a memory with the pages of a tree has those of each side
HasPages-left : (h i : ℕ) (left right : Part) (m : Pages) → IsPart h right → HasPages (suc h) i (branch left right) m → HasPages h (2 * i) left m
HasPages-left h i left right m shape has number b =
    has number (below_left h i number b) ∙ ap (λ (o : Option (List ℕ)). unwrap_or o zero_page) (page_at-below_left h i number left right shape b)

HasPages-right : (h i : ℕ) (left right : Part) (m : Pages) → IsPart h left → HasPages (suc h) i (branch left right) m → HasPages h (2 * i + 1) right m
HasPages-right h i left right m shape has number b =
    has number (below_right h i number b) ∙ ap (λ (o : Option (List ℕ)). unwrap_or o zero_page) (page_at-below_right h i number left right shape b)

-- putting the pages that are there changes nothing
pub put-same : (h i : ℕ) (t : Part) (m : Pages) → IsPart h t → HasPages h i t m → put_part i t m ≡ t
put-same h i (pruned digest) m shape has = refl
put-same zero i (branch left right) m shape has = absurd shape
put-same (suc h) i (branch left right) m shape has =
    rw (put-same h (2 * i) left m shape.0 (HasPages-left h i left right m shape.1 has), put-same h (2 * i + 1) right m shape.1 (HasPages-right h i left right m shape.0 has)) refl
put-same zero i (leaf page) m shape has =
    ap leaf (has i (below_itself i) ∙ ap (λ (o : Option (List ℕ)). unwrap_or o zero_page) (if-same i (Some page) None))
put-same (suc h) i (leaf page) m shape has = absurd shape

-- nor does it where one page differs that is elsewhere
put-same_elsewhere : (h i number : ℕ) (bytes : List ℕ) (t : Part) (m : Pages) → IsPart h t → HasPages h i t m → (IsBelow h i number → ⊥) → put_part i t (with_page m number bytes) ≡ t
put-same_elsewhere h i number bytes t m shape has elsewhere =
    put-same h i t (with_page m number bytes) shape (λ p b.
    let other : p ≢ number = λ e. elsewhere (subst (λ (n : ℕ). IsBelow h i n) e b) in
    if-other p number bytes (m p) other ∙ has p b)

-- a write of a page of the left side changes that side alone
pub put-left : (height i number : ℕ) (bytes : List ℕ) (left right new : Part) → IsPart height (branch left right) → IsBelow height i number
    → number / 2 ^ (height - 1) % 2 ≡ 0
    → ((m : Pages) → HasPages (height - 1) (number / 2 ^ (height - 1)) left m → new ≡ put_part (number / 2 ^ (height - 1)) left (with_page m number bytes))
    → (m : Pages) → HasPages height i (branch left right) m → branch new right ≡ put_part i (branch left right) (with_page m number bytes)
put-left zero i number bytes left right new shape below even made m has = absurd shape
put-left (suc h) i number bytes left right new shape below even made m has =
    let at : suc h - 1 ≡ h = omega arith in
    let here = side_left h i number below (rw at at even) in
    rw (
      (rw (at, here) at made) m (HasPages-left h i left right m shape.1 has),
      put-same_elsewhere h (2 * i + 1) number bytes right m shape.1 (HasPages-right h i left right m shape.0 has) (λ b. below_one h i number here b),
    ) refl

pub put-right : (height i number : ℕ) (bytes : List ℕ) (left right new : Part) → IsPart height (branch left right) → IsBelow height i number
    → number / 2 ^ (height - 1) % 2 ≢ 0
    → ((m : Pages) → HasPages (height - 1) (number / 2 ^ (height - 1)) right m → new ≡ put_part (number / 2 ^ (height - 1)) right (with_page m number bytes))
    → (m : Pages) → HasPages height i (branch left right) m → branch left new ≡ put_part i (branch left right) (with_page m number bytes)
put-right zero i number bytes left right new shape below odd made m has = absurd shape
put-right (suc h) i number bytes left right new shape below odd made m has =
    let at : suc h - 1 ≡ h = omega arith in
    let here = side_right h i number below (rw at at odd) in
    rw (
      (rw (at, here) at made) m (HasPages-right h i left right m shape.0 has),
      put-same_elsewhere h (2 * i) number bytes left m shape.0 (HasPages-left h i left right m shape.1 has) (λ b. below_one h i number b here),
    ) refl

-- a choice under a function
option_or-map : {A B : Type 0} (f : A → B) (a b : Option A) → option_or (option_map f a) (option_map f b) ≡ option_map f (option_or a b)
option_or-map f None b = refl
option_or-map f (Some x) b = refl

some-or : {A : Type 0} (a b : Option A) → IsSome a ⊎ IsSome b → IsSome (option_or a b)
some-or None b (inl s) = cc
some-or None b (inr s) = s
some-or (Some x) b s = refl

some-or_cases : {A : Type 0} (a b : Option A) → IsSome (option_or a b) → IsSome a ⊎ IsSome b
some-or_cases None b s = inr s
some-or_cases (Some x) b s = inl refl

pub opened_open : (i : ℕ) (t : Part) (number : ℕ) → Contains (open_numbers i t) number → IsSome (page_at i t number)
opened_open i (pruned digest) number c = absurd (omega (arith, c.1))
opened_open i (branch left right) number c =
    some-or (page_at (2 * i) left number) (page_at (2 * i + 1) right number)
    (elim (Contains-append_cases (open_numbers (2 * i) left) (open_numbers (2 * i + 1) right) number c) [
      | inl l ↦ inl (opened_open (2 * i) left number l)
      | inr r ↦ inr (opened_open (2 * i + 1) right number r)
    ])
opened_open i (leaf page) number c =
    subst (λ (n : ℕ). IsSome (page_at i (leaf page) n)) (Contains-one i number c) (ap is_some (if-same i (Some page) None))

pub open_opened : (i : ℕ) (t : Part) (number : ℕ) → IsSome (page_at i t number) → Contains (open_numbers i t) number
open_opened i (pruned digest) number s = cc
open_opened i (branch left right) number s =
    elim (some-or_cases (page_at (2 * i) left number) (page_at (2 * i + 1) right number) s) [
      | inl l ↦ Contains-append_left (open_numbers (2 * i) left) (open_numbers (2 * i + 1) right) number (open_opened (2 * i) left number l)
      | inr r ↦ Contains-append_right (open_numbers (2 * i) left) (open_numbers (2 * i + 1) right) number (open_opened (2 * i + 1) right number r)
    ]
open_opened i (leaf page) number s =
    elim (eqb_tells number i) [
      | inl e ↦ (0, omega arith, sym e.1)
      | inr n ↦ let no : is_some {T = List ℕ} None ≡ true = sym (ap is_some (if-other number i (Some page) None n.1)) ∙ s in cc
    ]

pub page_at-put : (i : ℕ) (t : Part) (m : Pages) (number : ℕ) → page_at i (put_part i t m) number ≡ option_map (λ _. m number) (page_at i t number)
page_at-put i (pruned digest) m number = refl
page_at-put i (branch left right) m number =
    rw (page_at-put (2 * i) left m number, page_at-put (2 * i + 1) right m number) (option_or-map (λ _. m number) (page_at (2 * i) left number) (page_at (2 * i + 1) right number))
page_at-put i (leaf page) m number =
    elim (eqb_tells number i) [
      | inl e ↦ subst (λ (n : ℕ). page_at i (leaf (m i)) n ≡ option_map (λ _. m n) (page_at i (leaf page) n)) (sym e.1)
          (if-same i (Some (m i)) None ∙ sym (ap (option_map (λ _. m i)) (if-same i (Some page) None)))
      | inr n ↦ if-other number i (Some (m i)) None n.1 ∙ sym (ap (option_map (λ _. m number)) (if-other number i (Some page) None n.1))
    ]

pub put-put : (i : ℕ) (t : Part) (m m' : Pages) → put_part i (put_part i t m) m' ≡ put_part i t m'
put-put i (pruned digest) m m' = refl
put-put i (branch left right) m m' = rw (put-put (2 * i) left m m', put-put (2 * i + 1) right m m') refl
put-put i (leaf page) m m' = refl

pub put-fill : (t : Part) → IsPart 18 t → put_part 0 t (fill t) ≡ t
put-fill t shape = put-same 18 0 t (fill t) shape (λ number b. refl)

-- what is kept where a page is open, and zeros elsewhere
filled : (o : Option (List ℕ)) (b : List ℕ) → b ≡ unwrap_or o zero_page → unwrap_or (option_map (λ (_ : List ℕ). b) o) zero_page ≡ b
filled None b e = sym e
filled (Some x) b e = refl

filled_open : (o : Option (List ℕ)) (b : List ℕ) → IsSome o → unwrap_or (option_map (λ (_ : List ℕ). b) o) zero_page ≡ b
filled_open None b s = cc
filled_open (Some x) b s = refl

pub fill-put : (t : Part) (number : ℕ) (bytes : List ℕ) → IsSome (page_at 0 t number) → (page : ℕ)
    → fill (put_part 0 t (with_page (fill t) number bytes)) page ≡ with_page (fill t) number bytes page
fill-put t number bytes is_open page =
    ap (λ (o : Option (List ℕ)). unwrap_or o zero_page) (page_at-put 0 t (with_page (fill t) number bytes) page)
    ∙ elim (eqb_tells page number) [
      | inl e ↦ filled_open (page_at 0 t page) (with_page (fill t) number bytes page) (subst (λ (n : ℕ). IsSome (page_at 0 t n)) (sym e.1) is_open)
      | inr n ↦ filled (page_at 0 t page) (with_page (fill t) number bytes page) (if-other page number bytes (fill t page) n.1)
    ]
