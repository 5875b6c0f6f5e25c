-- Pages that are stored by their numbers.
use Rattle.std.proofs.Common.{◌≡◌, ◌≢◌, ℕ, ◌+◌, ◌<◌, ◌≤◌, Bool, true, false, cond, eqb, leb, List, [], ◌∷◌, length, map, Option, Some, None, refl, sym, ap, ◌∙◌, arith, ⊎_elim}
use Rattle.std.specs.Prelude.{option_map}
use Rattle.std.specs.Ordering.{nat_cmp}
use Rattle.std.specs.declared.cmp.Ordering.TheVariants.{Less, Equal, Greater}
use Rattle.std.specs.declared.ops.Bound.TheVariants.{Included, Unbounded}
use Rattle.std.specs.BTreeMap.{is_at, insert_entry}
use Rattle.std.specs.BTreeMap.Range.{range_contains, entries_between}
use Rattle.std.specs.Map.{lookup, set_value}
use Rattle.std.proofs.lemmas.Bool.Decides.{nat_tests, leb_tells, eqb_tells}
use Rattle.page_core.specs.Pages.{IsPage}
use Rattle.page_core.proofs.Zeros.{pages_are}
use Rattle.page_core.specs.Stored.{Stored, stored_at, first_from, stored_pages, IsStoredFrom}

-- a number is found by its equality
number_test : (n k : ℕ) → is_at (nat_cmp n) k ≡ eqb n k
number_test n k = grind (arith, nat_tests)

pub other_number : (n k : ℕ) → k ≢ n → is_at (nat_cmp n) k ≡ false
other_number n k away = grind (arith, nat_tests)

-- a page among boxes that are seen as pages
seen : {A : Type 0} (f : A → List ℕ) (es : List (ℕ × A)) (n : ℕ) → stored_at (map (λ e. (e.0, f e.1)) es) n ≡ option_map f (lookup (is_at (nat_cmp n)) es)
seen f [] n = refl
seen f (e ∷ es) n =
    rw (number_test n e.0)
    (elim (eqb n e.0) as (λ b. cond b (Some (f e.1)) (stored_at (map (λ e. (e.0, f e.1)) es) n) ≡ option_map f (cond b (Some e.1) (lookup (is_at (nat_cmp n)) es))) [ true ↦ refl | false ↦ seen f es n ])

-- the page that a look-up found
pub seen_found : {A : Type 0} (f : A → List ℕ) (es : List (ℕ × A)) (stored : Stored) (n : ℕ) (found : Option A) → map (λ e. (e.0, f e.1)) es ≡ stored
    → found ≡ lookup (is_at (nat_cmp n)) es → option_map f found ≡ stored_at stored n
seen_found f es stored n found view is = ap (option_map f) is ∙ sym (seen f es n) ∙ ap (λ (s : Stored). stored_at s n) view

-- a page with another number, where look-ups of it find the same box
pub seen_same : {A : Type 0} (f : A → List ℕ) (new old : List (ℕ × A)) (stored : Stored) (n : ℕ) → map (λ e. (e.0, f e.1)) old ≡ stored
    → lookup (is_at (nat_cmp n)) new ≡ lookup (is_at (nat_cmp n)) old → stored_at (map (λ e. (e.0, f e.1)) new) n ≡ stored_at stored n
seen_same f new old stored n view same = seen f new n ∙ seen_found f old stored n (lookup (is_at (nat_cmp n)) new) view same

-- the page with the number of a box that was put
pub seen_put : {A : Type 0} (f : A → List ℕ) (new : List (ℕ × A)) (n : ℕ) (box : A) (page : List ℕ) → lookup (is_at (nat_cmp n)) new ≡ Some box → f box ≡ page
    → stored_at (map (λ e. (e.0, f e.1)) new) n ≡ Some page
seen_put f new n box page found is = seen f new n ∙ ap (option_map f) found ∙ ap Some is

-- ---- the pages from a number on
-- the boxes whose numbers are from this one on, as a map's range has them
abbrev pub boxes_from : {A : Type 0} → ℕ → List (ℕ × A) → List (ℕ × A)
boxes_from least es = entries_between nat_cmp (Included least) Unbounded es

from_test : (least n : ℕ) → range_contains nat_cmp (Included least) Unbounded n ≡ leb least n
from_test least n = grind (arith, nat_tests)

-- the first of boxes that are seen as pages
abbrev pub first_seen : {A : Type 0} → (A → List ℕ) → List (ℕ × A) → Option (ℕ × List ℕ)
first_seen f [] = None
first_seen f (e ∷ es) = Some (e.0, f e.1)

seen_from : {A : Type 0} (f : A → List ℕ) (es : List (ℕ × A)) (least : ℕ) → first_from least (map (λ e. (e.0, f e.1)) es) ≡ first_seen f (boxes_from least es)
seen_from f [] least = refl
seen_from f (e ∷ es) least =
    rw (from_test least e.0)
    (elim (leb least e.0) as (λ b. cond b (Some (e.0, f e.1)) (first_from least (map (λ e. (e.0, f e.1)) es)) ≡ first_seen f (cond b (e ∷ boxes_from least es) (boxes_from least es)))
    [ true ↦ refl | false ↦ seen_from f es least ])

-- the first page that a range found
pub first_found : {A : Type 0} (f : A → List ℕ) (es range found : List (ℕ × A)) (stored : Stored) (least : ℕ) → map (λ e. (e.0, f e.1)) es ≡ stored
    → range ≡ boxes_from least es → range ≡ found → first_seen f found ≡ first_from least stored
first_found f es range found stored least view is found_is =
    ap (first_seen f) (sym found_is ∙ is) ∙ sym (seen_from f es least) ∙ ap (first_from least) view

-- ---- the order of the numbers
cmp_less : (n k : ℕ) → n < k → nat_cmp n k ≡ Less
cmp_less n k h = grind (arith, nat_tests)

cmp_equal : (n k : ℕ) → n ≡ k → nat_cmp n k ≡ Equal
cmp_equal n k h = grind (arith, nat_tests)

cmp_greater : (n k : ℕ) → k < n → nat_cmp n k ≡ Greater
cmp_greater n k h = grind (arith, nat_tests)

-- a box that takes the place of another
pub stored_set : {A : Type 0} (f : A → List ℕ) (test : ℕ → Bool) (es : List (ℕ × A)) (box : A) (least : ℕ) → IsPage (f box)
    → IsStoredFrom least (map (λ e. (e.0, f e.1)) es) → IsStoredFrom least (map (λ e. (e.0, f e.1)) (set_value test es box))
stored_set f test [] box least page are = are
stored_set f test (e ∷ es) box least page are =
    elim (test e.0) as (λ b. IsStoredFrom least (map (λ e. (e.0, f e.1)) (cond b ((e.0, box) ∷ es) (e ∷ set_value test es box))))
    [ true ↦ (are.0, are.1, page, are.3) | false ↦ (are.0, are.1, are.2, stored_set f test es box (e.0 + 1) page are.3) ]

-- a box that comes to its place
pub stored_insert : {A : Type 0} (f : A → List ℕ) (es : List (ℕ × A)) (n : ℕ) (box : A) (least : ℕ) → least ≤ n → n < 262144 → IsPage (f box)
    → IsStoredFrom least (map (λ e. (e.0, f e.1)) es) → IsStoredFrom least (map (λ e. (e.0, f e.1)) (insert_entry nat_cmp es n box))
stored_insert f [] n box least from below page are = (from, below, page, tt)
stored_insert f (e ∷ es) n box least from below page are =
    ⊎_elim
    (λ low. ⊎_elim
    (λ same. rw (cmp_equal n e.0 same.1) (are.0, are.1, page, are.3))
    (λ other. rw (cmp_less n e.0 (omega (arith, low.1, other.1))) (from, below, page, (omega (arith, low.1, other.1), are.1, are.2, are.3)))
    (eqb_tells n e.0))
    (λ high. rw (cmp_greater n e.0 high.1) (are.0, are.1, are.2, stored_insert f es n box (e.0 + 1) (omega (arith, high.1)) below page are.3))
    (leb_tells n e.0)

-- a page that is stored, and one that isn't, has 1,024 bytes
pub stored_long : (seen stored : Stored) (n : ℕ) → seen ≡ stored → IsStoredFrom 0 seen → length (stored_pages stored n) ≡ 1024
stored_long seen stored n view are = ap (λ (s : Stored). length (stored_pages s n)) (sym view) ∙ (pages_are seen 0 are n).0
