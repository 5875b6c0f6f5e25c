-- Pages that were opened, as they are found and written.
use Rattle.std.proofs.Common.{◌≡◌, ℕ, zero, suc, ◌+◌, ◌/◌, ◌%◌, ◌<◌, ◌≤◌, true, List, [], ◌∷◌, ◌++◌, length, get_or, take, drop, set, map, Option, Some, None, IsTrue, refl, sym, ap, ◌∙◌, subst, arith, ⊎_elim, get_or-set_same, get_or-set_other}
use Rattle.std.specs.Prelude.{All, is_some, option_map, unwrap_or}
use Rattle.std.proofs.lemmas.Bool.{cases_eq}
use Rattle.std.proofs.lemmas.List.{get_or_read}
use Rattle.page_core.specs.Memory.{bytes, put}
use Rattle.page_core.specs.Pages.{IsPage, zero_page}
use Rattle.page_core.specs.Memories.{flat}
use Rattle.page_core.proofs.Shown.{bytes_small as small_in_page, written as put_in_page}
use Rattle.rv_step.specs.Opened.{page_in, pages_in}

-- ---- boxes that are seen as pages
seen : {A : Type 0} (f : A → List ℕ) (boxes : List (Option A)) (n : ℕ) → page_in (map (option_map f) boxes) n ≡ option_map f (get_or boxes n None)
seen f [] n = refl
seen f (b ∷ bs) zero = refl
seen f (b ∷ bs) (suc n) = seen f bs n

-- the same box is seen as the same page
pub seen_same : {A : Type 0} (f : A → List ℕ) (new old : List (Option A)) (pages : List (Option (List ℕ))) (n : ℕ) → map (option_map f) old ≡ pages
    → get_or new n None ≡ get_or old n None → page_in (map (option_map f) new) n ≡ page_in pages n
seen_same f new old pages n view e =
    seen f new n ∙ ap (option_map f) e ∙ sym (seen f old n) ∙ ap (λ (v : List (Option (List ℕ))). page_in v n) view

-- a box that was set is seen
pub seen_set : {A : Type 0} (f : A → List ℕ) (boxes : List (Option A)) (n : ℕ) (box : A) → n < length boxes
    → page_in (map (option_map f) (set boxes n (Some box))) n ≡ Some (f box)
seen_set f boxes n box within = seen f (set boxes n (Some box)) n ∙ ap (option_map f) (get_or-set_same boxes n (Some box) None within)

placed : {A : Type 0} (f : A → List ℕ) (boxes : List (Option A)) (n : ℕ) → is_some (page_in (map (option_map f) boxes) n) ≡ true → n < length boxes
placed f [] n h = absurd (cc)
placed f (b ∷ bs) zero h = omega arith
placed f (b ∷ bs) (suc n) h = let below = placed f bs n h in omega arith

-- an open page has its place, and is that of the box there
pub found : {A : Type 0} (f : A → List ℕ) (boxes : List (Option A)) (pages : List (Option (List ℕ))) (n : ℕ) (box : A) (read : Option A)
    → map (option_map f) boxes ≡ pages → IsTrue (is_some (page_in pages n)) → read ≡ Some box → read ≡ get_or boxes n read
    → (n < length boxes) × (page_in pages n ≡ Some (f box))
found f boxes pages n box read view opened is at =
    let within : n < length boxes = placed f boxes n (ap (λ (v : List (Option (List ℕ))). is_some (page_in v n)) view ∙ opened) in (
      within,
      ap (λ (v : List (Option (List ℕ))). page_in v n) (sym view) ∙ seen f boxes n
          ∙ ap (option_map f) (sym (get_or_read boxes n read within at None) ∙ is),
    )

-- ---- reading
-- the page at a number, if it is open
pub page_at : (pages : List (Option (List ℕ))) (page : List ℕ) (n : ℕ) → Some page ≡ page_in pages n → pages_in pages n ≡ page
page_at pages page n is = ap (λ (o : Option (List ℕ)). unwrap_or o zero_page) (sym is)

-- the bytes of the word at an aligned address of an open page are below 256
pub bytes_small : (pages : List (Option (List ℕ))) (page : List ℕ) (a : ℕ) → Some page ≡ page_in pages (a / 1024) → a % 4 ≡ 0 → IsPage page
    → All (λ byte. byte < 256) (bytes (flat (pages_in pages)) a 4)
bytes_small pages page a found aligned is = small_in_page (pages_in pages) a aligned (subst IsPage (sym (page_at pages page (a / 1024) found)) is)

-- ---- writing
-- the pages that are open stay so when one of them is written
pub open_same : {A : Type 0} (f : A → List ℕ) (boxes : List (Option A)) (pages : List (Option (List ℕ))) (n : ℕ) (box other : A)
    → map (option_map f) boxes ≡ pages → (n < length boxes) × (page_in pages n ≡ Some (f box))
    → (k : ℕ) → is_some (page_in (map (option_map f) (set boxes n (Some other))) k) ≡ is_some (page_in pages k)
open_same f boxes pages n box other view there k =
    let new : List (Option (List ℕ)) = map (option_map f) (set boxes n (Some other)) in
    ⊎_elim
    (λ here.
    ap (λ (j : ℕ). is_some (page_in new j)) here ∙ ap is_some (seen_set f boxes n other there.0)
    ∙ sym (ap is_some there.1) ∙ ap (λ (j : ℕ). is_some (page_in pages j)) (sym here))
    (λ away. ap is_some (seen_same f (set boxes n (Some other)) boxes pages k view (get_or-set_other boxes n k (Some other) None away)))
    (cases_eq k n)

-- bytes that were put into one page are put into the memory
pub written : {A : Type 0} (f : A → List ℕ) (boxes : List (Option A)) (pages : List (Option (List ℕ))) (a : ℕ) (box other : A) (bs : List ℕ)
    → map (option_map f) boxes ≡ pages → (a / 1024 < length boxes) × (page_in pages (a / 1024) ≡ Some (f box))
    → length (f box) ≡ 1024 → a % 1024 + length bs ≤ 1024
    → f other ≡ take (a % 1024) (f box) ++ (bs ++ drop (a % 1024 + length bs) (f box))
    → flat (pages_in (map (option_map f) (set boxes (a / 1024) (Some other)))) ≡ put (flat (pages_in pages)) a bs
written {A = A} f boxes pages a box other bs view there size fits is =
    let new : List (Option A) = set boxes (a / 1024) (Some other) in
    let page : Option (List ℕ) → List ℕ = λ o. unwrap_or o zero_page in
    let was : pages_in pages (a / 1024) ≡ f box = ap page there.1 in
    λ i k. put_in_page (pages_in pages) (pages_in (map (option_map f) new)) a bs (ap length was ∙ size) fits
    (rw was (ap page (seen_set f boxes (a / 1024) other there.0) ∙ is))
    (λ n away. ap page (seen_same f new boxes pages n view (get_or-set_other boxes (a / 1024) n (Some other) None away)))
    k i
