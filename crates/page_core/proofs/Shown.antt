-- Bytes of one page, as a memory of pages shows them and as they are put there.
use Rattle.std.proofs.Common.{◌≡◌, ◌≢◌, ℕ, ◌+◌, ◌-◌, ◌*◌, ◌/◌, ◌%◌, ◌<◌, ◌≤◌, Bool, cond, eqb, List, [], ◌∷◌, ◌++◌, length, get_or, take, drop, refl, sym, ap, ap₂, ◌∙◌, arith, inl, inr, ⊎_elim, get_or-drop, get_or-take, length-append, length-drop}
use Rattle.std.specs.Int.{w16, w32, from_le_bytes}
use Rattle.std.specs.Prelude.{All}
use Rattle.std.proofs.lemmas.Bool.{cases_eq, eq-eqb, ne_eqb}
use Rattle.std.proofs.lemmas.Bool.Decides.{leb_tells}
use Rattle.std.proofs.lemmas.List.{append-nil, drop_all, get_or-append-add, get_or_append_left, get_or_default, length-take, length-take-le}
use Rattle.std.proofs.lemmas.List.Elements.{All-append, All-drop, All-take}
use Rattle.page_core.specs.Memory.{bytes, put}
use Rattle.page_core.specs.Pages.{Pages, IsPage}
use Rattle.page_core.specs.Memories.{flat, page_of}
use Rattle.page_core.proofs.Bytes.{two, four, put-outside, put-inside, put-same, length-bytes, get_or-bytes, flat-page_of, page_same, bytes_hold_pages}

-- ---- reading
-- a page of 1,024 bytes is that of the memory that the pages make
pub page_shown : (pages : Pages) (i : ℕ) (page : List ℕ) → pages i ≡ page → IsPage page → page_of (flat pages) i ≡ page
page_shown pages i page is shape =
    page_same (flat pages) (flat (λ _. page)) i (λ a at. ap (λ (bs : List ℕ). get_or bs (a % 1024) 0) (ap pages at ∙ is))
    ∙ bytes_hold_pages (λ _. page) i (λ _. shape)

-- a byte of the page in which an address lies
pub byte_shown : (pages : Pages) (a k : ℕ) → a % 1024 + k < 1024 → flat pages (a + k) ≡ get_or (pages (a / 1024)) (a % 1024 + k) 0
byte_shown pages a k within =
    let number : (a + k) / 1024 ≡ a / 1024 = omega arith in
    let place : (a + k) % 1024 ≡ a % 1024 + k = omega arith in
    ap₂ (λ n p. get_or (pages n) p 0) number place

-- the bytes of the halfword at an even address
two_shown : (pages : Pages) (a : ℕ) → a % 2 ≡ 0
    → bytes (flat pages) a 2 ≡ get_or (pages (a / 1024)) (a % 1024) 0 ∷ get_or (pages (a / 1024)) (a % 1024 + 1) 0 ∷ []
two_shown pages a aligned = let second = byte_shown pages a 1 (omega arith) in two (flat pages) a ∙ (λ i. flat pages a ∷ second i ∷ [])

-- the bytes of the word at an address that is a multiple of 4
four_shown : (pages : Pages) (a : ℕ) → a % 4 ≡ 0
    → bytes (flat pages) a 4 ≡ get_or (pages (a / 1024)) (a % 1024) 0 ∷ get_or (pages (a / 1024)) (a % 1024 + 1) 0 ∷ get_or (pages (a / 1024)) (a % 1024 + 2) 0 ∷ get_or (pages (a / 1024)) (a % 1024 + 3) 0 ∷ []
four_shown pages a aligned =
    let second = byte_shown pages a 1 (omega arith) in
    let third = byte_shown pages a 2 (omega arith) in
    let fourth = byte_shown pages a 3 (omega arith) in
    four (flat pages) a ∙ (λ i. flat pages a ∷ second i ∷ third i ∷ fourth i ∷ [])

-- the halfword there
pub half_shown : (pages : Pages) (a w : ℕ) → a % 2 ≡ 0
    → w ≡ from_le_bytes w16 (get_or (pages (a / 1024)) (a % 1024) 0 ∷ get_or (pages (a / 1024)) (a % 1024 + 1) 0 ∷ [])
    → w ≡ from_le_bytes w16 (bytes (flat pages) a 2)
half_shown pages a w aligned is = is ∙ ap (from_le_bytes w16) (sym (two_shown pages a aligned))

-- the word there
pub word_shown : (pages : Pages) (a w : ℕ) → a % 4 ≡ 0
    → w ≡ from_le_bytes w32 (get_or (pages (a / 1024)) (a % 1024) 0 ∷ get_or (pages (a / 1024)) (a % 1024 + 1) 0 ∷ get_or (pages (a / 1024)) (a % 1024 + 2) 0 ∷ get_or (pages (a / 1024)) (a % 1024 + 3) 0 ∷ [])
    → w ≡ from_le_bytes w32 (bytes (flat pages) a 4)
word_shown pages a w aligned is = is ∙ ap (from_le_bytes w32) (sym (four_shown pages a aligned))

-- the bytes of the word at an aligned address are below 256, where its page is one
pub bytes_small : (pages : Pages) (a : ℕ) → a % 4 ≡ 0 → IsPage (pages (a / 1024)) → All (λ byte. byte < 256) (bytes (flat pages) a 4)
bytes_small pages a aligned is k d within =
    let low : k < 4 = omega (arith, within, length-bytes (flat pages) a 4) in
    let read : get_or (bytes (flat pages) a 4) k d ≡ get_or (pages (a / 1024)) (a % 1024 + k) 0 =
    get_or_default (bytes (flat pages) a 4) k d 0 within ∙ get_or-bytes (flat pages) a 4 k low ∙ byte_shown pages a k (omega (arith, low, aligned)) in
    omega (arith, read, is.1 (a % 1024 + k) 0 (omega (arith, is.0)))

-- ---- writing
-- the bytes of a page in which others were put at a place
patched_before : (page bs rest : List ℕ) (at j : ℕ) → at ≤ length page → j < at → get_or (take at page ++ (bs ++ rest)) j 0 ≡ get_or page j 0
patched_before page bs rest at j fits h =
    get_or_append_left (take at page) (bs ++ rest) 0 j (omega (arith, length-take-le at page fits)) ∙ get_or-take at page j 0 h

patched_from : (page bs rest : List ℕ) (at j : ℕ) → at ≤ length page → get_or (take at page ++ (bs ++ rest)) (at + j) 0 ≡ get_or (bs ++ rest) j 0
patched_from page bs rest at j fits =
    ap (λ (n : ℕ). get_or (take at page ++ (bs ++ rest)) (n + j) 0) (sym (length-take-le at page fits)) ∙ get_or-append-add (take at page) (bs ++ rest) j 0

patched_after : (page bs : List ℕ) (at j : ℕ) → at ≤ length page
    → get_or (take at page ++ (bs ++ drop (at + length bs) page)) (at + (length bs + j)) 0 ≡ get_or page (at + (length bs + j)) 0
patched_after page bs at j fits =
    patched_from page bs (drop (at + length bs) page) at (length bs + j) fits
    ∙ get_or-append-add bs (drop (at + length bs) page) j 0
    ∙ get_or-drop (at + length bs) page j 0 ∙ ap (λ (n : ℕ). get_or page n 0) (omega arith)

-- a page in which bytes were put stays a page
pub patched_is_page : (page bs : List ℕ) (at : ℕ) → IsPage page → at + length bs ≤ 1024 → ((i : ℕ) → get_or bs i 0 < 256)
    → IsPage (take at page ++ (bs ++ drop (at + length bs) page))
patched_is_page page bs at is fits small = (
  simp (length-append, length-take, length-drop) (omega (arith, is.0)),
  All-append (λ b. b < 256) (take at page) (bs ++ drop (at + length bs) page) (All-take (λ b. b < 256) at page is.1)
      (All-append (λ b. b < 256) bs (drop (at + length bs) page) (λ k d h. omega (arith, get_or_default bs k d 0 h, small k)) (All-drop (λ b. b < 256) (at + length bs) page is.1)),
)

-- a whole page that is put at its start
pub patched_whole : (page bs : List ℕ) → length page ≡ 1024 → length bs ≡ 1024 → take 0 page ++ (bs ++ drop (0 + length bs) page) ≡ bs
patched_whole page bs long size =
    let none : drop (0 + length bs) page ≡ [] = drop_all (0 + length bs) page (omega (arith, long, size)) in
    rw none (append-nil bs)

-- bytes that are put into one page are put into the memory
pub written : (old new : Pages) (a : ℕ) (bs : List ℕ) → length (old (a / 1024)) ≡ 1024 → a % 1024 + length bs ≤ 1024
    → new (a / 1024) ≡ take (a % 1024) (old (a / 1024)) ++ (bs ++ drop (a % 1024 + length bs) (old (a / 1024)))
    → ((n : ℕ) → n ≢ a / 1024 → new n ≡ old n)
    → (k : ℕ) → flat new k ≡ put (flat old) a bs k
written old new a bs size fits after others k =
    ⊎_elim
    (λ here. within here)
    (λ away.
    ap (λ (page : List ℕ). get_or page (k % 1024) 0) (others (k / 1024) away)
    ∙ sym (put-outside (flat old) a bs k (⊎_elim (λ t. inr (omega (arith, t.1, away))) (λ t. inl t.1) (leb_tells a k))))
    (cases_eq (k / 1024) (a / 1024))
  where
    at : ℕ
    at = a % 1024

    page : List ℕ
    page = old (a / 1024)

    other : List ℕ
    other = take at page ++ (bs ++ drop (at + length bs) page)

    now : k / 1024 ≡ a / 1024 → flat new k ≡ get_or other (k % 1024) 0
    now here = ap (λ (p : List ℕ). get_or p (k % 1024) 0) (ap new here ∙ after)

    was : k / 1024 ≡ a / 1024 → flat old k ≡ get_or page (k % 1024) 0
    was here = ap (λ (n : ℕ). get_or (old n) (k % 1024) 0) here

    within : k / 1024 ≡ a / 1024 → flat new k ≡ put (flat old) a bs k
    within here =
        ⊎_elim
        (λ from. ⊎_elim
        (λ past.
        now here ∙ ap (λ (n : ℕ). get_or other n 0) (omega (arith, past.1, here))
        ∙ patched_after page bs at (k - (a + length bs)) (omega (arith, size))
        ∙ ap (λ (n : ℕ). get_or page n 0) (omega (arith, past.1, here))
        ∙ sym (was here) ∙ sym (put-outside (flat old) a bs k (inr past.1)))
        (λ inside.
        now here ∙ ap (λ (n : ℕ). get_or other n 0) (omega (arith, from.1, here))
        ∙ patched_from page bs (drop (at + length bs) page) at (k - a) (omega (arith, size))
        ∙ get_or_append_left bs (drop (at + length bs) page) 0 (k - a) (omega (arith, from.1, inside.1))
        ∙ sym (put-inside (flat old) a bs (k - a) (omega (arith, from.1, inside.1)))
        ∙ ap (put (flat old) a bs) (omega (arith, from.1)))
        (leb_tells (a + length bs) k))
        (λ low.
        now here ∙ patched_before page bs (drop (at + length bs) page) at (k % 1024) (omega (arith, size)) (omega (arith, low.1, here))
        ∙ sym (was here) ∙ sym (put-outside (flat old) a bs k (inl low.1)))
        (leb_tells a k)

-- the page of a memory into which bytes are put that lie in it
pub page_put : (m : ℕ → ℕ) (p at : ℕ) (bs : List ℕ) → at < 1024 → at + length bs ≤ 1024 → IsPage (take at (page_of m p) ++ (bs ++ drop (at + length bs) (page_of m p)))
    → page_of (put m (1024 * p + at) bs) p ≡ take at (page_of m p) ++ (bs ++ drop (at + length bs) (page_of m p))
page_put m p at bs low fits shape =
    page_same (put m (1024 * p + at) bs) (flat new) p
    (λ k _. put-same m (flat (page_of m)) (1024 * p + at) bs k (sym (flat-page_of m k))
    ∙ sym (written (page_of m) new (1024 * p + at) bs (length-bytes m _ 1024) (omega (arith, low, fits)) after others k))
    ∙ page_shown new p page here shape
  where
    page : List ℕ
    page = take at (page_of m p) ++ (bs ++ drop (at + length bs) (page_of m p))

    new : Pages
    new n = cond (eqb n p) page (page_of m n)

    number : (1024 * p + at) / 1024 ≡ p
    number = omega (arith, low)

    place : (1024 * p + at) % 1024 ≡ at
    place = omega (arith, low)

    here : new p ≡ page
    here = ap (λ (b : Bool). cond b page (page_of m p)) (eq-eqb p p refl)

    after : new ((1024 * p + at) / 1024) ≡ take ((1024 * p + at) % 1024) (page_of m ((1024 * p + at) / 1024)) ++ (bs ++ drop ((1024 * p + at) % 1024 + length bs) (page_of m ((1024 * p + at) / 1024)))
    after = ap new number ∙ here ∙ sym (ap₂ (λ (n i : ℕ). take i (page_of m n) ++ (bs ++ drop (i + length bs) (page_of m n))) number place)

    others : (n : ℕ) → n ≢ (1024 * p + at) / 1024 → new n ≡ page_of m n
    others n away = ap (λ (b : Bool). cond b page (page_of m n)) (ne_eqb n p (λ same. away (same ∙ sym number)))
