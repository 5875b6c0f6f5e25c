-- Reading and writing ranges of bytes, by pages.
use Rattle.std.proofs.Common.{◌≡◌, ℕ, zero, suc, ◌+◌, ◌-◌, ◌*◌, ◌/◌, ◌%◌, ◌<◌, ◌≤◌, true, cond, ◌&&◌, leb, ltb, List, [], ◌∷◌, length, get_or, refl, sym, ap, ap₂, ◌∙◌, arith, ◌⊎◌, ⊎_elim}
use Rattle.std.specs.Prelude.{All, Contains}
use Rattle.std.specs.Int.{Width, w32, byte_len, byte_at, bytes_low_first, to_le_bytes}
use Rattle.std.specs.List.{flat_map}
use Rattle.std.proofs.lemmas.Bool.Decides.{nat_tests, eqb_tells, leb_tells}
use Rattle.std.proofs.lemmas.List.{get_or_past}
use Rattle.std.proofs.lemmas.List.Elements.{All-nil, All-cons, All-append}
use Rattle.page_core.specs.Memory.{bytes, put, pages_from, pages_of}
use Rattle.page_core.specs.Pages.{Pages}
use Rattle.page_core.specs.Memories.{page_of, flat}
use Rattle.page_core.proofs.Listed.{Contains-head, Contains-tail}
use Rattle.page_core.specs.Laws.{PagesHoldBytes, BytesHoldPages, PutReadsBack}

pub bytes-same : (m n : ℕ → ℕ) (a k : ℕ) → ((j : ℕ) → a ≤ j → j < a + k → m j ≡ n j) → bytes m a k ≡ bytes n a k
unfolding bytes
bytes-same m n a zero h = refl
bytes-same m n a (suc k) h = ap₂ ◌∷◌ (h a (omega arith) (omega arith)) (bytes-same m n (a + 1) k (λ j lo hi. h j (omega arith) (omega arith)))

pub length-bytes : (m : ℕ → ℕ) (a k : ℕ) → length (bytes m a k) ≡ k
unfolding bytes
length-bytes m a zero = refl
length-bytes m a (suc k) = ap suc (length-bytes m (a + 1) k)

pub two : (m : ℕ → ℕ) (a : ℕ) → bytes m a 2 ≡ m a ∷ m (a + 1) ∷ []
unfolding bytes
two m a = refl

pub four : (m : ℕ → ℕ) (a : ℕ) → bytes m a 4 ≡ m a ∷ m (a + 1) ∷ m (a + 2) ∷ m (a + 3) ∷ []
unfolding bytes
four m a =
    let k : a + 1 + 1 ≡ a + 2 = omega arith in
    let l : a + 1 + 1 + 1 ≡ a + 3 = omega arith in
    ap₂ (λ i j. m a ∷ m (a + 1) ∷ m i ∷ m j ∷ []) k l

-- ---- the bytes of numbers
length-low : (i k v : ℕ) → length (bytes_low_first i k v) ≡ k
length-low i zero v = refl
length-low i (suc k) v = ap suc (length-low (suc i) k v)

pub length-to_le_bytes : (w : Width) (v : ℕ) → length (to_le_bytes w v) ≡ byte_len w
length-to_le_bytes w v = length-low 0 (byte_len w) v

byte-small : (i v : ℕ) → byte_at i v < 256
byte-small zero v = omega arith
byte-small (suc i) v = omega arith

low-small : (i k v : ℕ) → All (λ b. b < 256) (bytes_low_first i k v)
low-small i zero v = All-nil (λ b. b < 256)
low-small i (suc k) v = All-cons (λ b. b < 256) (byte_at i v) (bytes_low_first (suc i) k v) (byte-small i v) (low-small (suc i) k v)

pub to_le_bytes-small : (w : Width) (v : ℕ) → All (λ b. b < 256) (to_le_bytes w v)
to_le_bytes-small w v = low-small 0 (byte_len w) v

pub length-words : (vs : List ℕ) → length (flat_map (to_le_bytes w32) vs) ≡ 4 * length vs
length-words [] = refl
length-words (v ∷ vs) = omega (arith, length-words vs)

pub words-small : (vs : List ℕ) → All (λ b. b < 256) (flat_map (to_le_bytes w32) vs)
words-small [] = All-nil (λ b. b < 256)
words-small (v ∷ vs) = All-append (λ b. b < 256) (to_le_bytes w32 v) (flat_map (to_le_bytes w32) vs) (to_le_bytes-small w32 v) (words-small vs)

-- an element of bytes, and 0 past their end
pub small_in : (bs : List ℕ) → All (λ b. b < 256) bs → (i : ℕ) → get_or bs i 0 < 256
small_in bs all i = ⊎_elim (λ t. omega (arith, get_or_past bs i 0 t.1)) (λ t. all i 0 t.1) (leb_tells (length bs) i)

-- ---- pages
pub in_pages_from : (p n q : ℕ) → p ≤ q → q < p + n → Contains (pages_from p n) q
unfolding pages_from
in_pages_from p zero q lo hi = absurd (omega arith)
in_pages_from p (suc n) q lo hi =
    ⊎_elim (λ t. Contains-head q p (pages_from (p + 1) n) t.1)
    (λ t. Contains-tail q p (pages_from (p + 1) n) (in_pages_from (p + 1) n q (omega (arith, t.1)) (omega arith))) (eqb_tells q p)

pub in_pages_of : (a n j : ℕ) → a ≤ j → j < a + n → Contains (pages_of a n) (j / 1024)
in_pages_of a zero j lo hi = absurd (omega arith)
in_pages_of a (suc n) j lo hi = in_pages_from (a / 1024) ((a + n) / 1024 + 1 - a / 1024) (j / 1024) (omega arith) (omega arith)

-- ---- what is put
pub put-outside : (m : ℕ → ℕ) (a : ℕ) (bs : List ℕ) (k : ℕ) → (k < a) ⊎ (a + length bs ≤ k) → put m a bs k ≡ m k
unfolding put
put-outside m a bs k h = grind (arith, nat_tests)

pub put-same : (m n : ℕ → ℕ) (a : ℕ) (bs : List ℕ) (k : ℕ) → m k ≡ n k → put m a bs k ≡ put n a bs k
unfolding put
put-same m n a bs k e = ap (cond (leb a k && ltb k (a + length bs)) (get_or bs (k - a) 0)) e

-- ---- bytes and pages
pub get_or-bytes : (m : ℕ → ℕ) (a n k : ℕ) → k < n → get_or (bytes m a n) k 0 ≡ m (a + k)
unfolding bytes
get_or-bytes m a zero k h = absurd (omega arith)
get_or-bytes m a (suc n) zero h = ap m (omega arith)
get_or-bytes m a (suc n) (suc k) h = get_or-bytes m (a + 1) n k (omega arith) ∙ ap m (omega arith)

-- a memory's pages hold its bytes
pub flat-page_of : PagesHoldBytes
flat-page_of m a = get_or-bytes m (1024 * (a / 1024)) 1024 (a % 1024) (omega arith) ∙ ap m (omega arith)

-- memories that have the same bytes in a page have the same page
pub page_same : (m n : ℕ → ℕ) (p : ℕ) → ((a : ℕ) → a / 1024 ≡ p → m a ≡ n a) → page_of m p ≡ page_of n p
page_same m n p h = bytes-same m n (1024 * p) 1024 (λ j lo hi. h j (omega arith))

-- ---- a memory that holds a list of bytes
pub bytes-of : (m : ℕ → ℕ) (a : ℕ) (bs : List ℕ) → ((k : ℕ) → k < length bs → m (a + k) ≡ get_or bs k 0) → bytes m a (length bs) ≡ bs
unfolding bytes
bytes-of m a [] h = refl
bytes-of m a (b ∷ bs) h =
    ap₂ ◌∷◌ (ap m (omega arith) ∙ h 0 (omega arith))
    (bytes-of m (a + 1) bs (λ k l. ap m (omega arith) ∙ h (suc k) (omega arith)))

pub put-inside : (m : ℕ → ℕ) (a : ℕ) (bs : List ℕ) (k : ℕ) → k < length bs → put m a bs (a + k) ≡ get_or bs k 0
unfolding put
put-inside m a bs k h =
    let at : a + k - a ≡ k = omega arith in
    let low : leb a (a + k) ≡ true = grind (arith, nat_tests) in
    let high : ltb (a + k) (a + length bs) ≡ true = grind (arith, nat_tests) in
    rw (low, high, at) refl

pub put_reads_back : PutReadsBack
put_reads_back m a bs = bytes-of (put m a bs) a bs (put-inside m a bs)

flat-at : (pages : Pages) (i k : ℕ) → k < 1024 → flat pages (1024 * i + k) ≡ get_or (pages i) k 0
flat-at pages i k h =
    let number : (1024 * i + k) / 1024 ≡ i = omega arith in
    let place : (1024 * i + k) % 1024 ≡ k = omega arith in
    ap₂ (λ n p. get_or (pages n) p 0) number place

pub bytes_hold_pages : BytesHoldPages
bytes_hold_pages pages i are =
    let long : length (pages i) ≡ 1024 = (are i).0 in
    ap (bytes (flat pages) (1024 * i)) (sym long)
    ∙ bytes-of (flat pages) (1024 * i) (pages i) (λ k l. flat-at pages i k (omega arith))
