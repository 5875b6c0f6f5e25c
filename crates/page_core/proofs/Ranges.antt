-- Ranges of bytes that are put one part after the other, each part into one page.
use Rattle.std.proofs.Common.{◌≡◌, ℕ, zero, suc, ◌+◌, ◌-◌, ◌*◌, ◌/◌, ◌%◌, ◌<◌, ◌≤◌, Bool, ◌||◌, eqb, List, [], ◌∷◌, ◌++◌, length, get_or, None, is_some, refl, sym, ap, ◌∙◌, arith, IsTrue, inl, inr, ◌⊎◌, ⊎_elim, append_assoc, length-append}
use Rattle.std.specs.Prelude.{Contains}
use Rattle.std.proofs.Math.Bool.{or_assoc}
use Rattle.std.proofs.lemmas.Bool.{or_cases, or_left, or_right, or_parts}
use Rattle.std.proofs.lemmas.Bool.Decides.{same_from_decides, leb_tells, eqb_tells}
use Rattle.std.proofs.lemmas.List.{append-nil, get_or_append_left, get_or-append-add}
use Rattle.page_core.specs.Memory.{put, is_among, pages_from, pages_of}
use Rattle.page_core.specs.Stored.{Stored, stored_at, memory_of, StoresAlso, StoresSome, IsAbsentAmong}
use Rattle.page_core.proofs.Bytes.{put-outside, put-inside, put-same, in_pages_from, in_pages_of}
use Rattle.page_core.proofs.Options.{none_from}
use Rattle.page_core.proofs.Listed.{Contains-none, Contains-cases, Contains-from_is_among, is_among-from_Contains}

-- the bytes up to an address were put into a memory of pages, and the rest of them wasn't yet
pub record IsPutUpTo (old new : Stored) (address : ℕ) (bytes : List ℕ) (at : ℕ) (rest : List ℕ) : Type 0 where
  pub done : List ℕ
  pub parts : bytes ≡ done ++ rest
  pub reached : at ≡ address + length done
  pub ends : at + length rest ≡ address + length bytes
  pub written : (a : ℕ) → memory_of new a ≡ put (memory_of old) address done a
  pub stored : (n : ℕ) → is_some (stored_at new n) ≡ (is_among (pages_of address (length done)) n || is_some (stored_at old n))

-- ---- what is put
-- a byte among those that were put
put_at : (m : ℕ → ℕ) (a : ℕ) (bs : List ℕ) (k : ℕ) → a ≤ k → k < a + length bs → put m a bs k ≡ get_or bs (k - a) 0
put_at m a bs k lo hi = ap (put m a bs) (omega (arith, lo)) ∙ put-inside m a bs (k - a) (omega (arith, lo, hi))

-- a byte that a part of the bytes gives
put_left : (m : ℕ → ℕ) (a : ℕ) (xs ys : List ℕ) (k : ℕ) → k < a + length xs → put m a xs k ≡ put m a (xs ++ ys) k
put_left m a xs ys k hi =
    elim (leb_tells a k) [
      | inl from ↦ put_at m a xs k from.1 hi
          ∙ sym (get_or_append_left xs ys 0 (k - a) (omega (arith, from.1, hi)))
          ∙ sym (put_at m a (xs ++ ys) k from.1 (simp length-append (omega (arith, hi))))
      | inr low ↦ put-outside m a xs k (inl low.1) ∙ sym (put-outside m a (xs ++ ys) k (inl low.1))
    ]

-- the bytes of two parts, the second put after the first
pub put_append : (m : ℕ → ℕ) (a : ℕ) (xs ys : List ℕ) (k : ℕ) → put (put m a xs) (a + length xs) ys k ≡ put m a (xs ++ ys) k
put_append m a xs ys k =
    elim (leb_tells (a + length xs) k) [
      | inl from ↦ elim (leb_tells (a + length xs + length ys) k) [
        | inl past ↦ put-outside (put m a xs) (a + length xs) ys k (inr past.1)
            ∙ put-outside m a xs k (inr from.1)
            ∙ sym (put-outside m a (xs ++ ys) k (inr (simp length-append (omega (arith, past.1)))))
        | inr inside ↦ put_at (put m a xs) (a + length xs) ys k from.1 inside.1
            ∙ sym (get_or-append-add xs ys (k - (a + length xs)) 0)
            ∙ ap (λ (n : ℕ). get_or (xs ++ ys) n 0) (omega (arith, from.1))
            ∙ sym (put_at m a (xs ++ ys) k (omega (arith, from.1)) (simp length-append (omega (arith, inside.1))))
      ]
      | inr low ↦ put-outside (put m a xs) (a + length xs) ys k (inl low.1) ∙ put_left m a xs ys k low.1
    ]

-- where a part of the bytes was put, each byte is as before or as it was to be
pub put_torn : (m : ℕ → ℕ) (a : ℕ) (xs ys : List ℕ) (k : ℕ) → (put m a xs k ≡ m k) ⊎ (put m a xs k ≡ put m a (xs ++ ys) k)
put_torn m a xs ys k =
    ⊎_elim
    (λ past. inl (put-outside m a xs k (inr past.1)))
    (λ low. inr (put_left m a xs ys k low.1))
    (leb_tells (a + length xs) k)

-- ---- pages
-- a page among n pages is one of their numbers
from_pages_from : (p n q : ℕ) → Contains (pages_from p n) q → (p ≤ q) × (q < p + n)
unfolding pages_from
from_pages_from p zero q h = absurd (Contains-none q h)
from_pages_from p (suc n) q h =
    ⊎_elim
    (λ same. (omega (arith, same), omega (arith, same)))
    (λ other.
    let later = from_pages_from (p + 1) n q other in
    (omega (arith, later.0), omega (arith, later.1)))
    (Contains-cases q p (pages_from (p + 1) n) h)

-- a page among those of n bytes has one of these bytes
from_pages_of : (a n q : ℕ) → Contains (pages_of a n) q → (0 < n) × (a / 1024 ≤ q) × (1024 * q < a + n)
from_pages_of a zero q h = absurd (Contains-none q h)
from_pages_of a (suc n) q h =
    let among = from_pages_from (a / 1024) ((a + n) / 1024 + 1 - a / 1024) q h in
    (omega arith, omega (arith, among.0), omega (arith, among.0, among.1))

-- a page that has one of n bytes is among their pages
to_pages_of : (a n q : ℕ) → 0 < n → a / 1024 ≤ q → 1024 * q < a + n → Contains (pages_of a n) q
to_pages_of a zero q some lo hi = absurd (omega (arith, some))
to_pages_of a (suc n) q some lo hi = in_pages_from (a / 1024) ((a + n) / 1024 + 1 - a / 1024) q lo (omega (arith, lo, hi))

-- bytes in one page bring this page to the pages of those before
pages_grow : (a n k q : ℕ) → 0 < k → (a + n) % 1024 + k ≤ 1024 → is_among (pages_of a (n + k)) q ≡ (eqb q ((a + n) / 1024) || is_among (pages_of a n) q)
pages_grow a n k q some fits =
    same_from_decides {P = Contains (pages_of a (n + k)) q} _ _ (Contains-from_is_among _ q, is_among-from_Contains _ q) (back, forth)
  where
    forth : Contains (pages_of a (n + k)) q → IsTrue (eqb q ((a + n) / 1024) || is_among (pages_of a n) q)
    forth h =
        let in_all = from_pages_of a (n + k) q h in
        ⊎_elim
        (λ same. or_left _ _ same.0)
        (λ other. or_right _ _ (is_among-from_Contains _ q (to_pages_of a n q (omega (arith, in_all, other.1, fits)) in_all.1 (omega (arith, in_all, other.1, fits)))))
        (eqb_tells q ((a + n) / 1024))

    back : IsTrue (eqb q ((a + n) / 1024) || is_among (pages_of a n) q) → Contains (pages_of a (n + k)) q
    back h =
        ⊎_elim
        (λ same. to_pages_of a (n + k) q (omega (arith, some)) (omega (arith, same.1)) (omega (arith, same.1, some)))
        (λ other.
        let before = from_pages_of a n q (Contains-from_is_among _ q (rw other.0 at h)) in
        to_pages_of a (n + k) q (omega (arith, some)) before.1 (omega (arith, before.2)))
        (eqb_tells q ((a + n) / 1024))

-- ---- parts of the bytes, one after the other
-- at first nothing was put
pub put_none : (old : Stored) (address : ℕ) (bytes : List ℕ) → IsPutUpTo old old address bytes address bytes
put_none old address bytes = record {
  done = [];
  parts = refl;
  reached = omega arith;
  ends = refl;
  written = λ a. sym (put-outside (memory_of old) address [] a (⊎_elim (λ t. inr (omega (arith, t.1))) (λ t. inl t.1) (leb_tells address a)));
  stored = λ n. refl;
}

-- then one more part, in one page
pub put_next : (old mid new : Stored) (address : ℕ) (bytes : List ℕ) (at : ℕ) (rest part after : List ℕ)
    → IsPutUpTo old mid address bytes at rest → part ++ after ≡ rest → 0 < length part → at % 1024 + length part ≤ 1024
    → ((a : ℕ) → memory_of new a ≡ put (memory_of mid) at part a) → StoresAlso (at / 1024) mid new
    → IsPutUpTo old new address bytes (at + length part) after
put_next old mid new address bytes at rest part after before is some fits written stored =
    let long : length (before.done ++ part) ≡ length before.done + length part = length-append before.done part in
    let whole : length part + length after ≡ length rest = sym (length-append part after) ∙ ap length is in
    record {
      done = before.done ++ part;
      parts = before.parts ∙ ap (λ (xs : List ℕ). before.done ++ xs) (sym is) ∙ sym (append_assoc before.done part after);
      reached = omega (arith, before.reached, long);
      ends = omega (arith, before.ends, whole);
      written = λ a.
          written a ∙ put-same (memory_of mid) (put (memory_of old) address before.done) at part a (before.written a)
          ∙ ap (λ (n : ℕ). put (put (memory_of old) address before.done) n part a) before.reached
          ∙ put_append (memory_of old) address before.done part a;
      stored = λ n.
          stored n ∙ ap (λ (b : Bool). eqb n (at / 1024) || b) (before.stored n)
          ∙ sym (or_assoc (eqb n (at / 1024)) _ _)
          ∙ ap (λ (b : Bool). b || is_some (stored_at old n))
          (ap (λ (m : ℕ). eqb n (m / 1024) || is_among (pages_of address (length before.done)) n) before.reached
          ∙ sym (pages_grow address (length before.done) (length part) n some (rw before.reached at fits))
          ∙ ap (λ (m : ℕ). is_among (pages_of address m) n) (sym long));
    }

-- what was put before a want of memory
pub torn_so_far : (old mid new : Stored) (address : ℕ) (bytes : List ℕ) (at : ℕ) (rest : List ℕ) → IsPutUpTo old mid address bytes at rest → new ≡ mid
    → (a : ℕ) → (memory_of new a ≡ memory_of old a) ⊎ (memory_of new a ≡ put (memory_of old) address bytes a)
torn_so_far old mid new address bytes at rest before kept a =
    let now : memory_of new a ≡ put (memory_of old) address before.done a = ap (λ (s : Stored). memory_of s a) kept ∙ before.written a in
    ⊎_elim
    (λ was. inl (now ∙ was))
    (λ is. inr (now ∙ is ∙ ap (λ (xs : List ℕ). put (memory_of old) address xs a) (sym before.parts)))
    (put_torn (memory_of old) address before.done rest a)

-- of the pages that weren't stored, only those of the bytes are stored at a want of memory
pub stored_so_far : (old mid new : Stored) (address : ℕ) (bytes : List ℕ) (at : ℕ) (rest : List ℕ) → IsPutUpTo old mid address bytes at rest → new ≡ mid
    → StoresSome (pages_of address (length bytes)) old new
stored_so_far old mid new address bytes at rest before kept = record {
  kept = λ n was. rw (kept, before.stored n) (or_right _ _ was);
  only = λ n is.
      ⊎_elim
      (λ part.
      let among = from_pages_of address (length before.done) n (Contains-from_is_among _ n part) in
      or_left _ _ (is_among-from_Contains _ n (to_pages_of address (length bytes) n (omega (arith, among.0, before.reached, before.ends)) among.1 (omega (arith, among.2, before.reached, before.ends)))))
      (λ was. or_right _ _ was)
      (or_cases (is_among (pages_of address (length before.done)) n) (is_some (stored_at old n)) (sym (before.stored n) ∙ ap (λ (s : Stored). is_some (stored_at s n)) (sym kept) ∙ is));
}

-- the page that isn't stored now wasn't stored at first
pub absent_at : (old mid : Stored) (address : ℕ) (bytes : List ℕ) (at : ℕ) (rest : List ℕ) → IsPutUpTo old mid address bytes at rest → 0 < length rest
    → stored_at mid (at / 1024) ≡ None → IsAbsentAmong (pages_of address (length bytes)) old
absent_at old mid address bytes at rest before some absent = (
  at / 1024,
  in_pages_of address (length bytes) at (omega (arith, before.reached)) (omega (arith, before.ends, some)),
  none_from (stored_at old (at / 1024))
      (or_parts (is_among (pages_of address (length before.done)) (at / 1024)) _ (sym (before.stored (at / 1024)) ∙ ap is_some absent)).1,
)

-- all of the bytes were put
pub put_all : (old new : Stored) (address : ℕ) (bytes : List ℕ) (at : ℕ) (rest : List ℕ) → IsPutUpTo old new address bytes at rest → length rest ≡ 0
    → (a : ℕ) → memory_of new a ≡ put (memory_of old) address bytes a
put_all old new address bytes at [] before none a =
    before.written a ∙ ap (λ (xs : List ℕ). put (memory_of old) address xs a) (sym (before.parts ∙ append-nil before.done))
put_all old new address bytes at (b ∷ rest) before none a = absurd (omega (arith, none))

-- their pages were stored
pub stored_all : (old new : Stored) (address : ℕ) (bytes : List ℕ) (at : ℕ) (rest : List ℕ) → IsPutUpTo old new address bytes at rest → length rest ≡ 0
    → (n : ℕ) → is_some (stored_at new n) ≡ (is_among (pages_of address (length bytes)) n || is_some (stored_at old n))
stored_all old new address bytes at rest before none n =
    before.stored n ∙ ap (λ (m : ℕ). is_among (pages_of address m) n || is_some (stored_at old n)) (omega (arith, before.reached, before.ends, none))
