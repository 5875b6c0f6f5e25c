-- Open pages as parts of a memory, and the registers written into the register page.
use Rattle.std.proofs.Common.{◌≡◌, ◌≢◌, ℕ, ◌+◌, ◌*◌, ◌/◌, ◌<◌, ◌≤◌, Bool, true, false, List, [], ◌∷◌, get_or, length, Option, Some, None, refl, sym, ap, ◌∙◌, arith, IsTrue, inl, inr, ◌⊎◌}
use Rattle.std.specs.Int.{w32, to_le_bytes}
use Rattle.std.specs.List.{flat_map}
use Rattle.std.proofs.lemmas.Bool.{true≢false}
use Rattle.page_core.proofs.Zeros.{zeros_are}
use Rattle.std.specs.Prelude.{is_some, unwrap_or}
use Rattle.std.proofs.lemmas.Bool.Decides.{leb_tells}
use Rattle.page_core.specs.Memory.{top, put}
use Rattle.page_core.specs.Pages.{IsPage, zero_page}
use Rattle.page_core.specs.Memories.{flat, page_of}
use Rattle.page_core.proofs.Bytes.{put-outside, length-words, page_same}
use Rattle.page_core.proofs.Shown.{page_shown}
use Rattle.rv_step.specs.Machine.{full_of}
use Rattle.rv_step.specs.Opened.{page_in, pages_in}
use Rattle.rv_step.proofs.Words.{none_put, full_up_to, one_more_full, all_full}

-- ---- one page
-- an open page is that of the memory that the pages make, and zeros where none is open
pub open_shown : (pages : List (Option (List ℕ))) (i : ℕ) (page : List ℕ) → Some page ≡ page_in pages i → IsPage page → page_of (flat (pages_in pages)) i ≡ page
open_shown pages i page is shape = page_shown (pages_in pages) i page (ap (λ (o : Option (List ℕ)). unwrap_or o zero_page) (sym is)) shape

pub shut_shown : (pages : List (Option (List ℕ))) (i : ℕ) → None ≡ page_in pages i → page_of (flat (pages_in pages)) i ≡ zero_page
shut_shown pages i is = page_shown (pages_in pages) i zero_page (ap (λ (o : Option (List ℕ)). unwrap_or o zero_page) (sym is)) zeros_are

-- ---- the registers
-- the registers from x1 to that before n are written into the memory of the pages, and the same pages are open
pub record AreWritten (old new : List (Option (List ℕ))) (x : List ℕ) (n : ℕ) : Type 0 where
  pub opens : ◌≡◌ {A = ℕ → Bool} (λ page. is_some (page_in new page)) (λ page. is_some (page_in old page))
  pub written : flat (pages_in new) ≡ full_up_to (flat (pages_in old)) x n

pub written_none : (old : List (Option (List ℕ))) (x : List ℕ) → AreWritten old old x 1
written_none old x = record { opens = refl; written = none_put (flat (pages_in old)) (top + 4) }

pub written_next : (old mid new : List (Option (List ℕ))) (x : List ℕ) (n v at : ℕ) → AreWritten old mid x n → 1 ≤ n → n < 32 → length x ≡ 32
    → v ≡ get_or x n 0 → at ≡ top + 4 * n → ◌≡◌ {A = ℕ → Bool} (λ page. is_some (page_in new page)) (λ page. is_some (page_in mid page))
    → flat (pages_in new) ≡ put (flat (pages_in mid)) at (to_le_bytes w32 v) → AreWritten old new x (n + 1)
written_next old mid new x n v at before some low size is there opens after = record {
  opens = opens ∙ before.opens;
  written = one_more_full (flat (pages_in old)) (flat (pages_in mid)) (flat (pages_in new)) x n v at before.written some low size is there after;
}

pub still_open : (old new : List (Option (List ℕ))) (x : List ℕ) (n at : ℕ) → AreWritten old new x n → at ≡ 262143 → is_some (page_in old 262143) ≡ true
    → IsTrue (is_some (page_in new at))
still_open old new x n at are here shown = ap (λ (p : ℕ). is_some (page_in new p)) here ∙ ap (λ (f : ℕ → Bool). f 262143) are.opens ∙ shown

pub written_all : (old new : List (Option (List ℕ))) (x : List ℕ) → AreWritten old new x 32 → length x ≡ 32 → flat (pages_in new) ≡ full_of (flat (pages_in old)) x
written_all old new x are size = are.written ∙ all_full (flat (pages_in old)) x 32 refl size

-- no other page than the register page changes
elsewhere : (m : ℕ → ℕ) (x : List ℕ) (p : ℕ) → length x ≡ 32 → p ≢ 262143 → page_of m p ≡ page_of (full_of m x) p
unfolding full_of
elsewhere m [] p size other = absurd (omega (arith, size))
elsewhere m (y ∷ x) p size other =
    page_same m (full_of m (y ∷ x)) p (λ a at. sym (put-outside m (top + 4) (flat_map (to_le_bytes w32) x) a (away a at)))
  where
    away : (a : ℕ) → a / 1024 ≡ p → (a < top + 4) ⊎ (top + 4 + length (flat_map (to_le_bytes w32) x) ≤ a)
    away a at =
        elim (leb_tells 262143 p) [
          | inl from ↦ inr (omega (arith, at, other, from.1, size, length-words x))
          | inr low ↦ inl (omega (arith, at, low.1))
        ]

-- where the register page isn't open, no open page changes
pub none_written : (pages : List (Option (List ℕ))) (x : List ℕ) → length x ≡ 32 → is_some (page_in pages 262143) ≡ false
    → (p : ℕ) → IsTrue (is_some (page_in pages p)) → page_of (flat (pages_in pages)) p ≡ page_of (full_of (flat (pages_in pages)) x) p
none_written pages x size shut p shown = elsewhere (flat (pages_in pages)) x p size (λ same. true≢false (sym shown ∙ ap (λ (q : ℕ). is_some (page_in pages q)) same ∙ shut))
