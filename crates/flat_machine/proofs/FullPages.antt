-- The register page of a memory, while the registers are written into it.
use Rattle.std.proofs.Common.{◌≡◌, ℕ, ◌+◌, ◌*◌, ◌<◌, ◌≤◌, List, ◌++◌, get_or, length, take, drop, refl, sym, ap, ◌∙◌, subst, arith}
use Rattle.std.specs.Int.{w32, to_le_bytes}
use Rattle.page_core.specs.Memory.{top, put}
use Rattle.page_core.specs.Pages.{IsPage}
use Rattle.page_core.specs.Memories.{page_of}
use Rattle.page_core.proofs.Bytes.{length-to_le_bytes, page_same}
use Rattle.page_core.proofs.Shown.{page_put, page_shown}
use Rattle.flat_machine.specs.Layers.{Layers, layered_pages, memory_in}
use Rattle.rv_step.specs.Machine.{full_of}
use Rattle.rv_step.proofs.Full.{full-below}
use Rattle.rv_step.proofs.Words.{none_put, full_up_to, one_more_full, all_full}

-- it is that of each memory whose register page it was, with the registers from x1 to that before n
abbrev pub HasRegisters : List ℕ → List ℕ → ℕ → List ℕ → Type 0
HasRegisters old x n page = (m : ℕ → ℕ) → old ≡ page_of m 262143 → page ≡ page_of (full_up_to m x n) 262143

pub written_none : (old x : List ℕ) → HasRegisters old x 1 old
written_none old x m is = is ∙ ap (λ (k : ℕ → ℕ). page_of k 262143) (none_put m (top + 4))

pub written_next : (old page new x bs : List ℕ) (n v at : ℕ) → HasRegisters old x n page → 1 ≤ n → n < 32 → length x ≡ 32 → v ≡ get_or x n 0 → bs ≡ to_le_bytes w32 v → at ≡ 4 * n
    → new ≡ take at page ++ (bs ++ drop (at + length bs) page) → IsPage new → HasRegisters old x (n + 1) new
written_next old page new x bs n v at before some low size is bytes there after shape m was =
    let here : page ≡ page_of (full_up_to m x n) 262143 = before m was in
    let fits : length bs ≡ 4 = ap length bytes ∙ length-to_le_bytes w32 v in
    let patched : new ≡ take at (page_of (full_up_to m x n) 262143) ++ (bs ++ drop (at + length bs) (page_of (full_up_to m x n) 262143)) =
    after ∙ ap (λ (p : List ℕ). take at p ++ (bs ++ drop (at + length bs) p)) here in
    patched
    ∙ sym (page_put (full_up_to m x n) 262143 at bs (omega (arith, there, low)) (omega (arith, there, low, fits)) (subst IsPage patched shape))
    ∙ ap (λ (k : ℕ → ℕ). page_of k 262143)
    (ap (put (full_up_to m x n) (1024 * 262143 + at)) bytes
    ∙ one_more_full m (full_up_to m x n) (put (full_up_to m x n) (1024 * 262143 + at) (to_le_bytes w32 v)) x n v (1024 * 262143 + at) refl some low size is (omega (arith, there)) refl)

pub written_all : (old page x : List ℕ) (n : ℕ) → n ≡ 32 → length x ≡ 32 → HasRegisters old x n page → (m : ℕ → ℕ) → old ≡ page_of m 262143 → page ≡ page_of (full_of m x) 262143
written_all old page x n all size are m was = are m was ∙ ap (λ (k : ℕ → ℕ). page_of k 262143) (all_full m x n all size)

-- no other page changes
pub others_full : (m : ℕ → ℕ) (x : List ℕ) (p : ℕ) → p < 262143 → page_of m p ≡ page_of (full_of m x) p
others_full m x p low = page_same m (full_of m x) p (λ a at. sym (full-below m x a (omega (arith, at, low))))

-- a page of a memory in two layers
pub page_in_memory : (l : Layers) (number : ℕ) (page bytes : List ℕ) → page ≡ bytes → bytes ≡ layered_pages l number → IsPage bytes → page ≡ page_of (memory_in l) number
page_in_memory l number page bytes copy is shape = copy ∙ sym (page_shown (layered_pages l) number bytes (sym is) shape)
