-- Pages of zeros, and the pages of a stored memory.
use Rattle.std.proofs.Common.{◌≡◌, ℕ, zero, suc, ◌+◌, ◌<◌, cond, true, false, eqb, [], ◌∷◌, get_or, replicate, Some, refl, arith}
use Rattle.std.specs.Prelude.{unwrap_or}
use Rattle.std.proofs.lemmas.List.{length-replicate}
use Rattle.std.proofs.lemmas.List.Elements.{All-replicate}
use Rattle.page_core.specs.Pages.{IsPage, ArePages, zero_page}
use Rattle.page_core.specs.Stored.{Stored, IsStoredFrom, stored_at, stored_pages}

-- what isn't in a list of equal items is given as one of them
pub get_or-same : {A : Type 0} (n k : ℕ) (x : A) → get_or (replicate n x) k x ≡ x
get_or-same zero k x = refl
get_or-same (suc n) zero x = refl
get_or-same (suc n) (suc k) x = get_or-same n k x

pub zero_byte : (k : ℕ) → get_or zero_page k 0 ≡ 0
unfolding zero_page
zero_byte k = get_or-same 1024 k 0

-- a page of zeros is a page
pub zeros_are : IsPage zero_page
unfolding zero_page
zeros_are = (length-replicate {A = ℕ} 1024 0, All-replicate (λ (b : ℕ). b < 256) 1024 0 (omega arith))

-- each page of a stored memory is one
pub pages_are : (stored : Stored) (least : ℕ) → IsStoredFrom least stored → ArePages (stored_pages stored)
pages_are [] least are n = zeros_are
pages_are (p ∷ ps) least are n =
    elim (eqb n p.0) as (λ b. IsPage (unwrap_or (cond b (Some p.1) (stored_at ps n)) zero_page)) [ true ↦ are.2 | false ↦ pages_are ps (p.0 + 1) are.3 n ]
