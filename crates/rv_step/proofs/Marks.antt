-- Marks that are set one by one.
use Rattle.std.proofs.Common.{◌≡◌, ℕ, zero, suc, ◌+◌, ◌<◌, Bool, true, false, ◌||◌, eqb, List, [], ◌∷◌, get_or, set, length, take, sym, ap, ◌∙◌, arith}
use Rattle.std.proofs.lemmas.Bool.Decides.{nat_tests}
use Rattle.std.proofs.Math.Bool.{or_assoc, or-true, or-false}
use Rattle.std.proofs.Math.Dec.{eqb-suc-suc}
use Rattle.std.proofs.Math.Seq.{take-suc}
use Rattle.std.proofs.lemmas.List.Folds.{list_any-append}
use Rattle.page_core.specs.Memory.{is_among}

set_there : (marks : List Bool) (q p : ℕ) → p < length marks → get_or (set marks q true) p false ≡ (get_or marks p false || (eqb p q || false))
set_there [] q p h = absurd (omega arith)
set_there (m ∷ marks) zero zero h = sym (or-true m)
set_there (m ∷ marks) zero (suc p) h = let e : eqb (suc p) 0 ≡ false = grind (arith, nat_tests) in rw e (sym (or-false (get_or marks p false)))
set_there (m ∷ marks) (suc q) zero h = let e : eqb 0 (suc q) ≡ false = grind (arith, nat_tests) in rw e (sym (or-false m))
set_there (m ∷ marks) (suc q) (suc p) h =
    let e : eqb (suc p) (suc q) ≡ eqb p q = eqb-suc-suc p q in
    set_there marks q p (omega arith) ∙ ap (λ b. get_or marks p false || (b || false)) (sym e)

-- one more page of those that are marked
pub mark_on : (old now : List Bool) (pages : List ℕ) (k p : ℕ) → p < length now → k < length pages
    → get_or now p false ≡ (get_or old p false || is_among (take k pages) p)
    → get_or (set now (get_or pages k 0) true) p false ≡ (get_or old p false || is_among (take (k + 1) pages) p)
mark_on old now pages k p within h before =
    let next : k + 1 ≡ suc k = omega arith in
    set_there now (get_or pages k 0) p within
    ∙ ap (λ b. b || (eqb p (get_or pages k 0) || false)) before
    ∙ or_assoc (get_or old p false) (is_among (take k pages) p) (is_among (get_or pages k 0 ∷ []) p)
    ∙ ap (λ b. get_or old p false || b) (sym (list_any-append (eqb p) (take k pages) (get_or pages k 0 ∷ [])))
    ∙ ap (λ ps. get_or old p false || is_among ps p) (sym (take-suc pages k 0 h) ∙ ap (λ j. take j pages) (sym next))
