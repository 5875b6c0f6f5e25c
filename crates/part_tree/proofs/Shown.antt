-- What a part tree that agrees with a memory shows of its bytes.
use Rattle.std.proofs.Common.{◌≡◌, ◌⊎◌, inl, inr, ℕ, zero, suc, ◌+◌, ◌*◌, ◌/◌, ◌%◌, ◌==◌, true, List, get_or, Option, Some, None, refl, sym, ap, ap₂, ◌∙◌, arith}
use Rattle.std.specs.Prelude.{Contains, unwrap_or, IsSome}
use Rattle.std.specs.Option.{option_or}
use Rattle.std.proofs.lemmas.Option.{cond_some}
use Rattle.std.proofs.lemmas.Bool.Decides.{nat_tests}
use Rattle.std.proofs.lemmas.List.Elements.{Contains-append_left, Contains-append_right}
use Rattle.page_core.specs.Pages.{zero_page}
use Rattle.part_tree.specs.Part.{Part, pruned, branch, leaf, page_at, open_numbers, fill, put_part, Agree}
use Rattle.part_tree.proofs.Pages.{opened_open}
use Rattle.page_core.specs.Memory.{AgreeOn}
use Rattle.page_core.proofs.Bytes.{flat-page_of}
use Rattle.page_core.specs.Memories.{page_of, flat}

-- ---- the pages of a tree that agrees
pub of_either : (a b : Option (List ℕ)) (x : List ℕ) → option_or a b ≡ Some x → (a ≡ Some x) ⊎ (b ≡ Some x)
of_either (Some y) b x e = inl e
of_either None b x e = inr e

same_page : (p i : ℕ) → (p == i) ≡ true → p ≡ i
same_page p i e = grind (arith, nat_tests)

pub page_agrees : (H : List ℕ → List ℕ) (m : ℕ → List ℕ) (h i p : ℕ) (t : Part) (page : List ℕ) → Agree H m h i t → page_at i t p ≡ Some page → page ≡ m p
page_agrees H m h i p (pruned digest) page agree e = absurd (cc)
page_agrees H m zero i p (branch left right) page agree e = absurd agree
page_agrees H m (suc h) i p (branch left right) page agree e =
    elim (of_either (page_at (2 * i) left p) (page_at (2 * i + 1) right p) page e) [
      | inl l ↦ page_agrees H m h (2 * i) p left page agree.0 l
      | inr r ↦ page_agrees H m h (2 * i + 1) p right page agree.1 r
    ]
page_agrees H m zero i p (leaf own) page agree e =
    let (b, same) = cond_some (p == i) own page e in sym same ∙ agree ∙ ap m (sym (same_page p i b))
page_agrees H m (suc h) i p (leaf own) page agree e = absurd agree

-- what is open in the tree is filled with the memory's bytes
filled : (m : ℕ → ℕ) (a : ℕ) (o : Option (List ℕ)) → IsSome o → ((page : List ℕ) → o ≡ Some page → page ≡ page_of m (a / 1024))
    → get_or (unwrap_or o zero_page) (a % 1024) 0 ≡ m a
filled m a (Some page) some same = ap (λ (q : List ℕ). get_or q (a % 1024) 0) (same page refl) ∙ flat-page_of m a
filled m a None some same = absurd (cc)

pub tree_shows : (H : List ℕ → List ℕ) (m : ℕ → ℕ) (t : Part) → Agree H (page_of m) 18 0 t → AgreeOn (open_numbers 0 t) (flat (fill t)) m
tree_shows H m t agree = record {
  at = λ a c.
      filled m a (page_at 0 t (a / 1024)) (opened_open 0 t (a / 1024) c)
      (λ page e. page_agrees H (page_of m) 18 0 (a / 1024) t page agree e);
}

-- a put depends on the open pages alone
pub put_same : (i : ℕ) (t : Part) (m n : ℕ → List ℕ) → ((p : ℕ) → Contains (open_numbers i t) p → m p ≡ n p) → put_part i t m ≡ put_part i t n
put_same i (pruned digest) m n same = refl
put_same i (branch left right) m n same =
    ap₂ branch
    (put_same (2 * i) left m n (λ p c. same p (Contains-append_left (open_numbers (2 * i) left) (open_numbers (2 * i + 1) right) p c)))
    (put_same (2 * i + 1) right m n (λ p c. same p (Contains-append_right (open_numbers (2 * i) left) (open_numbers (2 * i + 1) right) p c)))
put_same i (leaf page) m n same = ap leaf (same i (0, omega arith, refl))
