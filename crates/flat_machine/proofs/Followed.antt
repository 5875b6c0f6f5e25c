-- The pages that two memories have differently, put into the tree of the first.
use Rattle.std.proofs.Common.{◌≡◌, ◌≢◌, ℕ, suc, ◌+◌, ◌<◌, Bool, true, false, List, [], ◌∷◌, ◌++◌, get_or, length, take, Option, refl, sym, ap, ◌∙◌, arith, ⊎_elim, append-nil, append_assoc}
use Rattle.std.specs.Prelude.{All, Contains, if◌then◌else◌, map, unwrap_or}
use Rattle.std.specs.Option.{option_or}
use Rattle.std.specs.Str.{bytes_eq}
use Rattle.std.proofs.lemmas.Bool.{cases_eq}
use Rattle.std.proofs.lemmas.List.Elements.{All-nil, All-cons}
use Rattle.std.proofs.lemmas.Slice.Eq.{bytes_eq-Decides}
use Rattle.std.proofs.Math.Seq.{take-suc}
use Rattle.page_core.specs.Memories.{page_of}
use Rattle.page_core.specs.Pages.{Pages, zero_page}
use Rattle.page_core.specs.Stored.{Stored, stored_at, stored_pages}
use Rattle.page_core.proofs.Listed.{Contains-none, Contains-cases}
use Rattle.page_tree.specs.Grown.{AscendFrom, stored_with_all}
use Rattle.page_tree.proofs.Merged.{numbers_ascend, stored_at-with_all, at_head, at_rest}
use Rattle.page_tree.proofs.Sides.{ascend_before}
use Rattle.rv_step.specs.Machine.{State, full}
use Rattle.flat_machine.specs.Following.{HoldsMemory, changed_page, changed}

-- ---- pages that ascend
pub all_below : (least : ℕ) (pages : List ℕ) → AscendFrom least pages → All (λ page. page < 262144) pages
all_below least [] up = All-nil (λ (page : ℕ). page < 262144)
all_below least (p ∷ ps) up = All-cons (λ (page : ℕ). page < 262144) p ps up.1 (all_below (p + 1) ps up.2)

module _ (old new : Pages) where
  -- ---- one page more
  changed_append : (xs ys : List ℕ) → changed old new (xs ++ ys) ≡ changed old new xs ++ changed old new ys
  unfolding changed
  changed_append [] ys = refl
  changed_append (x ∷ xs) ys =
      ap (λ (ps : Stored). changed_page x (old x) (new x) ++ ps) (changed_append xs ys)
      ∙ sym (append_assoc (changed_page x (old x) (new x)) (changed old new xs) (changed old new ys))

  changed_one : (x : ℕ) → changed old new (x ∷ []) ≡ changed_page x (old x) (new x)
  unfolding changed
  changed_one x = append-nil (changed_page x (old x) (new x))

  pub changed_none : changed old new [] ≡ []
  unfolding changed
  changed_none = refl

  pub changed_more : (pages : List ℕ) (i : ℕ) → i < length pages
      → changed old new (take (suc i) pages) ≡ changed old new (take i pages) ++ changed_page (get_or pages i 0) (old (get_or pages i 0)) (new (get_or pages i 0))
  changed_more pages i within =
      ap (changed old new) (take-suc pages i 0 within)
      ∙ changed_append (take i pages) (get_or pages i 0 ∷ [])
      ∙ ap (λ (ps : Stored). changed old new (take i pages) ++ ps) (changed_one (get_or pages i 0))

  -- ---- their numbers ascend, as those of the pages do
  pub changed_ascend : (least : ℕ) (pages : List ℕ) → AscendFrom least pages → AscendFrom least (map (λ p. p.0) (changed old new pages))
  unfolding changed
  changed_ascend least [] up = tt
  changed_ascend least (p ∷ ps) up = go (bytes_eq (old p) (new p)) (changed_ascend (p + 1) ps up.2)
    where
      go : (same : Bool) → AscendFrom (p + 1) (map (λ q. q.0) (changed old new ps)) → AscendFrom least (map (λ q. q.0) ((if same then [] else (p, new p) ∷ []) ++ changed old new ps))
      go true rest = ascend_before least (p + 1) (map (λ q. q.0) (changed old new ps)) (omega (arith, up.0)) rest
      go false rest = (up.0, up.1, rest)

  -- ---- with them the pages are the new ones
  changed_at : (o : Option (List ℕ)) (k : ℕ) (pages : List ℕ) → unwrap_or o zero_page ≡ old k → (¬ Contains pages k → old k ≡ new k)
      → unwrap_or (option_or (stored_at (changed old new pages) k) o) zero_page ≡ new k
  unfolding changed
  changed_at o k [] is others = is ∙ others (Contains-none k)
  changed_at o k (p ∷ ps) is others = go (bytes_eq (old p) (new p)) refl (changed_at o k ps is)
    where
      behind : k ≢ p → ¬ Contains ps k → old k ≡ new k
      behind other away = others (λ e. ⊎_elim (λ same. other same) (λ there. away there) (Contains-cases k p ps e))

      go : (same : Bool) → bytes_eq (old p) (new p) ≡ same → ((¬ Contains ps k → old k ≡ new k) → unwrap_or (option_or (stored_at (changed old new ps) k) o) zero_page ≡ new k)
          → unwrap_or (option_or (stored_at ((if same then [] else (p, new p) ∷ []) ++ changed old new ps) k) o) zero_page ≡ new k
      go true equal rest =
          rest
          (λ away. ⊎_elim (λ here. ap old here ∙ (bytes_eq-Decides (old p) (new p)).0 equal ∙ ap new (sym here)) (λ other. behind other away) (cases_eq k p))
      go false differs rest =
          ⊎_elim
          (λ (here : k ≡ p). ap (λ (n : ℕ). unwrap_or (option_or (stored_at ((p, new p) ∷ changed old new ps) n) o) zero_page) here
          ∙ ap (λ (found : Option (List ℕ)). unwrap_or (option_or found o) zero_page) (at_head (p, new p) (changed old new ps)) ∙ ap new (sym here))
          (λ (other : k ≢ p). ap (λ (found : Option (List ℕ)). unwrap_or (option_or found o) zero_page) (at_rest (p, new p) (changed old new ps) k other)
          ∙ rest (behind other))
          (cases_eq k p)

-- a tree that has the memory of a state outside these pages holds it once it has those of them that it has otherwise
pub holds_changed : (tree next : Stored) (s : State) (pages : List ℕ) → AscendFrom 0 pages
    → ((page : ℕ) → page < 262144 → ¬ Contains pages page → stored_pages tree page ≡ page_of (full s) page)
    → next ≡ stored_with_all tree (changed (stored_pages tree) (page_of (full s)) pages) → HoldsMemory next s
holds_changed tree next s pages up others is page low =
    let list : Stored = changed (stored_pages tree) (page_of (full s)) pages in
    ap (λ (t : Stored). stored_pages t page) is
    ∙ ap (λ (o : Option (List ℕ)). unwrap_or o zero_page) (stored_at-with_all 0 tree list page (numbers_ascend 0 list (changed_ascend (stored_pages tree) (page_of (full s)) 0 pages up)))
    ∙ changed_at (stored_pages tree) (page_of (full s)) (stored_at tree page) page pages refl (others page low)
