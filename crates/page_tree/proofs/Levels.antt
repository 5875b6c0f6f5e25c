-- The digests of a block, one height after the other. H is the digest function.
use Rattle.std.proofs.Common.{◌≡◌, ◌≢◌, inl, inr, ℕ, suc, ◌+◌, ◌-◌, ◌*◌, ◌/◌, ◌^◌, ◌<◌, ◌≤◌, true, List, [], ◌∷◌, ◌++◌, length, get_or, sym, ap, ap₂, subst, ◌∙◌, arith}
use Rattle.std.proofs.Math.ListN.{set}
use Rattle.std.proofs.lemmas.Bool.{eqb-true}
use Rattle.std.proofs.lemmas.Bool.Decides.{eqb_tells}
use Rattle.std.proofs.lemmas.List.{get_or_default, get_or-set_same, get_or-set_other}
use Rattle.page_core.specs.Pages.{Pages}
use Rattle.part_tree.specs.Tree.{node, node-suc}
use Rattle.page_tree.specs.Blocks.{place_of, LevelIs, DigestsAre}
use Rattle.page_tree.specs.Changes.{Untouched, begins_below}
use Rattle.page_tree.proofs.Places.{left_place, right_place, place_most, place_inner, other_height}

-- a page that shares its node with the next one leaves the node to that
pub leave_to_next : (b k x : ℕ) (p : ℕ × List ℕ) (ps : List (ℕ × List ℕ)) → begins_below (b + k) (p.0 / 2 ^ (b + k)) ps ≡ true → Untouched b k x ps → Untouched b k x (p ∷ ps)
leave_to_next b k x p [] begins away = absurd (cc)
leave_to_next b k x p (q ∷ qs) begins away = (λ e. away.0 (ap (place_of k) (eqb-true (q.0 / 2 ^ (b + k)) (p.0 / 2 ^ (b + k)) begins) ∙ e), away)

-- a digest of one height leaves those of the others
pub other_level : (k l x y : ℕ) (digests : List (List ℕ)) (d : List ℕ) → k ≤ 6 → l ≤ 6 → k ≢ l
    → get_or (set digests (place_of l y) d) (place_of k x) [] ≡ get_or digests (place_of k x) []
other_level k l x y digests d kmost lmost ne = get_or-set_other digests (place_of l y) (place_of k x) d [] (other_height k l x y kmost lmost ne)

module _ (H : List ℕ → List ℕ) (m : Pages) where
  -- a node's digest is that of the two below it
  above_two : (b k x : ℕ) → 1 ≤ k → node H m (b + k) x ≡ H (node H m (b + (k - 1)) (2 * x) ++ node H m (b + (k - 1)) (2 * x + 1))
  above_two b k x some =
      let one : b + k ≡ suc (b + (k - 1)) = omega (arith, some) in
      rw one (node-suc H m (b + (k - 1)) x)

  -- the digest that is computed from the places below a node is the node's
  computed : (b k x : ℕ) (digests : List (List ℕ)) (d : List ℕ) → 1 ≤ k → k ≤ 6 → LevelIs H m b (k - 1) digests
      → d ≡ H (get_or digests (2 * place_of k x) [] ++ get_or digests (2 * place_of k x + 1) []) → d ≡ node H m (b + k) x
  computed b k x digests d some most below is =
      is
      ∙ ap H (ap₂ (λ (l r : List ℕ). l ++ r)
      (ap (λ (p : ℕ). get_or digests p []) (left_place k x some most) ∙ below (2 * x))
      (ap (λ (p : ℕ). get_or digests p []) (right_place k x some most) ∙ below (2 * x + 1)))
      ∙ sym (above_two b k x some)

  -- after the digest of the first page's node, the nodes without one of the other pages below are right
  pub level_next : (b k : ℕ) (p : ℕ × List ℕ) (ps : List (ℕ × List ℕ)) (digests : List (List ℕ)) (d : List ℕ) → 1 ≤ k → k ≤ 5 → length digests ≡ 128
      → LevelIs H m b (k - 1) digests
      → ((x : ℕ) → Untouched b k x (p ∷ ps) → get_or digests (place_of k x) [] ≡ node H m (b + k) x)
      → d ≡ H (get_or digests (2 * place_of k (p.0 / 2 ^ (b + k))) [] ++ get_or digests (2 * place_of k (p.0 / 2 ^ (b + k)) + 1) [])
      → (x : ℕ) → Untouched b k x ps → get_or (set digests (place_of k (p.0 / 2 ^ (b + k))) d) (place_of k x) [] ≡ node H m (b + k) x
  level_next b k p ps digests d some most long below before is x away =
      let y : ℕ = p.0 / 2 ^ (b + k) in
      elim (eqb_tells (place_of k y) (place_of k x)) [
        | inl same ↦
            ap (λ (q : ℕ). get_or (set digests (place_of k y) d) q []) (sym same.1)
            ∙ get_or-set_same digests (place_of k y) d [] (omega (arith, place_most k y, long))
            ∙ computed b k x digests d some (omega (arith, most)) below
            (is ∙ ap (λ (q : ℕ). H (get_or digests (2 * q) [] ++ get_or digests (2 * q + 1) [])) same.1)
        | inr other ↦
            get_or-set_other digests (place_of k y) (place_of k x) d [] (λ e. other.1 (sym e))
            ∙ before x (other.1, away)
      ]

  -- the same where the digest is put at a place that is the node's
  pub level_put : (b k at : ℕ) (p : ℕ × List ℕ) (ps rest : List (ℕ × List ℕ)) (digests : List (List ℕ)) (d e f : List ℕ) → 1 ≤ k → k ≤ 5 → length digests ≡ 128
      → at ≡ place_of k (p.0 / 2 ^ (b + k)) → rest ≡ p ∷ ps → d ≡ H (get_or digests (2 * at) e ++ get_or digests (2 * at + 1) f)
      → LevelIs H m b (k - 1) digests
      → ((x : ℕ) → Untouched b k x rest → get_or digests (place_of k x) [] ≡ node H m (b + k) x)
      → (x : ℕ) → Untouched b k x ps → get_or (set digests at d) (place_of k x) [] ≡ node H m (b + k) x
  level_put b k at p ps rest digests d e f some most long is parts made below before x away =
      let inner : at < 64 = omega (arith, is, place_inner k (p.0 / 2 ^ (b + k)) some) in
      let read : d ≡ H (get_or digests (2 * at) [] ++ get_or digests (2 * at + 1) []) =
      made ∙ ap H (ap₂ (λ (l r : List ℕ). l ++ r) (get_or_default digests (2 * at) e [] (omega (arith, inner, long))) (get_or_default digests (2 * at + 1) f [] (omega (arith, inner, long)))) in
      subst (λ (q : ℕ). get_or (set digests q d) (place_of k x) [] ≡ node H m (b + k) x) (sym is)
      (level_next b k p ps digests d some most long below (λ y a. before y (subst (Untouched b k y) (sym parts) a))
      (subst (λ (q : ℕ). d ≡ H (get_or digests (2 * q) [] ++ get_or digests (2 * q + 1) [])) is read) x away)

  -- the digest of the block
  pub whole_block : (b x : ℕ) (digests : List (List ℕ)) (d e f : List ℕ) → length digests ≡ 128 → DigestsAre H m b digests → d ≡ H (get_or digests 2 e ++ get_or digests 3 f) → d ≡ node H m (b + 6) x
  whole_block b x digests d e f long are made =
      let is : d ≡ H (get_or digests 2 [] ++ get_or digests 3 []) =
      made ∙ ap H (ap₂ (λ (l r : List ℕ). l ++ r) (get_or_default digests 2 e [] (omega (arith, long))) (get_or_default digests 3 f [] (omega (arith, long)))) in
      let top : 1 ≡ place_of 6 x = omega arith in
      computed b 6 x digests d (omega arith) (omega arith) (are 5 (omega arith))
      (subst (λ (q : ℕ). d ≡ H (get_or digests (2 * q) [] ++ get_or digests (2 * q + 1) [])) top is)
