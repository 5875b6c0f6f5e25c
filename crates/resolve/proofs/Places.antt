-- The place of a digest among others, and the entry that has it. H is the digest function.
use Rattle.std.proofs.Common.{◌≡◌, ℕ, suc, ◌+◌, ◌<◌, ◌≤◌, Bool, true, false, cond, List, [], ◌∷◌, length, drop, get_or, Option, Some, None, refl, sym, ap, ◌∙◌, arith}
use Rattle.std.proofs.lemmas.Bool.{true≢false}
use Rattle.std.proofs.lemmas.Option.{same_Some}
use Rattle.std.specs.Prelude.{option_map}
use Rattle.std.specs.Str.{bytes_eq}
use Rattle.std.proofs.lemmas.List.{drop_more, drop_all}
use Rattle.std.proofs.lemmas.Slice.Eq.{bytes_eq-Decides}
use Rattle.lift_join.proofs.Joining.{test_bytes}
use Rattle.lift_join.specs.Joins.{chain_of}
use Rattle.receipt_types.specs.Bundles.{Entry}
use Rattle.check_core.specs.Entries.{digest_or_none}
use Rattle.check_core.proofs.Linked.{other_bytes}
use Rattle.resolve.specs.Bundling.{first_with}
use Rattle.resolve.specs.Parts.{digests_of, place_in}

-- a test of two digests is the same in either order
turned : (a b : List ℕ) (t : Bool) → t ≡ bytes_eq a b → bytes_eq b a ≡ t
turned a b true is = test_bytes b a (sym ((bytes_eq-Decides a b).0 (sym is)))
turned a b false is = other_bytes b a (λ e. true≢false (sym (test_bytes a b (sym e)) ∙ sym is))

-- ---- one digest after the other
module _ (wanted : List ℕ) (digests : List (List ℕ)) where
  module _ (k : ℕ) (digest d : List ℕ) (test : Bool) (low : k < length digests) (is : digest ≡ get_or digests k d) (told : test ≡ bytes_eq digest wanted) where
    place_here : place_in wanted k (drop k digests) ≡ cond test (Some k) (place_in wanted (k + 1) (drop (k + 1) digests))
    place_here =
        ap (place_in wanted k) (drop_more digests k d low ∙ ap (λ (x : List ℕ). x ∷ drop (k + 1) digests) (sym is))
        ∙ ap (λ (t : Bool). cond t (Some k) (place_in wanted (k + 1) (drop (k + 1) digests))) (turned digest wanted test told)

    pub place_found : test ≡ true → place_in wanted k (drop k digests) ≡ Some k
    place_found h = place_here ∙ ap (λ (t : Bool). cond t (Some k) (place_in wanted (k + 1) (drop (k + 1) digests))) h

    pub place_passed : test ≡ false → place_in wanted k (drop k digests) ≡ place_in wanted (k + 1) (drop (k + 1) digests)
    place_passed h = place_here ∙ ap (λ (t : Bool). cond t (Some k) (place_in wanted (k + 1) (drop (k + 1) digests))) h

  pub place_over : (k : ℕ) → length digests ≤ k → place_in wanted k (drop k digests) ≡ None
  place_over k all = ap (place_in wanted k) (drop_all k digests all)

-- ---- the place that is found
pub place_low : (wanted : List ℕ) (k : ℕ) (digests : List (List ℕ)) (place : ℕ) → place_in wanted k digests ≡ Some place → place < k + length digests
place_low wanted k [] place h = absurd (cc)
place_low wanted k (digest ∷ digests) place h = go (bytes_eq wanted digest) h (λ g. place_low wanted (k + 1) digests place g)
  where
    go : (b : Bool) → cond b (Some k) (place_in wanted (k + 1) digests) ≡ Some place → (place_in wanted (k + 1) digests ≡ Some place → place < k + 1 + length digests) → place < k + suc (length digests)
    go true g rest = let same : k ≡ place = same_Some k place g in omega (arith, same)
    go false g rest = let low = rest g in omega (arith, low)

-- from one number more on
place_next : (wanted : List ℕ) (k : ℕ) (digests : List (List ℕ)) → place_in wanted (k + 1) digests ≡ option_map (λ place. place + 1) (place_in wanted k digests)
place_next wanted k [] = refl
place_next wanted k (digest ∷ digests) = go (bytes_eq wanted digest) (place_next wanted (k + 1) digests)
  where
    go : (b : Bool) → place_in wanted (k + 1 + 1) digests ≡ option_map (λ place. place + 1) (place_in wanted (k + 1) digests)
        → cond b (Some (k + 1)) (place_in wanted (k + 1 + 1) digests) ≡ option_map (λ place. place + 1) (cond b (Some k) (place_in wanted (k + 1) digests))
    go true next = refl
    go false next = next

-- ---- the first entry that has a digest
module _ (H : List ℕ → List ℕ) (wanted : List ℕ) where
  entry_place : (k : ℕ) (entries : List Entry) → first_with H wanted k entries ≡ place_in wanted k (digests_of H entries)
  entry_place k [] = refl
  entry_place k (entry ∷ entries) =
      ap (λ (o : Option ℕ). cond (bytes_eq wanted (digest_or_none H (chain_of H entry.seals))) (Some k) o) (entry_place (k + 1) entries)

  pub first_is_next : (entries : List Entry) (digests : List (List ℕ)) (place : Option ℕ) → digests ≡ digests_of H entries → place ≡ place_in wanted 0 digests
      → first_with H wanted 1 entries ≡ option_map (λ n. n + 1) place
  first_is_next entries digests place same is =
      entry_place 1 entries ∙ ap (place_in wanted 1) (sym same) ∙ place_next wanted 0 digests ∙ ap (option_map (λ (n : ℕ). n + 1)) (sym is)
