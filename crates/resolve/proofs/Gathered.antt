-- The entries of a bundle while they are put together, one other bundle after the other. H is the digest function.
use Rattle.std.proofs.Common.{◌≡◌, ℕ, suc, ◌+◌, ◌<◌, ◌≤◌, List, ◌∷◌, ◌++◌, length, map, take, get_or, sym, ap, ◌∙◌, subst, arith}
use Rattle.std.specs.List.{All}
use Rattle.std.proofs.lemmas.List.{length-map, take_all}
use Rattle.std.proofs.lemmas.List.Elements.{All-push}
use Rattle.receipt_types.specs.Bundles.{Entry, Bundle}
use Rattle.lift_join.specs.Joins.{chain_of}
use Rattle.check_core.specs.Checked.{Checked}
use Rattle.check_core.specs.Entries.{digest_or_none}
use Rattle.resolve.specs.Bundling.{raised_entry, placed_entries}
use Rattle.resolve.specs.Resolving.{bundles_of}
use Rattle.resolve.specs.Parts.{digests_of}
use Rattle.resolve.proofs.Placed.{placed_of, bundles_more, placed_more, placed_within}

-- there are as many claim digests as entries
pub claims_long : (H : List ℕ → List ℕ) (claims : List (List ℕ)) (entries : List Entry) → claims ≡ digests_of H entries → length claims ≡ length entries
claims_long H claims entries told = ap length told ∙ length-map entries (λ (entry : Entry). digest_or_none H (chain_of H entry.seals))

module _ (others : List Checked) (i : ℕ) (other d : Checked) (low : i < length others) (is : other ≡ get_or others i d) where
  -- the next bundle has its room
  pub room_for_next : (first : Entry) (old : List Entry) (most : ℕ) → old ≡ first ∷ placed_of others i → length (placed_entries 1 (bundles_of others)) + 1 ≤ most → length old + length other.bundle ≤ most
  room_for_next first old most e few =
      let within = placed_within others i other d low is in
      let size = ap length e in
      omega (arith, within, size, few)

  -- and its entries come next
  pub gathered_more : (first : Entry) (old : List Entry) → old ≡ first ∷ placed_of others i → old ++ map (raised_entry (length old)) other.bundle ≡ first ∷ placed_of others (i + 1)
  gathered_more first old e =
      let n : ℕ = length (placed_of others i) in
      let number : suc n ≡ 1 + n = omega arith in
      ap (λ (es : List Entry). es ++ map (raised_entry (length es)) other.bundle) e
      ∙ ap (λ (k : ℕ). first ∷ (placed_of others i ++ map (raised_entry k) other.bundle)) number
      ∙ ap (λ (es : List Entry). first ∷ es) (sym (placed_more others i other d low is))

  -- what holds of each bundle so far holds with the next
  pub all_more : (P : Bundle → Type 0) → All P (bundles_of (take i others)) → P other.bundle → All P (bundles_of (take (i + 1) others))
  all_more P all next = subst (All P) (sym (bundles_more others i other d low is)) (All-push P (bundles_of (take i others)) other.bundle all next)

pub all_of : (P : Bundle → Type 0) (others : List Checked) (i : ℕ) → length others ≤ i → All P (bundles_of (take i others)) → All P (bundles_of others)
all_of P others i all holds = subst (λ (xs : List Checked). All P (bundles_of xs)) (take_all i others all) holds
