-- Where a bundle is put together, each call is answered. H is the digest function.
use Rattle.std.proofs.Common.{◌≡◌, ℕ, suc, ◌+◌, ◌≤◌, List, [], ◌∷◌, length, Option, Some, None, refl, sym, ap, ◌∙◌, arith}
use Rattle.std.specs.Prelude.{option_map}
use Rattle.std.proofs.lemmas.Option.{same_Some, none-some}
use Rattle.host_calls.specs.declared.call.AssumeCall.{AssumeCall}
use Rattle.claim_types.specs.Claims.{ok_digest}
use Rattle.receipt_types.specs.Bundles.{Entry, Bundle}
use Rattle.lift_join.specs.Chained.{Chained}
use Rattle.resolve.specs.Bundling.{placed_entries, first_with, with_first, links_for, resolved_bundle}
use Rattle.resolve.specs.Resolving.{or_later, first_unanswered, StopsResolve}
use Rattle.resolve.specs.declared.stop.ResolveStop.{ResolveStop}
use Rattle.resolve.specs.declared.stop.ResolveStop.TheVariants.{NoReceiptFor, TooManyEntries, Memory}

-- each call has its link
all_answered : (H : List ℕ → List ℕ) (entries : List Entry) (calls : List AssumeCall) (k : ℕ) (links : List ℕ) → links_for H entries calls ≡ Some links → first_unanswered H entries k calls ≡ None
all_answered H entries [] k links is = refl
all_answered H entries (call ∷ calls) k links is =
    of_both (first_with H (ok_digest H call) 1 entries) (links_for H entries calls) (λ later rest. all_answered H entries calls (k + 1) later rest) is
  where
    of_both : (first : Option ℕ) (rest : Option (List ℕ)) → ((later : List ℕ) → rest ≡ Some later → first_unanswered H entries (k + 1) calls ≡ None) → with_first first rest ≡ Some links
        → or_later first k (first_unanswered H entries (k + 1) calls) ≡ None
    of_both (Some link) (Some later) answered both = answered later refl
    of_both (Some link) None answered both = absurd (none-some links both)
    of_both None rest answered both = absurd (none-some links both)

-- nothing stops what is put together, in at most 256 entries
module _ (H : List ℕ → List ℕ) (proved : Chained) (others : List Bundle) (B : Bundle) (is : resolved_bundle H proved others ≡ Some B) (few : length B ≤ 256) where
  of_links : (o : Option (List ℕ)) → links_for H (placed_entries 1 others) proved.claim.calls ≡ o
      → option_map (λ links. (record { links = links; seals = proved.seals }) ∷ placed_entries 1 others) o ≡ Some B
      → (first_unanswered H (placed_entries 1 others) 0 proved.claim.calls ≡ None) × (length B ≡ suc (length (placed_entries 1 others)))
  of_links (Some links) links_are made = (
    all_answered H (placed_entries 1 others) proved.claim.calls 0 links links_are,
    ap length (sym (same_Some ((record { links = links; seals = proved.seals }) ∷ placed_entries 1 others) B made)),
  )
  of_links None links_are made = absurd (none-some B made)

  pub not_stopped : (stop : ResolveStop) → StopsResolve H proved.claim.calls others stop → (stop ≡ Memory → ⊥) → ⊥
  not_stopped stop stops said = of_stop stop stops said (of_links (links_for H (placed_entries 1 others) proved.claim.calls) refl is)
    where
      of_stop : (s : ResolveStop) → StopsResolve H proved.claim.calls others s → (s ≡ Memory → ⊥) → (first_unanswered H (placed_entries 1 others) 0 proved.claim.calls ≡ None) × (length B ≡ suc (length (placed_entries 1 others))) → ⊥
      of_stop (NoReceiptFor call) found said made = none-some call (sym made.0 ∙ found)
      of_stop (TooManyEntries count) many said made =
          let size : length B ≡ suc (length (placed_entries 1 others)) = made.1 in
          let (none, counted, beyond) = many in
          omega (arith, size, counted, beyond, few)
      of_stop Memory tells said made = said refl
