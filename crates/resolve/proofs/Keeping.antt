-- The bundle that is put together keeps the limits of a receipt. H is the digest function.
use Rattle.std.proofs.Common.{◌≡◌, ℕ, suc, ◌+◌, ◌<◌, ◌≤◌, Bool, true, false, cond, List, [], ◌∷◌, ◌++◌, length, map, Some, sym, ap, ◌∙◌, subst, arith, length-append}
use Rattle.std.proofs.lemmas.List.{length-map}
use Rattle.std.specs.List.{All}
use Rattle.std.specs.Str.{bytes_eq}
use Rattle.std.proofs.lemmas.List.Elements.{All-nil, All-cons, All-head, All-tail, All-map, All-weaker}
use Rattle.host_calls.specs.declared.call.AssumeCall.{AssumeCall}
use Rattle.claim_types.specs.Claims.{ok_digest}
use Rattle.receipt_types.specs.Bundles.{Entry, Bundle}
use Rattle.receipt_types.specs.Limits.{AllEntryLimits, KeepsLimits}
use Rattle.std.proofs.lemmas.Option.{same_Some}
use Rattle.lift_join.specs.Joins.{chain_of}
use Rattle.check_core.specs.Entries.{digest_or_none}
use Rattle.resolve.specs.Bundling.{raised_entry, placed_entries, first_with, links_for}
use Rattle.resolve.specs.Laws.{ResolvedKeepsLimits}
use Rattle.resolve.proofs.Links.{has_links}
use Rattle.resolve.proofs.Accepted.{entry_zero, resolved_parts}

-- ---- the links of entry 0 lead to the entries after it
first_within : (H : List ℕ → List ℕ) (digest : List ℕ) (k : ℕ) (entries : List Entry) (l : ℕ) → first_with H digest k entries ≡ Some l → (k ≤ l) × (l < k + length entries)
first_within H digest k [] l h = absurd (cc)
first_within H digest k (entry ∷ entries) l h = go (bytes_eq digest (digest_or_none H (chain_of H entry.seals))) h (λ g. first_within H digest (k + 1) entries l g)
  where
    go : (b : Bool) → cond b (Some k) (first_with H digest (k + 1) entries) ≡ Some l → (first_with H digest (k + 1) entries ≡ Some l → (k + 1 ≤ l) × (l < k + 1 + length entries))
        → (k ≤ l) × (l < k + suc (length entries))
    go true g rest = let same : k ≡ l = same_Some k l g in (omega (arith, same), omega (arith, same))
    go false g rest = let (above, below) = rest g in (omega (arith, above), omega (arith, below))

module _ (H : List ℕ → List ℕ) (entries : List Entry) where
  links_long : (calls : List AssumeCall) (links : List ℕ) → links_for H entries calls ≡ Some links → length links ≡ length calls
  links_long [] links h = ap length (sym (same_Some [] links h))
  links_long (call ∷ calls) links h =
      let l = has_links (first_with H (ok_digest H call) 1 entries) (links_for H entries calls) links h in
      ap length l.is ∙ ap suc (links_long calls l.rest l.is_rest)

  links_within : (n : ℕ) → suc (length entries) ≡ n → (calls : List AssumeCall) (links : List ℕ) → links_for H entries calls ≡ Some links → All (λ link. (0 < link) × (link < n)) links
  links_within n size [] links h = subst (All (λ link. (0 < link) × (link < n))) (same_Some [] links h) (All-nil (λ link. (0 < link) × (link < n)))
  links_within n size (call ∷ calls) links h =
      let l = has_links (first_with H (ok_digest H call) 1 entries) (links_for H entries calls) links h in
      let (above, below) = first_within H (ok_digest H call) 1 entries l.link l.is_link in
      subst (All (λ link. (0 < link) × (link < n))) (sym l.is)
      (All-cons (λ link. (0 < link) × (link < n)) l.link l.rest (omega (arith, above), omega (arith, below, size)) (links_within n size calls l.rest l.is_rest))

-- ---- the others' entries, raised
raised_limits : (e k m n : ℕ) (entries : List Entry) → k + m ≤ n → AllEntryLimits e m entries → AllEntryLimits (k + e) n (map (raised_entry k) entries)
raised_limits e k m n [] room all = tt
raised_limits e k m n (entry ∷ entries) room all =
    let size = length-map entry.links (λ link. k + link) in
    let next : k + (e + 1) ≡ k + e + 1 = omega arith in
    let few = all.0.few_links in (
      record {
        few_links = omega (arith, size, few);
        links =
            All-map (λ link. (k + e < link) × (link < n)) (λ link. k + link) entry.links
            (All-weaker (λ link. (e < link) × (link < m)) (λ link. (k + e < k + link) × (k + link < n))
            (λ link h. let (above, below) = h in (omega (arith, above), omega (arith, below, room))) entry.links all.0.links);
        some_seals = all.0.some_seals;
        few_seals = all.0.few_seals;
        seals = all.0.seals;
      },
      subst (λ (j : ℕ). AllEntryLimits j n (map (raised_entry k) entries)) next (raised_limits (e + 1) k m n entries room all.1),
    )

both_limits : (e n : ℕ) (xs ys : List Entry) → AllEntryLimits e n xs → AllEntryLimits (e + length xs) n ys → AllEntryLimits e n (xs ++ ys)
both_limits e n [] ys h k = let none : e + 0 ≡ e = omega arith in subst (λ (j : ℕ). AllEntryLimits j n ys) none k
both_limits e n (x ∷ xs) ys h k =
    let next : e + suc (length xs) ≡ e + 1 + length xs = omega arith in
    (h.0, both_limits (e + 1) n xs ys h.1 (subst (λ (j : ℕ). AllEntryLimits j n ys) next k))

placed_limits : (k n : ℕ) (others : List Bundle) → k + length (placed_entries k others) ≤ n → All (λ other. KeepsLimits other) others → AllEntryLimits k n (placed_entries k others)
placed_limits k n [] room all = tt
placed_limits k n (other ∷ others) room all =
    let mine = map (raised_entry k) other in
    let rest = placed_entries (k + length other) others in
    let size : length mine ≡ length other = length-map other (raised_entry k) in
    let sizes : length (mine ++ rest) ≡ length mine + length rest = length-append mine rest in
    let here : k + length other ≤ n = omega (arith, size, sizes, room) in
    let later : k + length other + length rest ≤ n = omega (arith, size, sizes, room) in
    let none : k + 0 ≡ k = omega arith in
    let next : k + length other ≡ k + length mine = omega (arith, size) in
    both_limits k n mine rest
    (subst (λ (j : ℕ). AllEntryLimits j n mine) none (raised_limits 0 k (length other) n other here (All-head (λ other. KeepsLimits other) other others all).entries))
    (subst (λ (j : ℕ). AllEntryLimits j n rest) next (placed_limits (k + length other) n others later (All-tail (λ other. KeepsLimits other) other others all)))

-- ---- the whole bundle
pub resolved_keeps : (H : List ℕ → List ℕ) → ResolvedKeepsLimits H
resolved_keeps H proved others B seals some_seals few_seals few_calls limits h =
    let p = resolved_parts H proved others B h.is in
    let whole : Bundle = entry_zero proved p.links ∷ placed_entries 1 others in
    let size : suc (length (placed_entries 1 others)) ≡ length B = ap length p.is in
    let long = links_long H (placed_entries 1 others) proved.claim.calls p.links p.linked in
    let room : 1 + length (placed_entries 1 others) ≤ length B = omega (arith, size) in
    let few = h.few in
    record {
      some_entries = omega (arith, size);
      few_entries = few;
      entries =
          subst (λ (C : Bundle). AllEntryLimits 0 (length B) C) p.is (
            record {
              few_links = omega (arith, long, few_calls);
              links = links_within H (placed_entries 1 others) (length B) size proved.claim.calls p.links p.linked;
              some_seals = some_seals;
              few_seals = few_seals;
              seals = seals;
            },
            placed_limits 1 (length B) others room limits,
          );
    }
