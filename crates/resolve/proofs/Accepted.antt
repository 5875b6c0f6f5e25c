-- The bundle that is put together of accepted parts is accepted. H is the digest function.
use Rattle.std.proofs.Common.{◌≡◌, ℕ, zero, suc, ◌+◌, Bool, true, false, cond, List, [], ◌∷◌, ◌++◌, length, map, Option, Some, None, refl, sym, ap, ap₂, ◌∙◌, subst, arith, append_assoc, length-append}
use Rattle.std.proofs.lemmas.List.{length-map}
use Rattle.std.specs.Prelude.{option_map, option_and_then}
use Rattle.std.specs.List.{All}
use Rattle.std.proofs.lemmas.List.Elements.{All-head, All-tail}
use Rattle.std.specs.Str.{bytes_eq}
use Rattle.digest_core.specs.Digests.{IsDigest}
use Rattle.host_calls.specs.declared.call.AssumeCall.{AssumeCall}
use Rattle.claim_types.specs.Claims.{ok_digest, ok_string}
use Rattle.receipt_types.specs.Bundles.{Entry, Bundle, item}
use Rattle.std.proofs.lemmas.Option.{same_Some}
use Rattle.lift_join.specs.Joins.{chain_of}
use Rattle.lift_join.specs.Chained.{Chained}
use Rattle.check_core.specs.Entries.{first_of, digest_or_none, digest_in}
use Rattle.check_core.specs.Checked.{IsAccepted}
use Rattle.check_core.specs.Judgement.{Answered, AllAccepted}
use Rattle.check_core.proofs.Firsts.{first_is}
use Rattle.check_core.proofs.Unstopped.{same_bytes}
use Rattle.resolve.specs.Bundling.{raised_entry, placed_entries, first_with, links_for, resolved_bundle}
use Rattle.resolve.specs.Laws.{ResolvedIsAccepted}
use Rattle.resolve.proofs.Links.{has_links}

-- ---- items of lists
item_left : (xs ys : List Entry) (l : ℕ) (x : Entry) → item xs l ≡ Some x → item (xs ++ ys) l ≡ Some x
item_left [] ys l x h = absurd (cc)
item_left (y ∷ xs) ys zero x h = h
item_left (y ∷ xs) ys (suc l) x h = item_left xs ys l x h

item_right : (xs ys : List Entry) (l : ℕ) → item (xs ++ ys) (length xs + l) ≡ item ys l
item_right [] ys l = let none : 0 + l ≡ l = omega arith in ap (item ys) none
item_right (x ∷ xs) ys l =
    let next : suc (length xs) + l ≡ suc (length xs + l) = omega arith in
    ap (item (x ∷ (xs ++ ys))) next ∙ item_right xs ys l

item_map : (f : Entry → Entry) (xs : List Entry) (l : ℕ) (x : Entry) → item xs l ≡ Some x → item (map f xs) l ≡ Some (f x)
item_map f [] l x h = absurd (cc)
item_map f (y ∷ xs) zero x h = ap Some (ap f (same_Some y x h))
item_map f (y ∷ xs) (suc l) x h = item_map f xs l x h

-- ---- links that are raised lead to the same claims
module _ (H : List ℕ → List ℕ) (is_digest : (x : List ℕ) → IsDigest (H x)) (B : Bundle) where
  digest_at : (C : Bundle) (l : ℕ) (entry : Entry) → item C l ≡ Some entry → digest_in H C l ≡ digest_or_none H (chain_of H entry.seals)
  digest_at C l entry h = ap (λ (o : Option Entry). digest_or_none H (option_and_then (λ (x : Entry). chain_of H x.seals) o)) h

  -- an entry that has a claim digest is there
  has_entry : (o : Option Entry) (digest : List ℕ) → length digest ≡ 32 → digest ≡ digest_or_none H (option_and_then (λ (x : Entry). chain_of H x.seals) o) → (entry : Entry) × (o ≡ Some entry)
  has_entry (Some entry) digest size e = (entry, refl)
  has_entry None digest size e = let none : length digest ≡ 0 = ap length e in absurd (omega (arith, none, size))

  raised_answers : (k : ℕ) (other : Bundle) → ((l : ℕ) (entry : Entry) → item other l ≡ Some entry → item B (k + l) ≡ Some (raised_entry k entry))
      → (calls : List AssumeCall) (links : List ℕ) → Answered H other calls links → Answered H B calls (map (λ l. k + l) links)
  raised_answers k other shift [] [] h = tt
  raised_answers k other shift [] (link ∷ links) h = absurd h
  raised_answers k other shift (call ∷ calls) [] h = absurd h
  raised_answers k other shift (call ∷ calls) (link ∷ links) h =
      let (entry, is_entry) = has_entry (item other link) (ok_digest H call) (is_digest (ok_string H call)).0 h.0 in (
        h.0 ∙ digest_at other link entry is_entry ∙ sym (digest_at B (k + link) (raised_entry k entry) (shift link entry is_entry)),
        raised_answers k other shift calls links h.1,
      )

  raised_accepted : (k : ℕ) (other entries : Bundle) → ((l : ℕ) (entry : Entry) → item other l ≡ Some entry → item B (k + l) ≡ Some (raised_entry k entry))
      → AllAccepted H other entries → AllAccepted H B (map (raised_entry k) entries)
  raised_accepted k other [] shift all = tt
  raised_accepted k other (entry ∷ entries) shift all = (
    record { halts = all.0.halts; answered = raised_answers k other shift all.0.halts.claim.calls entry.links all.0.answered },
    raised_accepted k other entries shift all.1,
  )

  both_accepted : (xs ys : List Entry) → AllAccepted H B xs → AllAccepted H B ys → AllAccepted H B (xs ++ ys)
  both_accepted [] ys h k = k
  both_accepted (x ∷ xs) ys h k = (h.0, both_accepted xs ys h.1 k)

  placed_accepted : (before : List Entry) (k : ℕ) (others : List Bundle) → length before ≡ k → B ≡ before ++ placed_entries k others → All (λ other. IsAccepted H other) others → AllAccepted H B (placed_entries k others)
  placed_accepted before k [] size e all = tt
  placed_accepted before k (other ∷ others) size e all =
      let mine = map (raised_entry k) other in
      let rest = placed_entries (k + length other) others in
      let shift : (l : ℕ) (entry : Entry) → item other l ≡ Some entry → item B (k + l) ≡ Some (raised_entry k entry) =
      λ l entry h.
      ap₂ item e (ap (λ (n : ℕ). n + l) (sym size)) ∙ item_right before (mine ++ rest) l
      ∙ item_left mine rest l (raised_entry k entry) (item_map (raised_entry k) other l entry h) in
      let sizes : length (before ++ mine) ≡ k + length other = length-append before mine ∙ ap₂ ◌+◌ size (length-map other (raised_entry k)) in
      both_accepted mine rest
      (raised_accepted k other other shift (All-head (λ other. IsAccepted H other) other others all).1.entries)
      (placed_accepted (before ++ mine) (k + length other) others sizes (e ∙ sym (append_assoc before mine rest)) (All-tail (λ other. IsAccepted H other) other others all))

-- ---- the links of entry 0
found_at : (H : List ℕ → List ℕ) (digest : List ℕ) (k : ℕ) (entries : List Entry) (l : ℕ) → first_with H digest k entries ≡ Some l → (j : ℕ) × (l ≡ k + j) × (digest ≡ digest_in H entries j)
found_at H digest k [] l h = absurd (cc)
found_at H digest k (entry ∷ entries) l h = go (bytes_eq digest (digest_or_none H (chain_of H entry.seals))) refl h (λ g. found_at H digest (k + 1) entries l g)
  where
    go : (b : Bool) → bytes_eq digest (digest_or_none H (chain_of H entry.seals)) ≡ b → cond b (Some k) (first_with H digest (k + 1) entries) ≡ Some l
        → (first_with H digest (k + 1) entries ≡ Some l → (j : ℕ) × (l ≡ k + 1 + j) × (digest ≡ digest_in H entries j))
        → (j : ℕ) × (l ≡ k + j) × (digest ≡ digest_in H (entry ∷ entries) j)
    go true e g rest = let same : k ≡ l = same_Some k l g in (0, omega (arith, same), same_bytes digest (digest_or_none H (chain_of H entry.seals)) e)
    go false e g rest = let (j, at, is) = rest g in (suc j, omega (arith, at), is)

links_answer : (H : List ℕ → List ℕ) (entry : Entry) (entries : List Entry) (calls : List AssumeCall) (links : List ℕ) → links_for H entries calls ≡ Some links → Answered H (entry ∷ entries) calls links
links_answer H entry entries [] links h = subst (λ (ls : List ℕ). Answered H (entry ∷ entries) [] ls) (same_Some [] links h) tt
links_answer H entry entries (call ∷ calls) links h =
    let l = has_links (first_with H (ok_digest H call) 1 entries) (links_for H entries calls) links h in
    let (j, at, is) = found_at H (ok_digest H call) 1 entries l.link l.is_link in
    let next : l.link ≡ suc j = omega (arith, at) in
    subst (λ (ls : List ℕ). Answered H (entry ∷ entries) (call ∷ calls) ls) (sym l.is)
    (is ∙ ap (digest_in H (entry ∷ entries)) (sym next), links_answer H entry entries calls l.rest l.is_rest)

-- ---- the whole bundle
abbrev pub entry_zero : Chained → List ℕ → Entry
entry_zero proved links = record { links = links; seals = proved.seals }

pub record ResolvedParts (H : List ℕ → List ℕ) (proved : Chained) (others : List Bundle) (B : Bundle) : Type 0 where
  pub links : List ℕ
  pub linked : links_for H (placed_entries 1 others) proved.claim.calls ≡ Some links
  pub is : entry_zero proved links ∷ placed_entries 1 others ≡ B

pub resolved_parts : (H : List ℕ → List ℕ) (proved : Chained) (others : List Bundle) (B : Bundle) → resolved_bundle H proved others ≡ Some B → ResolvedParts H proved others B
resolved_parts H proved others B h = go (links_for H (placed_entries 1 others) proved.claim.calls) refl h
  where
    go : (o : Option (List ℕ)) → links_for H (placed_entries 1 others) proved.claim.calls ≡ o
        → option_map (λ (links : List ℕ). entry_zero proved links ∷ placed_entries 1 others) o ≡ Some B → ResolvedParts H proved others B
    go (Some links) e g = record { links = links; linked = e; is = same_Some _ B g }
    go None e g = absurd (cc)

pub parts_resolved : (H : List ℕ → List ℕ) (proved : Chained) (others : List Bundle) (B : Bundle) (links : List ℕ) → links_for H (placed_entries 1 others) proved.claim.calls ≡ Some links
    → B ≡ entry_zero proved links ∷ placed_entries 1 others → resolved_bundle H proved others ≡ Some B
parts_resolved H proved others B links linked is = ap (option_map (λ (links : List ℕ). entry_zero proved links ∷ placed_entries 1 others)) linked ∙ ap Some (sym is)

pub resolved_accepted : (H : List ℕ → List ℕ) → ((x : List ℕ) → IsDigest (H x)) → ResolvedIsAccepted H
resolved_accepted H is_digest proved others B code chain exit accepted h =
    let p = resolved_parts H proved others B h in
    record {
      first = proved.claim.before;
      is_first = subst (λ (C : Bundle). option_and_then (λ (x : Entry). first_of H x.seals) (item C 0) ≡ Some proved.claim.before) p.is (first_is H proved.seals proved.claim chain);
      same_id = refl;
      entries =
          subst (λ (C : Bundle). AllAccepted H C C) p.is (
            record { halts = record { claim = proved.claim; code = code; chain = chain; exit = exit }; answered = links_answer H (entry_zero proved p.links) (placed_entries 1 others) proved.claim.calls p.links p.linked },
            placed_accepted H is_digest (entry_zero proved p.links ∷ placed_entries 1 others) (entry_zero proved p.links ∷ []) 1 others refl refl accepted,
          );
    }
