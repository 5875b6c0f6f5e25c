-- The entries of bundles, one after the other, and what is told of them. H is the digest function.
use Rattle.std.proofs.Common.{◌≡◌, ℕ, suc, ◌+◌, ◌<◌, ◌≤◌, List, [], ◌∷◌, ◌++◌, length, map, take, drop, get_or, Option, Some, None, refl, sym, ap, ap₂, ◌∙◌, subst, arith, append_assoc, length-append}
use Rattle.std.specs.Prelude.{option_map, option_and_then}
use Rattle.std.specs.List.{All}
use Rattle.std.proofs.lemmas.List.{take_all, take-append-drop, map_more, map-append, length-map, append-nil}
use Rattle.std.proofs.lemmas.List.Elements.{All-nil, All-cons, All-weaker}
use Rattle.std.proofs.lemmas.Option.{same_Some}
use Rattle.claim_types.specs.Claims.{SpanClaim}
use Rattle.receipt_types.specs.Bundles.{Entry, Bundle}
use Rattle.receipt_types.specs.Limits.{AllEntryLimits}
use Rattle.lift_join.specs.Joins.{chain_of}
use Rattle.check_core.specs.Checked.{Checked}
use Rattle.check_core.specs.Entries.{digest_or_none}
use Rattle.check_core.specs.Reports.{EntryReport, Report, entry_report, with_report, entry_reports, report_of}
use Rattle.resolve.specs.Bundling.{raised_entry, placed_entries}
use Rattle.resolve.specs.Resolving.{bundles_of}
use Rattle.resolve.specs.Parts.{digests_of, raised_report}

-- ---- the places of bundles
placed_append : (k : ℕ) (xs ys : List Bundle) → placed_entries k (xs ++ ys) ≡ placed_entries k xs ++ placed_entries (k + length (placed_entries k xs)) ys
placed_append k [] ys = let none : k ≡ k + 0 = omega arith in ap (λ (n : ℕ). placed_entries n ys) none
placed_append k (B ∷ xs) ys =
    let mine : List Entry = map (raised_entry k) B in
    let rest : List Entry = placed_entries (k + length B) xs in
    let sizes : length (mine ++ rest) ≡ length B + length rest = length-append mine rest ∙ ap (λ (n : ℕ). n + length rest) (length-map B (raised_entry k)) in
    let number : k + length B + length rest ≡ k + length (mine ++ rest) = omega (arith, sizes) in
    ap (λ (es : List Entry). mine ++ es) (placed_append (k + length B) xs ys ∙ ap (λ (n : ℕ). rest ++ placed_entries n ys) number)
    ∙ sym (append_assoc mine rest (placed_entries (k + length (mine ++ rest)) ys))

placed_last : (k : ℕ) (xs : List Bundle) (B : Bundle) → placed_entries k (xs ++ B ∷ []) ≡ placed_entries k xs ++ map (raised_entry (k + length (placed_entries k xs))) B
placed_last k xs B =
    placed_append k xs (B ∷ [])
    ∙ ap (λ (es : List Entry). placed_entries k xs ++ es) (append-nil (map (raised_entry (k + length (placed_entries k xs))) B))

-- the entries of the first i of others
abbrev pub placed_of : List Checked → ℕ → List Entry
placed_of others i = placed_entries 1 (bundles_of (take i others))

module _ (others : List Checked) (i : ℕ) (other d : Checked) (low : i < length others) (is : other ≡ get_or others i d) where
  pub bundles_more : bundles_of (take (i + 1) others) ≡ bundles_of (take i others) ++ other.bundle ∷ []
  bundles_more =
      map_more (λ (x : Checked). x.bundle) others i d low
      ∙ ap (λ (x : Checked). bundles_of (take i others) ++ x.bundle ∷ []) (sym is)

  pub placed_more : placed_of others (i + 1) ≡ placed_of others i ++ map (raised_entry (1 + length (placed_of others i))) other.bundle
  placed_more = ap (placed_entries 1) bundles_more ∙ placed_last 1 (bundles_of (take i others)) other.bundle

  -- there is room for one more
  pub placed_within : length (placed_of others i) + length other.bundle ≤ length (placed_entries 1 (bundles_of others))
  placed_within =
      let front = bundles_of (take (i + 1) others) in
      let back = bundles_of (drop (i + 1) others) in
      let whole : bundles_of others ≡ front ++ back =
      ap bundles_of (sym (take-append-drop (i + 1) others)) ∙ map-append (λ (x : Checked). x.bundle) (take (i + 1) others) (drop (i + 1) others) in
      let sizes : length (placed_entries 1 (bundles_of others)) ≡ length (placed_entries 1 front) + length (placed_entries (1 + length (placed_entries 1 front)) back) =
      ap length (ap (placed_entries 1) whole ∙ placed_append 1 front back) ∙ length-append (placed_entries 1 front) (placed_entries (1 + length (placed_entries 1 front)) back) in
      let more : length (placed_entries 1 front) ≡ length (placed_of others i) + length other.bundle =
      ap length placed_more
      ∙ length-append (placed_of others i) (map (raised_entry (1 + length (placed_of others i))) other.bundle)
      ∙ ap (λ (n : ℕ). length (placed_of others i) + n) (length-map other.bundle (raised_entry (1 + length (placed_of others i)))) in
      omega (arith, sizes, more)

pub placed_all : (others : List Checked) (i : ℕ) → length others ≤ i → placed_of others i ≡ placed_entries 1 (bundles_of others)
placed_all others i all = ap (λ (xs : List Checked). placed_entries 1 (bundles_of xs)) (take_all i others all)

-- ---- what is told of raised entries
module _ (H : List ℕ → List ℕ) where
  record HasReports (o : Option EntryReport) (p : Option (List EntryReport)) (all : List EntryReport) : Type 0 where
    first : EntryReport
    rest : List EntryReport
    is_first : o ≡ Some first
    is_rest : p ≡ Some rest
    is : all ≡ first ∷ rest

  has_reports : (o : Option EntryReport) (p : Option (List EntryReport)) (all : List EntryReport) → with_report o p ≡ Some all → HasReports o p all
  has_reports (Some first) (Some rest) all h = record { first = first; rest = rest; is_first = refl; is_rest = refl; is = sym (same_Some (first ∷ rest) all h) }
  has_reports (Some first) None all h = absurd (cc)
  has_reports None p all h = absurd (cc)

  -- the report of an entry with a claim
  record HasClaim (entry : Entry) (o : Option SpanClaim) (report : EntryReport) : Type 0 where
    claim : SpanClaim
    is_claim : o ≡ Some claim
    is : report ≡ entry_report H entry claim

  has_claim : (entry : Entry) (o : Option SpanClaim) (report : EntryReport) → option_map (entry_report H entry) o ≡ Some report → HasClaim entry o report
  has_claim entry (Some claim) report h = record { claim = claim; is_claim = refl; is = sym (same_Some (entry_report H entry claim) report h) }
  has_claim entry None report h = absurd (cc)

  -- raising links keeps claim digests
  digests_raised : (k : ℕ) (entries : List Entry) → digests_of H (map (raised_entry k) entries) ≡ digests_of H entries
  digests_raised k [] = refl
  digests_raised k (entry ∷ entries) = ap (λ (ds : List (List ℕ)). digest_or_none H (chain_of H entry.seals) ∷ ds) (digests_raised k entries)

  -- reports tell the claim digests
  reported_digests : (entries : List Entry) (reports : List EntryReport) → entry_reports H entries ≡ Some reports → map (λ report. report.claim) reports ≡ digests_of H entries
  reported_digests [] reports told = ap (map (λ (r : EntryReport). r.claim)) (sym (same_Some [] reports told))
  reported_digests (entry ∷ entries) reports told =
      let parts = has_reports (option_map (entry_report H entry) (chain_of H entry.seals)) (entry_reports H entries) reports told in
      let one = has_claim entry (chain_of H entry.seals) parts.first parts.is_first in
      ap (map (λ (r : EntryReport). r.claim)) parts.is
      ∙ ap₂ (λ (d : List ℕ) (ds : List (List ℕ)). d ∷ ds) (ap (λ (r : EntryReport). r.claim) one.is ∙ ap (digest_or_none H) (sym one.is_claim)) (reported_digests entries parts.rest parts.is_rest)

  -- raised entries have raised reports
  reports_raised : (k : ℕ) (entries : List Entry) (reports : List EntryReport) → entry_reports H entries ≡ Some reports → entry_reports H (map (raised_entry k) entries) ≡ Some (map (raised_report k) reports)
  reports_raised k [] reports told = ap (λ (rs : List EntryReport). Some (map (raised_report k) rs)) (same_Some [] reports told)
  reports_raised k (entry ∷ entries) reports told =
      let parts = has_reports (option_map (entry_report H entry) (chain_of H entry.seals)) (entry_reports H entries) reports told in
      let one = has_claim entry (chain_of H entry.seals) parts.first parts.is_first in
      let here : option_map (entry_report H (raised_entry k entry)) (chain_of H entry.seals) ≡ Some (raised_report k parts.first) =
      ap (option_map (entry_report H (raised_entry k entry))) one.is_claim ∙ ap (λ (r : EntryReport). Some (raised_report k r)) (sym one.is) in
      ap₂ with_report here (reports_raised k entries parts.rest parts.is_rest)
      ∙ ap (λ (rs : List EntryReport). Some (map (raised_report k) rs)) (sym parts.is)

  reports_append : (xs ys : List Entry) (rs ss : List EntryReport) → entry_reports H xs ≡ Some rs → entry_reports H ys ≡ Some ss → entry_reports H (xs ++ ys) ≡ Some (rs ++ ss)
  reports_append [] ys rs ss told more = more ∙ ap (λ (r : List EntryReport). Some (r ++ ss)) (same_Some [] rs told)
  reports_append (x ∷ xs) ys rs ss told more =
      let parts = has_reports (option_map (entry_report H x) (chain_of H x.seals)) (entry_reports H xs) rs told in
      ap₂ with_report parts.is_first (reports_append xs ys parts.rest ss parts.is_rest more)
      ∙ ap (λ (r : List EntryReport). Some (r ++ ss)) (sym parts.is)

  -- the reports of a bundle's report
  pub told_reports : (B : Bundle) (report : Report) → report_of H B ≡ Some report → entry_reports H B ≡ Some report.entries
  told_reports [] report told = absurd (cc)
  told_reports (entry ∷ entries) report told = go (chain_of H entry.seals) (entry_reports H (entry ∷ entries)) told
    where
      go : (o : Option SpanClaim) (p : Option (List EntryReport))
          → option_and_then (λ (claim : SpanClaim). option_map (λ (reports : List EntryReport). record { journal = claim.journal; entries = reports }) p) o ≡ Some report → p ≡ Some report.entries
      go (Some claim) (Some reports) h = ap (λ (r : Report). Some r.entries) (same_Some _ report h)
      go (Some claim) None h = absurd (cc)
      go None p h = absurd (cc)

  -- their links are below the number of the bundle's entries
  pub links_below : (e n : ℕ) (entries : List Entry) (reports : List EntryReport) → AllEntryLimits e n entries → entry_reports H entries ≡ Some reports
      → All (λ report. All (λ link. link < n) report.links) reports
  links_below e n [] reports limits told =
      subst (All (λ (report : EntryReport). All (λ link. link < n) report.links)) (same_Some [] reports told) (All-nil (λ (report : EntryReport). All (λ link. link < n) report.links))
  links_below e n (entry ∷ entries) reports limits told =
      let parts = has_reports (option_map (entry_report H entry) (chain_of H entry.seals)) (entry_reports H entries) reports told in
      let one = has_claim entry (chain_of H entry.seals) parts.first parts.is_first in
      let mine : All (λ link. link < n) entry.links = All-weaker (λ link. (e < link) × (link < n)) (λ link. link < n) (λ link h. h.1) entry.links limits.0.links in
      subst (All (λ (report : EntryReport). All (λ link. link < n) report.links)) (sym parts.is)
      (All-cons (λ (report : EntryReport). All (λ link. link < n) report.links) parts.first parts.rest
      (subst (λ (report : EntryReport). All (λ link. link < n) report.links) (sym one.is) mine)
      (links_below (e + 1) n entries parts.rest limits.1 parts.is_rest))

  -- ---- with one bundle more
  module _ (others : List Checked) (i : ℕ) (other d : Checked) (low : i < length others) (is : other ≡ get_or others i d) (told : report_of H other.bundle ≡ Some other.report) where
    claims_more : digests_of H (placed_of others (i + 1)) ≡ digests_of H (placed_of others i) ++ map (λ report. report.claim) other.report.entries
    claims_more =
        ap (digests_of H) (placed_more others i other d low is)
        ∙ map-append (λ (entry : Entry). digest_or_none H (chain_of H entry.seals)) (placed_of others i) (map (raised_entry (1 + length (placed_of others i))) other.bundle)
        ∙ ap (λ (ds : List (List ℕ)). digests_of H (placed_of others i) ++ ds)
        (digests_raised (1 + length (placed_of others i)) other.bundle ∙ sym (reported_digests other.bundle other.report.entries (told_reports other.bundle other.report told)))

    pub claims_next : (old new : List (List ℕ)) (reports : List EntryReport) → old ≡ digests_of H (placed_of others i) → reports ≡ other.report.entries → new ≡ old ++ map (λ report. report.claim) reports
        → new ≡ digests_of H (placed_of others (i + 1))
    claims_next old new reports so_far same added =
        added
        ∙ ap₂ (λ (ds : List (List ℕ)) (rs : List EntryReport). ds ++ map (λ report. report.claim) rs) so_far same
        ∙ sym claims_more

    pub reports_more : (first : Entry) (reports : List EntryReport) (k : ℕ) → k ≡ suc (length (placed_of others i)) → entry_reports H (first ∷ placed_of others i) ≡ Some reports
        → entry_reports H (first ∷ placed_of others (i + 1)) ≡ Some (reports ++ map (raised_report k) other.report.entries)
    reports_more first reports k number so_far =
        let n : ℕ = 1 + length (placed_of others i) in
        let same : n ≡ k = omega (arith, number) in
        ap (λ (es : List Entry). entry_reports H (first ∷ es)) (placed_more others i other d low is)
        ∙ reports_append (first ∷ placed_of others i) (map (raised_entry n) other.bundle) reports (map (raised_report n) other.report.entries) so_far
        (reports_raised n other.bundle other.report.entries (told_reports other.bundle other.report told))
        ∙ ap (λ (m : ℕ). Some (reports ++ map (raised_report m) other.report.entries)) same
