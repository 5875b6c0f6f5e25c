-- The report of a bundle that is put together. H is the digest function.
use Rattle.std.proofs.Common.{◌≡◌, ℕ, suc, ◌+◌, ◌<◌, ◌≤◌, List, [], ◌∷◌, ◌++◌, length, map, get_or, Option, Some, sym, ap, ◌∙◌, arith}
use Rattle.std.specs.Prelude.{option_map, option_and_then}
use Rattle.std.proofs.lemmas.Option.{same_Some}
use Rattle.claim_types.specs.Claims.{SpanClaim}
use Rattle.receipt_types.specs.Bundles.{Entry, Bundle, item}
use Rattle.lift_join.specs.Joins.{chain_of}
use Rattle.lift_join.specs.Chained.{Chained}
use Rattle.check_core.specs.Checked.{Checked}
use Rattle.check_core.specs.Reports.{EntryReport, entry_report, with_report, entry_reports, report_of}
use Rattle.check_core.proofs.Claims.{reports_long}
use Rattle.resolve.specs.Bundling.{placed_entries}
use Rattle.resolve.specs.Resolving.{bundles_of, IsResolved}
use Rattle.resolve.specs.Parts.{raised_report}
use Rattle.resolve.proofs.Placed.{placed_of, placed_within, placed_all, reports_more}
use Rattle.resolve.proofs.Accepted.{entry_zero, resolved_parts}

-- these are the reports of the bundle's first entry and of the entries of the first i of others
abbrev pub ReportsSoFar : (List ℕ → List ℕ) → Bundle → List Checked → ℕ → List EntryReport → Type 0
ReportsSoFar H B others i reports = (first : Entry) → item B 0 ≡ Some first → entry_reports H (first ∷ placed_of others i) ≡ Some reports

module _ (H : List ℕ → List ℕ) (proved : Chained) (others : List Checked) (B : Bundle) (is : IsResolved H proved (bundles_of others) B) where
  pub first_seals : (first : Entry) → item B 0 ≡ Some first → first.seals ≡ proved.seals
  first_seals first at =
      let p = resolved_parts H proved (bundles_of others) B is.is in
      let same : entry_zero proved p.links ≡ first = same_Some (entry_zero proved p.links) first (ap (λ (C : Bundle). item C 0) p.is ∙ at) in
      sym (ap (λ (x : Entry). x.seals) same)

  -- the report of entry 0 alone
  pub one_reported : (report : EntryReport) (first : Entry) → item B 0 ≡ Some first → chain_of H proved.seals ≡ Some proved.claim → report ≡ entry_report H first proved.claim
      → ReportsSoFar H B others 0 (report ∷ [])
  one_reported report first at chain made other other_at =
      let same : first ≡ other = same_Some first other (sym at ∙ other_at) in
      ap (λ (x : Entry). entry_reports H (x ∷ [])) (sym same)
      ∙ ap (λ (o : Option SpanClaim). with_report (option_map (entry_report H first) o) (Some [])) (ap (chain_of H) (first_seals first at) ∙ chain)
      ∙ ap (λ (r : EntryReport). Some (r ∷ [])) (sym made)

  module _ (i : ℕ) (reports : List EntryReport) (so_far : ReportsSoFar H B others i reports) where
    -- as many as entries so far
    so_far_long : length reports ≡ suc (length (placed_of others i))
    so_far_long =
        let p = resolved_parts H proved (bundles_of others) B is.is in
        let zero_entry : Entry = entry_zero proved p.links in
        reports_long H (zero_entry ∷ placed_of others i) reports (so_far zero_entry (ap (λ (C : Bundle). item C 0) (sym p.is)))

    module _ (other d : Checked) (low : i < length others) (here : other ≡ get_or others i d) where
      pub few_so_far : length reports ≤ 256
      few_so_far =
          let p = resolved_parts H proved (bundles_of others) B is.is in
          let within = placed_within others i other d low here in
          let size : suc (length (placed_entries 1 (bundles_of others))) ≡ length B = ap length p.is in
          let long = so_far_long in
          let few = is.few in
          omega (arith, within, size, long, few)

      pub next_reported : report_of H other.bundle ≡ Some other.report → (new more : List EntryReport) → more ≡ other.report.entries → new ≡ reports ++ map (raised_report (length reports)) more
          → ReportsSoFar H B others (i + 1) new
      next_reported told new more same added first at =
          reports_more H others i other d low here told first reports (length reports) so_far_long (so_far first at)
          ∙ ap (λ (rs : List EntryReport). Some (reports ++ map (raised_report (length reports)) rs)) (sym same)
          ∙ ap Some (sym added)

    -- the whole report
    pub all_reported : (journal : List ℕ) → length others ≤ i → chain_of H proved.seals ≡ Some proved.claim → journal ≡ proved.claim.journal
        → report_of H B ≡ Some (record { journal = journal; entries = reports })
    all_reported journal all chain same =
        let p = resolved_parts H proved (bundles_of others) B is.is in
        let zero_entry : Entry = entry_zero proved p.links in
        let told : entry_reports H (zero_entry ∷ placed_entries 1 (bundles_of others)) ≡ Some reports =
        ap (λ (es : List Entry). entry_reports H (zero_entry ∷ es)) (sym (placed_all others i all)) ∙ so_far zero_entry (ap (λ (C : Bundle). item C 0) (sym p.is)) in
        ap (report_of H) (sym p.is)
        ∙ ap (option_and_then (λ (c : SpanClaim). option_map (λ (rs : List EntryReport). record { journal = c.journal; entries = rs }) (entry_reports H (zero_entry ∷ placed_entries 1 (bundles_of others))))) chain
        ∙ ap (option_map (λ (rs : List EntryReport). record { journal = proved.claim.journal; entries = rs })) told
        ∙ ap (λ (j : List ℕ). Some (record { journal = j; entries = reports })) (sym same)
