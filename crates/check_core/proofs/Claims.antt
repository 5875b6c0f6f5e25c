-- The claims and the reports of a bundle's entries, one after the other. H is the digest function.
use Rattle.std.proofs.Common.{◌≡◌, ℕ, zero, suc, ◌+◌, ◌<◌, ◌≤◌, List, [], ◌∷◌, ◌++◌, length, take, drop, get_or, Option, Some, None, refl, sym, ap, ap₂, ◌∙◌, subst, arith}
use Rattle.std.specs.Prelude.{option_map, option_and_then}
use Rattle.std.specs.Option.{option_or}
use Rattle.std.proofs.lemmas.List.{take_more, take_all, drop_more, drop_all}
use Rattle.std.proofs.lemmas.Slice.Zip.{all_zipped_more}
use Rattle.std.proofs.lemmas.Option.{same_Some}
use Rattle.claim_types.specs.Claims.{SpanClaim}
use Rattle.receipt_types.specs.Bundles.{Entry, Bundle, item}
use Rattle.lift_join.specs.Joins.{chain_of}
use Rattle.check_core.specs.declared.stop.CheckStop.{CheckStop}
use Rattle.check_core.specs.Entries.{digest_or_none, digest_in}
use Rattle.check_core.specs.Judgement.{seals_stop, entries_stop}
use Rattle.check_core.specs.Reports.{EntryReport, entry_report, with_report, entry_reports, report_of}
use Rattle.check_core.specs.Checking.{AreClaims, reported_digest, TellDigests}

module _ (H : List ℕ → List ℕ) where
  abbrev IsClaim : Entry → SpanClaim → Type 0
  IsClaim entry claim = chain_of H entry.seals ≡ Some claim

  -- the first k entries have these claims, and the first stop is one of the entries from entry k on
  pub record HasClaims (entries : List Entry) (k : ℕ) (claims : List SpanClaim) : Type 0 where
    pub stops : entries_stop H 0 entries ≡ entries_stop H k (drop k entries)
    pub claims_are : AreClaims H (take k entries) claims

  pub none_claimed : (entries : List Entry) → HasClaims entries 0 []
  none_claimed entries = record { stops = refl; claims_are = tt }

  module _ (entries : List Entry) (k : ℕ) (claims : List SpanClaim) (so_far : HasClaims entries k claims) where
    module _ (entry d : Entry) (low : k < length entries) (is : entry ≡ get_or entries k d) where
      stops_here : entries_stop H 0 entries ≡ option_or (seals_stop H k 0 None entry.seals) (entries_stop H (k + 1) (drop (k + 1) entries))
      stops_here = so_far.stops ∙ ap (entries_stop H k) (drop_more entries k d low) ∙ ap (λ (x : Entry). entries_stop H k (x ∷ drop (k + 1) entries)) (sym is)

      -- entry k stops
      pub entry_stopped : (stop : CheckStop) → seals_stop H k 0 None entry.seals ≡ Some stop → entries_stop H 0 entries ≡ Some stop
      entry_stopped stop h = stops_here ∙ ap (λ (o : Option CheckStop). option_or o (entries_stop H (k + 1) (drop (k + 1) entries))) h

      -- it doesn't
      pub entry_claimed : (claim : SpanClaim) → seals_stop H k 0 None entry.seals ≡ None → chain_of H entry.seals ≡ Some claim → HasClaims entries (k + 1) (claims ++ claim ∷ [])
      entry_claimed claim none chain = record {
        stops = stops_here ∙ ap (λ (o : Option CheckStop). option_or o (entries_stop H (k + 1) (drop (k + 1) entries))) none;
        claims_are =
            subst (λ (xs : List Entry). AreClaims H xs (claims ++ claim ∷ [])) (sym (take_more entries k d low ∙ ap (λ (x : Entry). take k entries ++ x ∷ []) (sym is)))
            (all_zipped_more IsClaim (take k entries) claims entry claim so_far.claims_are chain);
      }

    module _ (all : length entries ≤ k) where
      pub entries_unstopped : entries_stop H 0 entries ≡ None
      entries_unstopped = so_far.stops ∙ ap (entries_stop H k) (drop_all k entries all)

      pub entries_claimed : AreClaims H entries claims
      entries_claimed = subst (λ (xs : List Entry). AreClaims H xs claims) (take_all k entries all) so_far.claims_are

  -- ---- each entry's claim
  pub claim_at : (entries : List Entry) (claims : List SpanClaim) (k : ℕ) (d : Entry) (c : SpanClaim) → AreClaims H entries claims → k < length entries → chain_of H (get_or entries k d).seals ≡ Some (get_or claims k c)
  claim_at [] claims k d c all low = absurd (omega arith)
  claim_at (entry ∷ entries) [] k d c all low = absurd all
  claim_at (entry ∷ entries) (claim ∷ claims) zero d c all low = all.0
  claim_at (entry ∷ entries) (claim ∷ claims) (suc k) d c all low = claim_at entries claims k d c all.1 (omega arith)

  -- ---- the reports
  reports_parts : (o : Option EntryReport) (p : Option (List EntryReport)) (all : List EntryReport) → with_report o p ≡ Some all
      → (first : EntryReport) × (rest : List EntryReport) × (o ≡ Some first) × (p ≡ Some rest) × (all ≡ first ∷ rest)
  reports_parts (Some first) (Some rest) all h = (first, rest, refl, refl, sym (same_Some (first ∷ rest) all h))
  reports_parts (Some first) None all h = absurd (cc)
  reports_parts None p all h = absurd (cc)

  -- with those of one entry more
  pub one_more_reported : (entries : List Entry) (reports : List EntryReport) (entry : Entry) (claim : SpanClaim) → entry_reports H entries ≡ Some reports → chain_of H entry.seals ≡ Some claim
      → entry_reports H (entries ++ entry ∷ []) ≡ Some (reports ++ entry_report H entry claim ∷ [])
  one_more_reported [] reports entry claim told chain =
      ap (λ (o : Option SpanClaim). with_report (option_map (entry_report H entry) o) (Some [])) chain
      ∙ ap (λ (rs : List EntryReport). Some (rs ++ entry_report H entry claim ∷ [])) (same_Some [] reports told)
  one_more_reported (x ∷ entries) reports entry claim told chain =
      let (first, rest, is_first, is_rest, whole) = reports_parts (option_map (entry_report H x) (chain_of H x.seals)) (entry_reports H entries) reports told in
      ap₂ with_report is_first (one_more_reported entries rest entry claim is_rest chain)
      ∙ ap (λ (rs : List EntryReport). Some (rs ++ entry_report H entry claim ∷ [])) (sym whole)

  -- they tell the entries' claim digests
  pub reports_tell : (B : Bundle) (reports : List EntryReport) → entry_reports H B ≡ Some reports → TellDigests H B reports
  reports_tell [] reports told e = ap (λ (rs : List EntryReport). reported_digest (item rs e)) (same_Some [] reports told)
  reports_tell (x ∷ entries) reports told e =
      let (first, rest, is_first, is_rest, whole) = reports_parts (option_map (entry_report H x) (chain_of H x.seals)) (entry_reports H entries) reports told in
      at first rest is_first (reports_tell entries rest is_rest) e ∙ ap (λ (rs : List EntryReport). reported_digest (item rs e)) (sym whole)
    where
      digest_is : (o : Option SpanClaim) (first : EntryReport) → option_map (entry_report H x) o ≡ Some first → digest_or_none H o ≡ first.claim
      digest_is (Some claim) first h = ap (λ (r : EntryReport). r.claim) (same_Some (entry_report H x claim) first h)
      digest_is None first h = absurd (cc)

      at : (first : EntryReport) (rest : List EntryReport) → option_map (entry_report H x) (chain_of H x.seals) ≡ Some first → TellDigests H entries rest
          → (e : ℕ) → digest_in H (x ∷ entries) e ≡ reported_digest (item (first ∷ rest) e)
      at first rest is_first tell zero = digest_is (chain_of H x.seals) first is_first
      at first rest is_first tell (suc e) = tell e

  -- as many as entries
  pub reports_long : (B : Bundle) (reports : List EntryReport) → entry_reports H B ≡ Some reports → length reports ≡ length B
  reports_long [] reports told = ap length (sym (same_Some [] reports told))
  reports_long (x ∷ entries) reports told =
      let (first, rest, is_first, is_rest, whole) = reports_parts (option_map (entry_report H x) (chain_of H x.seals)) (entry_reports H entries) reports told in
      ap length whole ∙ ap suc (reports_long entries rest is_rest)

  -- with the journal of the first claim they are the report of the bundle
  pub bundle_reported : (B : Bundle) (claims : List SpanClaim) (reports : List EntryReport) (claim : SpanClaim) → 0 < length B → AreClaims H B claims → entry_reports H B ≡ Some reports
      → claim ≡ get_or claims 0 claim → report_of H B ≡ Some (record { journal = claim.journal; entries = reports })
  bundle_reported [] claims reports claim some all told is = absurd (omega (arith, some))
  bundle_reported (entry ∷ entries) [] reports claim some all told is = absurd all
  bundle_reported (entry ∷ entries) (first ∷ claims) reports claim some all told is =
      ap (option_and_then (λ (c : SpanClaim). option_map (λ (rs : List EntryReport). record { journal = c.journal; entries = rs }) (entry_reports H (entry ∷ entries)))) all.0
      ∙ ap (option_map (λ (rs : List EntryReport). record { journal = first.journal; entries = rs })) told
      ∙ ap (λ (c : SpanClaim). Some (record { journal = c.journal; entries = reports })) (sym is)
