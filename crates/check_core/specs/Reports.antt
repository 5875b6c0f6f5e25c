-- What a check reports of an accepted bundle. H is the digest function.
use Rattle.std.specs.Prelude.{ℕ, List, [], ◌∷◌, length, Option, Some, None, option_map, option_and_then}
use Rattle.std.specs.Coded.{Coded, code_by, coded×, coded_ℕ, coded_list}
use Rattle.std.proofs.Common.{refl}
use Rattle.claim_types.specs.declared.claim.Exit.{Exit}
use Rattle.claim_types.specs.declared.claim.Exit.TheVariants.{Split, Halted as HaltedWith}
use Rattle.claim_types.specs.States.{state_digest}
use Rattle.claim_types.specs.Claims.{SpanClaim, claim_digest, conditional_digest}
use Rattle.receipt_types.specs.Seals.{steps_of}
use Rattle.receipt_types.specs.Bundles.{Entry, Bundle}
use Rattle.lift_join.specs.Joins.{chain_of}

-- of an entry: the digest of its first state, its exit code, its journal's length and digest, its two claim digests, how many calls, seals and steps it has, and its links
pub record EntryReport : Type 0 where
  pub image : List ℕ
  pub exit : ℕ
  pub journal_bytes : ℕ
  pub journal_digest : List ℕ
  pub conditional : List ℕ
  pub claim : List ℕ
  pub calls : ℕ
  pub seals : ℕ
  pub steps : ℕ
  pub links : List ℕ

-- it is stored as its fields
abbrev pub entry_report_code : Coded EntryReport
entry_report_code =
    code_by (((List ℕ × ℕ) × (ℕ × List ℕ)) × ((List ℕ × List ℕ) × ((ℕ × ℕ) × (ℕ × List ℕ))))
    (coded× (coded× (coded× (coded_list coded_ℕ) coded_ℕ) (coded× coded_ℕ (coded_list coded_ℕ)))
    (coded× (coded× (coded_list coded_ℕ) (coded_list coded_ℕ)) (coded× (coded× coded_ℕ coded_ℕ) (coded× coded_ℕ (coded_list coded_ℕ)))))
    (λ e. (((e.image, e.exit), (e.journal_bytes, e.journal_digest)), ((e.conditional, e.claim), ((e.calls, e.seals), (e.steps, e.links)))))
    (λ p.
    record {
      image = p.0.0.0;
      exit = p.0.0.1;
      journal_bytes = p.0.1.0;
      journal_digest = p.0.1.1;
      conditional = p.1.0.0;
      claim = p.1.0.1;
      calls = p.1.1.0.0;
      seals = p.1.1.0.1;
      steps = p.1.1.1.0;
      links = p.1.1.1.1;
    })
    (λ _. refl)

-- entry 0's journal, and all entries
pub record Report : Type 0 where
  pub journal : List ℕ
  pub entries : List EntryReport

-- it is stored as its fields
abbrev pub report_code : Coded Report
report_code = code_by (List ℕ × List EntryReport) (coded× (coded_list coded_ℕ) (coded_list entry_report_code)) (λ r. (r.journal, r.entries)) (λ p. record { journal = p.0; entries = p.1 }) (λ _. refl)

-- the exit code; a chain that is accepted halts
abbrev pub code_of : Exit → ℕ
code_of Split = 0
code_of (HaltedWith code) = code

abbrev pub entry_report : (List ℕ → List ℕ) → Entry → SpanClaim → EntryReport
entry_report H entry claim = record {
  image = state_digest H claim.before;
  exit = code_of claim.exit;
  journal_bytes = length claim.journal;
  journal_digest = H claim.journal;
  conditional = conditional_digest H claim;
  claim = claim_digest H claim;
  calls = length claim.calls;
  seals = length entry.seals;
  steps = steps_of entry.seals;
  links = entry.links;
}

abbrev pub with_report : Option EntryReport → Option (List EntryReport) → Option (List EntryReport)
with_report (Some report) (Some reports) = Some (report ∷ reports)
with_report (Some report) None = None
with_report None reports = None

-- the entries' reports, where each entry has a claim
abbrev pub entry_reports : (List ℕ → List ℕ) → List Entry → Option (List EntryReport)
entry_reports H [] = Some []
entry_reports H (entry ∷ entries) = with_report (option_map (entry_report H entry) (chain_of H entry.seals)) (entry_reports H entries)

-- the bundle's report, where each entry has a claim
abbrev pub report_of : (List ℕ → List ℕ) → Bundle → Option Report
report_of H [] = None
report_of H (entry ∷ entries) =
    option_and_then (λ claim. option_map (λ reports. record { journal = claim.journal; entries = reports }) (entry_reports H (entry ∷ entries)))
    (chain_of H entry.seals)
