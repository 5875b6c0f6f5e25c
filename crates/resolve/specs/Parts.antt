-- The parts of a bundle that is put together. H is the digest function.
use Rattle.std.specs.Prelude.{⊤, ◌≡◌, ℕ, ◌+◌, cond, List, [], ◌∷◌, map, Option, Some, None}
use Rattle.std.specs.Str.{bytes_eq}
use Rattle.host_calls.specs.declared.call.AssumeCall.{AssumeCall}
use Rattle.receipt_types.specs.Bundles.{Entry}
use Rattle.lift_join.specs.Joins.{chain_of}
use Rattle.check_core.specs.Entries.{digest_or_none}
use Rattle.check_core.specs.Reports.{EntryReport}
use Rattle.resolve.specs.Resolving.{first_unanswered}
use Rattle.resolve.specs.declared.stop.ResolveStop.{ResolveStop}
use Rattle.resolve.specs.declared.stop.ResolveStop.TheVariants.{NoReceiptFor, TooManyEntries, Memory}

-- the claim digests of entries, in order
abbrev pub digests_of : (List ℕ → List ℕ) → List Entry → List (List ℕ)
digests_of H entries = map (λ entry. digest_or_none H (chain_of H entry.seals)) entries

-- the number of the first of these digests that is the wanted one, the first of them all with number k
abbrev pub place_in : List ℕ → ℕ → List (List ℕ) → Option ℕ
place_in wanted k [] = None
place_in wanted k (digest ∷ digests) = cond (bytes_eq wanted digest) (Some k) (place_in wanted (k + 1) digests)

-- what stops the search for links: the first call that no entry answers, or there was no memory
abbrev pub Misses : (List ℕ → List ℕ) → List Entry → List AssumeCall → ResolveStop → Type 0
Misses H entries calls (NoReceiptFor call) = first_unanswered H entries 0 calls ≡ Some call
Misses H entries calls (TooManyEntries count) = ⊥
Misses H entries calls Memory = ⊤

-- the report of an entry whose links are raised by k
abbrev pub raised_report : ℕ → EntryReport → EntryReport
raised_report k report = record {
  image = report.image;
  exit = report.exit;
  journal_bytes = report.journal_bytes;
  journal_digest = report.journal_digest;
  conditional = report.conditional;
  claim = report.claim;
  calls = report.calls;
  seals = report.seals;
  steps = report.steps;
  links = map (λ link. k + link) report.links;
}
