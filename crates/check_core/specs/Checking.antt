-- What a check answers of bytes and of bundles. H is the digest function.
use Rattle.std.specs.Prelude.{◌≡◌, ⊤, ℕ, List, [], Option, Some, None}
use Rattle.std.specs.List.{AllZip}
use Rattle.claim_types.specs.Claims.{SpanClaim}
use Rattle.receipt_types.specs.Bundles.{Entry, Bundle, item}
use Rattle.receipt_types.specs.Spelling.{Spells}
use Rattle.receipt_codec.specs.Reading.{BeginsVersion}
use Rattle.receipt_codec.specs.declared.stop.ReadStop.{ReadStop}
use Rattle.receipt_codec.specs.declared.stop.ReadStop.TheVariants as Read
use Rattle.seal_replay.specs.declared.stop.ReplayStop.{ReplayStop}
use Rattle.seal_replay.specs.declared.stop.ReplayStop.TheVariants as Replay
use Rattle.lift_join.specs.Joins.{joint_claim, chain_of}
use Rattle.check_core.specs.declared.stop.CheckStop.{CheckStop}
use Rattle.check_core.specs.declared.stop.CheckStop.TheVariants.{Malformed, Version, Broken, Memory}
use Rattle.check_core.specs.Judgement.{Accepts, first_stop}
use Rattle.check_core.specs.Reports.{EntryReport, Report, report_of}
use Rattle.check_core.specs.Entries.{digest_in}

-- ---- the answers to a bundle
-- a refusal of a bundle: this is its first stop, or there was no memory
abbrev pub StopsCheck : (List ℕ → List ℕ) → Bundle → List ℕ → CheckStop → Type 0
StopsCheck H B id Malformed = ⊥
StopsCheck H B id (Version version) = ⊥
StopsCheck H B id Memory = ⊤
StopsCheck H B id stop = first_stop H B id ≡ Some stop

-- ---- the answers to bytes
-- they spell a bundle that is accepted under the id, and this is its report
pub record IsReported (H : List ℕ → List ℕ) (id bytes : List ℕ) (report : Report) : Type 0 where
  pub bundle : Bundle
  pub spelled : Spells bundle bytes
  pub accepted : Accepts H bundle id
  pub is_report : report_of H bundle ≡ Some report

-- they spell no bundle, and don't begin with another version
pub record IsMalformed (bytes : List ℕ) : Type 0 where
  pub none : (B : Bundle) → Spells B bytes → ⊥
  pub no_version : (version : ℕ) → BeginsVersion version bytes → ⊥

-- they spell a bundle that is refused so
pub record IsRefusedBundle (H : List ℕ → List ℕ) (id bytes : List ℕ) (stop : CheckStop) : Type 0 where
  pub bundle : Bundle
  pub spelled : Spells bundle bytes
  pub stops : StopsCheck H bundle id stop

-- a refusal; the causes exclude one another, but for want of memory
abbrev pub Refuses : (List ℕ → List ℕ) → List ℕ → List ℕ → CheckStop → Type 0
Refuses H id bytes Malformed = IsMalformed bytes
Refuses H id bytes (Version version) = BeginsVersion version bytes
Refuses H id bytes Memory = ⊤
Refuses H id bytes stop = IsRefusedBundle H id bytes stop

-- ---- parts of the check
abbrev pub stop_of_bytes : ReadStop → CheckStop
stop_of_bytes Read.Malformed = Malformed
stop_of_bytes (Read.Version version) = Version version
stop_of_bytes Read.Memory = Memory

-- the stop of a seal whose replay stops so
abbrev pub broken_by : ℕ → ℕ → ReplayStop → CheckStop
broken_by e k Replay.Memory = Memory
broken_by e k stop = Broken e k stop

-- these are the claims of the entries' chains, in order
abbrev pub AreClaims : (List ℕ → List ℕ) → List Entry → List SpanClaim → Type 0
AreClaims H entries claims = AllZip (λ entry claim. chain_of H entry.seals ≡ Some claim) entries claims

-- the claim digest of a report, where there is one
abbrev pub reported_digest : Option EntryReport → List ℕ
reported_digest None = []
reported_digest (Some report) = report.claim

-- the reports tell the claim digests of a bundle's entries
abbrev pub TellDigests : (List ℕ → List ℕ) → Bundle → List EntryReport → Type 0
TellDigests H B reports = (e : ℕ) → digest_in H B e ≡ reported_digest (item reports e)

-- a claim after the claim of what is before it, if there is any
abbrev pub join_next : Option SpanClaim → SpanClaim → SpanClaim
join_next None next = next
join_next (Some claim) next = joint_claim claim next
