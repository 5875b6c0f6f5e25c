-- What a session proves, and what stops it. H is the digest function.
use Rattle.std.specs.Prelude.{◌≡◌, ⊤, ℕ, ◌<◌, ◌≤◌, List, [], length, Option, Some, None}
use Rattle.receipt_types.specs.Seals.{Seal}
use Rattle.receipt_types.specs.Limits.{AllSealLimits}
use Rattle.rv_step.specs.Machine.{State}
use Rattle.rv_step.specs.Runs.{IsOutcome}
use Rattle.rv_step.specs.declared.outcome.Outcome.{Outcome}
use Rattle.rv_step.specs.declared.outcome.Outcome.TheVariants.{Halted as HaltedAt, Faulted as FaultedAt, OverLimit as Over}
use Rattle.claim_types.specs.declared.claim.Exit.TheVariants.{Split, Halted}
use Rattle.seal_replay.specs.Claiming.{before_of}
use Rattle.lift_join.specs.Joins.{chain_of}
use Rattle.lift_join.specs.Chained.{Chained}
use Rattle.executor.specs.Segments.{Limits, lengths}
use Rattle.executor.specs.Proving.{cut_seals, ClaimsRun}
use Rattle.session.specs.declared.stop.SessionStop.{SessionStop}
use Rattle.session.specs.declared.stop.SessionStop.TheVariants.{TooManySeals, Faulted, OverLimit, Memory}
use Rattle.receipt_types.specs.declared.sizes.TheConstants.{MOST_SEALS}

-- the run from r halts in at most 65,535 segments, these are their seals, within the limits of a receipt, and this is its claim
pub record IsProved (H : List ℕ → List ℕ) (l : Limits) (r : State) (proved : Chained) : Type 0 where
  pub few : length (lengths l r) ≤ MOST_SEALS
  pub seals : proved.seals ≡ cut_seals H l r
  pub limits : AllSealLimits proved.seals
  pub code : ℕ
  pub ends : IsOutcome r l.limit (HaltedAt code)
  pub claims : ClaimsRun H proved.claim r (Halted code) ends.state
  pub chained : chain_of H proved.seals ≡ Some proved.claim

-- it stops so: it has more segments, which comes first, or its outcome is no halt
abbrev pub StopsSession : Limits → State → SessionStop → Type 0
StopsSession l r TooManySeals = MOST_SEALS < length (lengths l r)
StopsSession l r (Faulted fault pc step) = (length (lengths l r) ≤ MOST_SEALS) × IsOutcome r l.limit (FaultedAt fault pc step)
StopsSession l r (OverLimit step) = (length (lengths l r) ≤ MOST_SEALS) × IsOutcome r l.limit (Over step)
StopsSession l r Memory = ⊤

-- the seals of what is proved so far, if anything is
abbrev pub seals_so_far : Option Chained → List Seal
seals_so_far (Some proved) = proved.seals
seals_so_far None = []

-- the claim is that of their chain
abbrev pub IsChained : (List ℕ → List ℕ) → Chained → Type 0
IsChained H proved = chain_of H proved.seals ≡ Some proved.claim

-- a seal may follow: the claim so far ends in Split where the seal begins
abbrev pub MayFollow : (List ℕ → List ℕ) → Chained → Seal → Type 0
MayFollow H proved seal = IsChained H proved × (proved.claim.exit ≡ Split) × (proved.claim.after ≡ before_of H seal)

-- ---- an outcome
abbrev pub IsHalt : Outcome → Type 0
IsHalt (HaltedAt code) = ⊤
IsHalt outcome = ⊥

-- the stop of a session whose run ends so
abbrev pub StopsAt : Outcome → SessionStop → Type 0
StopsAt (HaltedAt code) stop = ⊥
StopsAt (FaultedAt fault pc step) stop = stop ≡ Faulted fault pc step
StopsAt (Over step) stop = stop ≡ OverLimit step
