-- What a replay tells of a run.
use Rattle.std.specs.Prelude.{◌≡◌, ℕ, ◌+◌, ◌<◌, ◌≤◌, List, ◌++◌, Some, None}
use Rattle.page_core.specs.Memory.{AgreeOn}
use Rattle.rv_step.specs.Machine.{State, full}
use Rattle.rv_step.specs.Runs.{after}
use Rattle.rv_step.specs.Laws.{IsReady, Beside, Alike}
use Rattle.claim_types.specs.declared.claim.Exit.{Exit}
use Rattle.receipt_types.specs.Seals.{Seal}
use Rattle.seal_replay.specs.Replay.{seal_memory, opened_by, enter, stop_of, ending}

-- a seal begins where the run is after b steps: it has that pc, and its opened pages show that memory with its registers
pub record BeginsAt (r : State) (b : ℕ) (seal : Seal) : Type 0 where
  pub state : State
  pub reached : after r b ≡ Some state
  pub pc : seal.pc ≡ state.pc
  pub shows : AgreeOn (opened_by seal) (seal_memory seal) (full state)

-- what the run has beside a replay that begins in its state s: these words still to come, and the journal and calls of s
abbrev pub beside : State → List ℕ → Beside
beside s words = record { words = words; journal = s.journal; calls = s.calls }

-- a seal that begins where a run is, has the words that come next there and replays without a stop does what the run does
abbrev pub ReplayFollowsRun : Type 0
ReplayFollowsRun =
    (r s : State) (b : ℕ) (seal : Seal) (rest : List ℕ) (n : ℕ) (t : State)
    → after r b ≡ Some s → IsReady s → s.words ≡ seal.words ++ rest → stop_of seal ≡ None → 0 < seal.steps → BeginsAt r b seal
    → n ≤ seal.steps → after (enter seal) n ≡ Some t
    → (v : State) × (after r (b + n) ≡ Some v) × Alike (opened_by seal) (beside s rest) t v × IsReady t

-- a replay without a stop has an end
abbrev pub UnstoppedEnds : Type 0
UnstoppedEnds = (seal : Seal) → stop_of seal ≡ None → (e : Exit × State) × (ending seal ≡ Some e)
