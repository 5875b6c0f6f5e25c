-- How far a replay has come, and how it ends.
use Rattle.std.specs.Prelude.{◌≡◌, ℕ, ◌<◌, ◌||◌, Bool, false, List, [], length, Contains, slice_index_or, Some, None, is_some}
use Rattle.page_core.specs.Memory.{is_among}
use Rattle.page_core.specs.Memories.{flat}
use Rattle.rv_step.specs.Machine.{State, Went, Halted, step_of}
use Rattle.rv_step.specs.Runs.{after, run_pages}
use Rattle.rv_step.specs.Opened.{page_in, pages_in}
use Rattle.rv_step.specs.declared.stepping.Event.{Event as StepEvent}
use Rattle.rv_step.specs.declared.stepping.Event.TheVariants as E
use Rattle.claim_types.specs.declared.claim.Exit.{Exit}
use Rattle.receipt_types.specs.Seals.{Seal}
use Rattle.seal_replay.specs.Replay.{opened_by, enter, stop_at, step_stop, first_below, stop_of, ending}
use Rattle.seal_replay.specs.declared.replaying.Replayed.{Replayed}

-- of the open pages those are marked that are among these
abbrev pub AreMarked : List ℕ → List Bool → List ℕ → Type 0
AreMarked opened marks pages = (p : ℕ) → Contains opened p → slice_index_or marks p false ≡ is_among pages p

-- these pages are marked besides
abbrev pub AreAlsoMarked : List Bool → List Bool → List ℕ → Type 0
AreAlsoMarked before after pages = (p : ℕ) → p < length before → slice_index_or after p false ≡ (slice_index_or before p false || is_among pages p)

-- step k leads from s to t with this event, and nothing stops it
abbrev pub IsEvent : (ℕ → Bool) → ℕ → ℕ → State → State → StepEvent → Type 0
IsEvent opens steps k s t E.Went = (stop_at opens steps k s ≡ None) × (step_of s ≡ Went t)
IsEvent opens steps k s t (E.Halted code) = (stop_at opens steps k s ≡ None) × (step_of s ≡ Halted code) × (t ≡ s)

-- the first k steps went and none of them stops the replay
pub record HasGone (seal : Seal) (s : State) (marks : List Bool) (k : ℕ) : Type 0 where
  pub reached : after (enter seal) k ≡ Some s
  pub clean : first_below (step_stop seal) k ≡ None
  pub marked : AreMarked (opened_by seal) marks (run_pages (enter seal) k)

-- all steps are done with this exit, and none of them stops the replay
pub record HasEnded (seal : Seal) (exit : Exit) (s : State) (marks : List Bool) : Type 0 where
  pub ends : ending seal ≡ Some (exit, s)
  pub clean : first_below (step_stop seal) seal.steps ≡ None
  pub marked : AreMarked (opened_by seal) marks (run_pages (enter seal) seal.steps)

-- the state where a replay ended, with no word left
abbrev pub replay_state : Replayed → State
replay_state r =
    record { pc = r.core.pc; x = r.core.regs; memory = flat (pages_in r.pages); words = []; journal = r.log.journal; calls = r.log.calls }

-- nothing stops the replay, and it ends so, with the tree's pages still open
pub record IsReplayEnd (seal : Seal) (r : Replayed) : Type 0 where
  pub opens : (n : ℕ) → is_some (page_in r.pages n) ≡ is_among (opened_by seal) n
  pub clean : stop_of seal ≡ None
  pub ends : ending seal ≡ Some (r.exit, replay_state r)
