-- What holds of the cuts of every run, and of its seals. H is the digest function.
use Rattle.std.specs.Prelude.{◌≡◌, ℕ, ◌^◌, ◌<◌, ◌≤◌, List, [], ◌∷◌, All, None}
use Rattle.page_core.specs.Images.{Image, IsImage}
use Rattle.rv_step.specs.Machine.{State}
use Rattle.rv_step.specs.Runs.{start, IsOutcome, steps_done}
use Rattle.rv_step.specs.Laws.{IsReady}
use Rattle.rv_step.specs.declared.outcome.Outcome.{Outcome}
use Rattle.claim_types.specs.declared.claim.Exit.{Exit}
use Rattle.receipt_types.specs.Limits.{AllSealLimits}
use Rattle.seal_replay.specs.Replay.{stop_of}
use Rattle.seal_replay.specs.Claiming.{claim_of}
use Rattle.executor.specs.Segments.{Limits, done_in, lengths, total}
use Rattle.executor.specs.Proving.{seal_from, cut_seals, EndsAfter, HasClaim}
use Rattle.rv_step.specs.declared.limits.TheConstants.{CYCLES_MIN, CYCLES_MAX, PAGES_MIN, PAGES_MAX, LIMIT_MAX}

-- the smallest bounds that are allowed hold every step
pub record AreLimits (l : Limits) : Type 0 where
  pub least_cycles : CYCLES_MIN ≤ l.cycles
  pub most_cycles : l.cycles ≤ CYCLES_MAX
  pub least_pages : PAGES_MIN ≤ l.pages
  pub most_pages : l.pages ≤ PAGES_MAX
  pub least_limit : 1 ≤ l.limit
  pub most_limit : l.limit ≤ LIMIT_MAX

-- the seal of a stretch of a run replays without a stop
abbrev pub StretchesReplay : (List ℕ → List ℕ) → Type 0
StretchesReplay H = (s : State) (n : ℕ) (exit : Exit) (z : State) → IsReady s → 0 < n → EndsAfter s n exit z → stop_of (seal_from H s n) ≡ None

-- and claims what the run does there
abbrev pub StretchesClaim : (List ℕ → List ℕ) → Type 0
StretchesClaim H = (s : State) (n : ℕ) (exit : Exit) (z : State) → IsReady s → 0 < n → EndsAfter s n exit z → HasClaim H (claim_of H (seal_from H s n)) s exit z

-- no stretch is empty
abbrev pub AreLengths : List ℕ → Type 0
AreLengths [] = Unit {0}
AreLengths (n ∷ ns) = (0 < n) × AreLengths ns

-- no segment of a run is empty, and together they have all steps that are done
abbrev pub SegmentsCover : Type 0
SegmentsCover = (l : Limits) (s : State) → AreLimits l → IsReady s → AreLengths (lengths l s) × (total (lengths l s) ≡ done_in l.limit s)

-- the steps that are done are those up to the run's outcome
abbrev pub DoneToOutcome : Type 0
DoneToOutcome = (limit : ℕ) (s : State) (o : Outcome) (ends : IsOutcome s limit o) → done_in limit s ≡ steps_done ends.step o

-- a seal of an image's run keeps the limits of a receipt
abbrev pub CutsKeepLimits : (List ℕ → List ℕ) → Type 0
CutsKeepLimits H = (l : Limits) (image : Image) (words : List ℕ) → AreLimits l → IsImage image → All (λ word. word < 2 ^ 32) words → AllSealLimits (cut_seals H l (start image words))
