-- What holds of the seals of every run. H is the digest function.
use Rattle.std.specs.Prelude.{◌≡◌, ◌≢◌, ℕ, ◌-◌, List, [], Some}
use Rattle.rv_step.specs.Machine.{State, Halted, step_of}
use Rattle.rv_step.specs.Runs.{after, IsOutcome}
use Rattle.rv_step.specs.Laws.{IsReady}
use Rattle.rv_step.specs.declared.outcome.Outcome.TheVariants.{Halted as HaltedAt}
use Rattle.claim_types.specs.declared.claim.Exit.TheVariants.{Split, Halted as HaltedWith}
use Rattle.lift_join.specs.Joins.{chain_of}
use Rattle.executor.specs.Segments.{Limits, total}
use Rattle.executor.specs.Proving.{seals_from, cut_seals, HasClaim}
use Rattle.executor.specs.Laws.{AreLimits, AreLengths}

-- the seals of a run that halts, cut anyhow into stretches that are not empty, chain to a claim of the whole run
abbrev pub CutsChain : (List ℕ → List ℕ) → Type 0
CutsChain H = (s : State) (ns : List ℕ) (code : ℕ) (z : State) → IsReady s → ns ≢ [] → AreLengths ns
    → after s (total ns - 1) ≡ Some z → step_of z ≡ Halted code
    → HasClaim H (chain_of H (seals_from H (Some s) ns)) s (HaltedWith code) z

-- and those of stretches that go on, to one that ends in Split
abbrev pub StretchesChain : (List ℕ → List ℕ) → Type 0
StretchesChain H = (s : State) (ns : List ℕ) (z : State) → IsReady s → ns ≢ [] → AreLengths ns
    → after s (total ns) ≡ Some z
    → HasClaim H (chain_of H (seals_from H (Some s) ns)) s Split z

-- so the seals of the segments of a run that halts chain to the claim of the run
abbrev pub SegmentsChain : (List ℕ → List ℕ) → Type 0
SegmentsChain H = (l : Limits) (s : State) (code : ℕ) → AreLimits l → IsReady s → (ends : IsOutcome s l.limit (HaltedAt code))
    → HasClaim H (chain_of H (cut_seals H l s)) s (HaltedWith code) ends.state
