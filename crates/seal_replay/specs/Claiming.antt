-- What a seal claims. H is the digest function.
use Rattle.std.specs.Prelude.{ℕ, List, Option, Some, None, option_map}
use Rattle.rv_step.specs.Machine.{State, full}
use Rattle.claim_types.specs.declared.claim.Exit.{Exit}
use Rattle.claim_types.specs.declared.claim.Exit.TheVariants.{Split, Halted as HaltedWith}
use Rattle.seal_replay.specs.Replay.{stop_of, ending}
use Rattle.seal_replay.specs.declared.stop.ReplayStop.{ReplayStop}
use Rattle.part_tree.specs.Part.{Part, root_of, put_part}
use Rattle.page_core.specs.Memories.{page_of}
use Rattle.claim_types.specs.declared.state.State.{State as SystemState}
use Rattle.claim_types.specs.States.{halted_state}
use Rattle.claim_types.specs.Claims.{SpanClaim}
use Rattle.receipt_types.specs.Seals.{Seal}

-- the state at its beginning
abbrev pub before_of : (List ℕ → List ℕ) → Seal → SystemState
before_of H seal = record { pc = seal.pc; root = root_of H seal.tree }

-- the seal's tree with the memory and the registers of a state in its open pages
abbrev pub put_tree : Seal → State → Part
put_tree seal t = put_part 0 seal.tree (page_of (full t))

-- the seal's state after, where its replay ends so
abbrev pub after_of : (List ℕ → List ℕ) → Seal → Exit × State → SystemState
after_of H seal (Split, t) = record { pc = t.pc; root = root_of H (put_tree seal t) }
after_of H seal (HaltedWith code, t) = halted_state

-- the seal's claim, where its replay ends so
abbrev pub claim_at : (List ℕ → List ℕ) → Seal → Exit × State → SpanClaim
claim_at H seal e = record { before = before_of H seal; after = after_of H seal e; exit = e.0; journal = e.1.journal; calls = e.1.calls }

-- a value where there is no stop
abbrev pub unless : {A : Type 0} → Option ReplayStop → Option A → Option A
unless None o = o
unless (Some stop) o = None

-- the seal's claim, where its replay has no stop
abbrev pub claim_of : (List ℕ → List ℕ) → Seal → Option SpanClaim
claim_of H seal = unless (stop_of seal) (option_map (claim_at H seal) (ending seal))
