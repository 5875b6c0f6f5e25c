-- The seals that a prover makes of a run. H is the digest function.
use Rattle.std.specs.Prelude.{◌≡◌, ℕ, zero, suc, ◌-◌, List, [], ◌∷◌, ◌++◌, take, Option, Some, None}
use Rattle.page_core.specs.Memory.{ascending}
use Rattle.page_core.specs.Memories.{page_of}
use Rattle.part_tree.specs.Tree.{root}
use Rattle.part_tree.specs.Part.{part_of}
use Rattle.host_calls.specs.Calls.{takes}
use Rattle.rv_step.specs.declared.act.Act.{Act}
use Rattle.rv_step.specs.declared.act.Act.TheVariants.{Sets, Loads, Stores, Does, Faults}
use Rattle.rv_step.specs.Machine.{State, Halted, act, step_of, full}
use Rattle.rv_step.specs.Runs.{after, run_pages}
use Rattle.claim_types.specs.declared.state.State.{State as SystemState}
use Rattle.claim_types.specs.declared.claim.Exit.{Exit}
use Rattle.claim_types.specs.declared.claim.Exit.TheVariants.{Split, Halted as HaltedWith}
use Rattle.claim_types.specs.States.{halted_state}
use Rattle.claim_types.specs.Claims.{SpanClaim}
use Rattle.receipt_types.specs.Seals.{Seal}
use Rattle.executor.specs.Segments.{Limits, lengths}
use Rattle.part_tree.specs.declared.sizes.TheConstants.{HEIGHT}

-- how many words a step reads
abbrev pub words_taken : Act → ℕ
words_taken (Sets pc rd v) = 0
words_taken (Loads op rd a) = 0
words_taken (Stores op a v) = 0
words_taken (Does call) = takes call
words_taken (Faults fault) = 0

-- which
unfoldable pub read_by : State → List ℕ
read_by s = take (words_taken (act s)) s.words

abbrev pub read_at : Option State → List ℕ
read_at (Some s) = read_by s
read_at None = []

-- the words that n steps from s read
unfoldable pub run_words : State → ℕ → List ℕ
run_words s zero = []
run_words s (suc n) = run_words s n ++ read_at (after s n)

-- the seal of n steps from s: their words, and the tree of the memory and registers with their footprints open
abbrev pub seal_from : (List ℕ → List ℕ) → State → ℕ → Seal
seal_from H s n = record { pc = s.pc; steps = n; words = run_words s n; tree = part_of H (page_of (full s)) (ascending (run_pages s n)) HEIGHT 0 }

-- the seals of a run from s cut into stretches of these lengths
abbrev pub seals_from : (List ℕ → List ℕ) → Option State → List ℕ → List Seal
seals_from H o [] = []
seals_from H None (n ∷ ns) = []
seals_from H (Some s) (n ∷ ns) = seal_from H s n ∷ seals_from H (after s n) ns

-- the seals of the segments of a run from s
abbrev pub cut_seals : (List ℕ → List ℕ) → Limits → State → List Seal
cut_seals H l s = seals_from H (Some s) (lengths l s)

-- ---- what a seal claims of a run
-- how n steps from s end: in the state z, or by a halt in it
abbrev pub EndsAfter : State → ℕ → Exit → State → Type 0
EndsAfter s n Split z = after s n ≡ Some z
EndsAfter s n (HaltedWith code) z = (after s (n - 1) ≡ Some z) × (step_of z ≡ Halted code)

-- a state of the machine as a state of the system
abbrev pub system_state : (List ℕ → List ℕ) → State → SystemState
system_state H s = record { pc = s.pc; root = root H (page_of (full s)) }

abbrev pub end_state : (List ℕ → List ℕ) → Exit → State → SystemState
end_state H Split z = system_state H z
end_state H (HaltedWith code) z = halted_state

-- the claim says what a run from s that ends so does
pub record ClaimsRun (H : List ℕ → List ℕ) (claim : SpanClaim) (s : State) (exit : Exit) (z : State) : Type 0 where
  pub before : claim.before ≡ system_state H s
  pub after : claim.after ≡ end_state H exit z
  pub exit_is : claim.exit ≡ exit
  pub journal : s.journal ++ claim.journal ≡ z.journal
  pub calls : s.calls ++ claim.calls ≡ z.calls

-- and there is one
pub record HasClaim (H : List ℕ → List ℕ) (o : Option SpanClaim) (s : State) (exit : Exit) (z : State) : Type 0 where
  pub claim : SpanClaim
  pub is_claim : o ≡ Some claim
  pub claims : ClaimsRun H claim s exit z
