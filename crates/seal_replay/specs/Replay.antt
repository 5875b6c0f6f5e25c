-- Replay: a seal's stretch of a run over the pages that its tree opens, and where it stops.
use Rattle.std.specs.Prelude.{ℕ, zero, suc, ◌+◌, ◌-◌, Bool, cond, eqb, List, [], ◌∷◌, length, Option, Some, None, option_and_then}
use Rattle.std.specs.Int.{w32, from_le_bytes}
use Rattle.rv_isa.specs.declared.fault.Fault.{Fault}
use Rattle.page_core.specs.Memory.{top, bytes, is_among}
use Rattle.rv_step.specs.Machine.{State, Event, Went, Halted, Faulted, step_of, foot_of, first_closed}
use Rattle.rv_step.specs.Runs.{after, run_pages}
use Rattle.page_core.specs.Memories.{flat}
use Rattle.part_tree.specs.Part.{open_numbers, fill}
use Rattle.claim_types.specs.declared.claim.Exit.{Exit}
use Rattle.claim_types.specs.declared.claim.Exit.TheVariants.{Split, Halted as HaltedWith}
use Rattle.receipt_types.specs.Seals.{Seal}
use Rattle.seal_replay.specs.declared.stop.ReplayStop.{ReplayStop}
use Rattle.seal_replay.specs.declared.stop.ReplayStop.TheVariants as Stop
use Rattle.std.specs.Option.{option_or}

-- the memory that a seal shows: its open pages, and zeros elsewhere
abbrev pub seal_memory : Seal → ℕ → ℕ
seal_memory seal = flat (fill seal.tree)

-- the pages that it opens, ascending
abbrev pub opened_by : Seal → List ℕ
opened_by seal = open_numbers 0 seal.tree

-- the n words from address a on
unfoldable pub words_at : (ℕ → ℕ) → ℕ → ℕ → List ℕ
words_at m a zero = []
words_at m a (suc n) = from_le_bytes w32 (bytes m a 4) ∷ words_at m (a + 4) n

-- x0 zero, and x1 to x31 of the register page
unfoldable pub registers_in : (ℕ → ℕ) → List ℕ
registers_in m = 0 ∷ words_at m (top + 4) 31

-- where the replay begins: the registers are those of the register page
abbrev pub enter : Seal → State
enter seal =
    record { pc = seal.pc; x = registers_in (seal_memory seal); memory = seal_memory seal; words = seal.words; journal = []; calls = [] }

-- ---- the stop of one step: step k, from the state s, among `steps`, over the pages that are open
abbrev pub fault_stop : ℕ → Fault → ReplayStop
fault_stop k Fault.InputEnd = Stop.WordsShort k
fault_stop k fault = Stop.Fault k fault

abbrev pub event_stop : ℕ → ℕ → Event → Option ReplayStop
event_stop steps k (Went t) = None
event_stop steps k (Halted code) = cond (eqb (k + 1) steps) None (Some (Stop.EndsEarly k))
event_stop steps k (Faulted fault) = Some (fault_stop k fault)

abbrev pub page_stop : ℕ → Option ℕ → Option ReplayStop
page_stop k (Some page) = Some (Stop.Unopened k page)
page_stop k None = None

abbrev pub stop_at : (ℕ → Bool) → ℕ → ℕ → State → Option ReplayStop
stop_at opens steps k s = option_or (page_stop k (first_closed opens (foot_of s))) (event_stop steps k (step_of s))

-- ---- the stop of a seal
-- the first that f gives of its values below n
unfoldable pub first_below : {A : Type 0} → (ℕ → Option A) → ℕ → Option A
first_below f zero = None
first_below f (suc n) = option_or (first_below f n) (f n)

unfoldable pub step_stop : Seal → ℕ → Option ReplayStop
step_stop seal k = option_and_then (stop_at (is_among (opened_by seal)) seal.steps k) (after (enter seal) k)

-- how a seal's steps end, with the state there; a halt changes none
abbrev pub halting : State → Event → Option (Exit × State)
halting s (Went t) = None
halting s (Halted code) = Some (HaltedWith code, s)
halting s (Faulted fault) = None

abbrev pub split : State → Option (Exit × State)
split s = Some (Split, s)

unfoldable pub ending : Seal → Option (Exit × State)
ending seal =
    option_or (option_and_then split (after (enter seal) seal.steps))
    (option_and_then (λ s. halting s (step_of s)) (after (enter seal) (seal.steps - 1)))

abbrev pub words_stop : Exit × State → Option ReplayStop
words_stop e = cond (eqb (length e.1.words) 0) None (Some (Stop.WordsLeft (length e.1.words)))

abbrev pub idle_stop : Option ℕ → Option ReplayStop
idle_stop (Some page) = Some (Stop.Idle page)
idle_stop None = None

unfoldable pub stop_of : Seal → Option ReplayStop
stop_of seal =
    option_or (first_below (step_stop seal) seal.steps)
    (option_or (option_and_then words_stop (ending seal))
    (idle_stop (first_closed (is_among (run_pages (enter seal) seal.steps)) (opened_by seal))))
