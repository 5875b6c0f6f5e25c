use Rattle.std.proofs.Common.{◌≡◌, ℕ, ◌<◌, ⊎_elim, inl, inr, sym, ap, ◌∙◌, subst, Some, length, List, [], get_or, drop, Bool, false}
use Rattle.std.proofs.lemmas.List.{length-replicate, nil_from_length}
use Rattle.std.proofs.lemmas.Result.{err_from_is_err_and}
use Rattle.page_core.specs.Memories.{flat}
use Rattle.part_tree.specs.Part.{Part, page_at, open_numbers}
use Rattle.part_tree.specs.Views.{part}
use Rattle.receipt_types.specs.Seals.{Seal}
use Rattle.rv_step.specs.Opened.{page_in, pages_in}
use Rattle.rv_step.specs.Machine.{State, first_closed}
use Rattle.rv_step.specs.Stepping.{state_at}
use Rattle.rv_step.specs.Tapes.{Tape, no_log}
use Rattle.seal_replay.specs.Replay.{opened_by, seal_memory, registers_in}
use Rattle.seal_replay.proofs.Shown.{opens_same, memory_same, open_number}
use Rattle.page_core.proofs.Zeros.{get_or-same}
use Rattle.seal_replay.proofs.Ended.{step_stopped, words_left, idle_left, nothing_left}
use Rattle.seal_replay.proofs.replaying.replay_to_end.Goals as goal

pub run-requires-clause-opens : goal.run-requires-clause-opens
run-requires-clause-opens c =
    let tree : part c.seal.inside.tree ≡ c.args.seal.now.tree = ap (λ (seal : Seal). seal.tree) c.seal.view_is in
    let same : (n : ℕ) → page_in c.in_ok-pages.pages n ≡ page_at 0 c.args.seal.now.tree n =
    λ n. c.in_ok-pages.ensures n ∙ ap (λ (t : Part). page_at 0 t n) tree in
    opens_same c.args.seal.now.tree c.in_ok-pages.pages same

pub run-requires-clause-enters : goal.run-requires-clause-enters
run-requires-clause-enters c =
    let tree : part c.seal.inside.tree ≡ c.args.seal.now.tree = ap (λ (seal : Seal). seal.tree) c.seal.view_is in
    let same : (n : ℕ) → page_in c.in_ok-pages.pages n ≡ page_at 0 c.args.seal.now.tree n =
    λ n. c.in_ok-pages.ensures n ∙ ap (λ (t : Part). page_at 0 t n) tree in
    let memory : flat (pages_in c.in_ok-pages.pages) ≡ seal_memory c.args.seal.now = memory_same c.args.seal.now.tree c.in_ok-pages.pages same in
    let pc : c.seal.inside.pc ≡ c.args.seal.now.pc = ap (λ (seal : Seal). seal.pc) c.seal.view_is in
    let regs : c.registers.result ≡ registers_in (seal_memory c.args.seal.now) = c.registers.ensures ∙ ap registers_in memory in
    let words : drop c.in_ok-tape.tape.used c.in_ok-tape.tape.words ≡ c.args.seal.now.words =
    ap (λ (t : Tape). drop t.used t.words) c.in_ok-tape.ensures ∙ ap (λ (seal : Seal). seal.words) c.seal.view_is in
    let log : c.new-log.result ≡ no_log = c.new-log.ensures in
    sym (λ i. record { pc = pc i; x = regs i; memory = memory i; words = words i; journal = (log i).journal; calls = (log i).calls })

pub run-requires-clause-size : goal.run-requires-clause-size
run-requires-clause-size c = λ p h.
    let bound : p < 262144 = open_number c.args.seal.now.tree p c.requires.shape h in
    let size : length c.in_ok-marks.marks ≡ 262144 = ap length c.in_ok-marks.ensures ∙ length-replicate 262144 false in
    subst (λ (n : ℕ). p < n) (sym size) bound

pub run-requires-clause-unmarked : goal.run-requires-clause-unmarked
run-requires-clause-unmarked c = λ p. ap (λ marks. get_or marks p false) c.in_ok-marks.ensures ∙ get_or-same 262144 p false

pub returns-in_err-exit-clause-stop : goal.returns-in_err-exit-clause-stop
returns-in_err-exit-clause-stop c =
    let (stop, is, same) = err_from_is_err_and c.from_residual-in_err-exit.result c.from_residual-in_err-exit.ensures.1 in
    let from : stop ≡ c.in_err-exit.field-0.0 = same in
    rw (is, from) (⊎_elim inl (λ stops. inr (step_stopped c.args.seal.now c.in_err-exit.field-0.0 stops)) c.in_err-exit.ensures.stop)

pub returns-then-left-ne0-clause-stop : goal.returns-then-left-ne0-clause-stop
returns-then-left-ne0-clause-stop c =
    let s : State = state_at c.run.new.core (flat (pages_in c.run.new.bus)) c.run.new.tape c.run.new.log in
    inr (words_left c.args.seal.now c.in_ok-exit.exit s _ c.in_ok-exit.ensures.ended (length c.rest-left.result.now) (ap length c.rest-left.ensures) c.if-left-ne0.true)

pub returns-in-Some-clause-stop : goal.returns-in-Some-clause-stop
returns-in-Some-clause-stop c =
    let s : State = state_at c.run.new.core (flat (pages_in c.run.new.bus)) c.run.new.tape c.run.new.log in
    let none : s.words ≡ [] = nil_from_length s.words (ap length (sym c.rest-left.ensures) ∙ c.if-left-ne0.false) in
    let tree : part c.seal.inside.tree ≡ c.args.seal.now.tree = ap (λ (seal : Seal). seal.tree) c.seal.view_is in
    let numbers : c.as_slice-2.result.now ≡ opened_by c.args.seal.now = c.as_slice-2.ensures ∙ c.in_ok-numbers.ensures ∙ ap (open_numbers 0) tree in
    inr (idle_left c.args.seal.now c.in_ok-exit.exit s c.run.new.marks c.in_ok-exit.ensures.ended c.in-Some.page none
    (sym c.in-Some.is ∙ c.first_unmarked.ensures ∙ ap (first_closed (λ p. get_or c.run.new.marks p false)) numbers))

pub returns-clause-ended : goal.returns-clause-ended
returns-clause-ended c =
    let s : State = state_at c.run.new.core (flat (pages_in c.run.new.bus)) c.run.new.tape c.run.new.log in
    let none : s.words ≡ [] = nil_from_length s.words (ap length (sym c.rest-left.ensures) ∙ c.if-left-ne0.false) in
    let tree : part c.seal.inside.tree ≡ c.args.seal.now.tree = ap (λ (seal : Seal). seal.tree) c.seal.view_is in
    let numbers : c.as_slice-2.result.now ≡ opened_by c.args.seal.now = c.as_slice-2.ensures ∙ c.in_ok-numbers.ensures ∙ ap (open_numbers 0) tree in
    let same : (n : ℕ) → page_in c.in_ok-pages.pages n ≡ page_at 0 c.args.seal.now.tree n =
    λ n. c.in_ok-pages.ensures n ∙ ap (λ (t : Part). page_at 0 t n) tree in
    record {
      opens = λ n.
          ap (λ (opens : ℕ → Bool). opens n) c.run.ensures.same_pages
          ∙ ap (λ (opens : ℕ → Bool). opens n) (opens_same c.args.seal.now.tree c.in_ok-pages.pages same);
      clean =
          nothing_left c.args.seal.now c.in_ok-exit.exit s c.run.new.marks c.in_ok-exit.ensures.ended none
          (sym c.in_default.is ∙ c.first_unmarked.ensures ∙ ap (first_closed (λ p. get_or c.run.new.marks p false)) numbers);
      ends = c.in_ok-exit.ensures.ended.ends ∙ ap (λ (words : List ℕ). Some (c.in_ok-exit.exit, record s { words = words })) none;
    }
