-- What the end of a replay tells of the seal.
use Rattle.std.proofs.Common.{◌≡◌, ◌≢◌, ℕ, Bool, cond, eqb, List, [], length, get_or, Option, Some, None, sym, ap, ◌∙◌, arith, false}
use Rattle.std.specs.Prelude.{option_and_then}
use Rattle.std.specs.Option.{option_or}
use Rattle.std.proofs.lemmas.Bool.Decides.{nat_tests}
use Rattle.page_core.specs.Memory.{is_among}
use Rattle.rv_step.specs.Machine.{State, first_closed}
use Rattle.rv_step.specs.Runs.{run_pages}
use Rattle.claim_types.specs.declared.claim.Exit.{Exit}
use Rattle.receipt_types.specs.Seals.{Seal}
use Rattle.seal_replay.specs.declared.stop.ReplayStop.{ReplayStop}
use Rattle.seal_replay.specs.declared.stop.ReplayStop.TheVariants as Stop
use Rattle.seal_replay.specs.Replay.{opened_by, enter, step_stop, first_below, stop_of, ending, words_stop, idle_stop}
use Rattle.seal_replay.specs.Replaying.{HasEnded}
use Rattle.seal_replay.proofs.Marked.{idle_same}

-- a stop of a step is the seal's
pub step_stopped : (seal : Seal) (stop : ReplayStop) → first_below (step_stop seal) seal.steps ≡ Some stop → stop_of seal ≡ Some stop
unfolding stop_of
step_stopped seal stop h =
    ap (λ (o : Option ReplayStop). option_or o (option_or (option_and_then words_stop (ending seal)) (idle_stop (first_closed (is_among (run_pages (enter seal) seal.steps)) (opened_by seal))))) h

module _ (seal : Seal) (exit : Exit) (s : State) (marks : List Bool) (ended : HasEnded seal exit s marks) where
  idle_is : first_closed (λ p. get_or marks p false) (opened_by seal) ≡ first_closed (is_among (run_pages (enter seal) seal.steps)) (opened_by seal)
  idle_is = idle_same (opened_by seal) marks (run_pages (enter seal) seal.steps) ended.marked

  -- after all steps the words and the marks decide
  late : stop_of seal ≡ option_or (words_stop (exit, s)) (idle_stop (first_closed (λ p. get_or marks p false) (opened_by seal)))
  unfolding stop_of
  late =
      ap (λ (o : Option ReplayStop). option_or o (option_or (option_and_then words_stop (ending seal)) (idle_stop (first_closed (is_among (run_pages (enter seal) seal.steps)) (opened_by seal))))) ended.clean
      ∙ ap (λ (o : Option (Exit × State)). option_or (option_and_then words_stop o) (idle_stop (first_closed (is_among (run_pages (enter seal) seal.steps)) (opened_by seal)))) ended.ends
      ∙ ap (λ (o : Option ℕ). option_or (words_stop (exit, s)) (idle_stop o)) (sym idle_is)

  pub words_left : (count : ℕ) → count ≡ length s.words → count ≢ 0 → stop_of seal ≡ Some (Stop.WordsLeft count)
  words_left count is some =
      let test : eqb (length s.words) 0 ≡ false = grind (arith, nat_tests) in
      late ∙ ap (λ (b : Bool). option_or (cond b None (Some (Stop.WordsLeft (length s.words)))) (idle_stop (first_closed (λ p. get_or marks p false) (opened_by seal)))) test
      ∙ ap (λ (n : ℕ). Some (Stop.WordsLeft n)) (sym is)

  no_words : s.words ≡ [] → words_stop (exit, s) ≡ None
  no_words none = ap (λ (ws : List ℕ). cond (eqb (length ws) 0) None (Some (Stop.WordsLeft (length ws)))) none

  pub idle_left : (page : ℕ) → s.words ≡ [] → Some page ≡ first_closed (λ p. get_or marks p false) (opened_by seal) → stop_of seal ≡ Some (Stop.Idle page)
  idle_left page none is =
      late ∙ ap (λ (o : Option ReplayStop). option_or o (idle_stop (first_closed (λ p. get_or marks p false) (opened_by seal)))) (no_words none)
      ∙ ap idle_stop (sym is)

  pub nothing_left : s.words ≡ [] → None ≡ first_closed (λ p. get_or marks p false) (opened_by seal) → stop_of seal ≡ None
  nothing_left none is =
      late ∙ ap (λ (o : Option ReplayStop). option_or o (idle_stop (first_closed (λ p. get_or marks p false) (opened_by seal)))) (no_words none)
      ∙ ap idle_stop (sym is)
