use Rattle.std.proofs.Common.{◌≡◌, ℕ, ◌-◌, ◌%◌, ◌≤◌, IsTrue, length, get_or, false}
use Rattle.page_core.specs.Memory.{is_among}
use Rattle.rv_step.specs.Stepping.{state_at}
use Rattle.seal_replay.specs.Replay.{opened_by}
use Rattle.seal_replay.specs.Replaying.{HasGone}
use Rattle.seal_replay.proofs.replaying.run.Given as goal

abbrev pub invariant-loop-number : goal.invariant-loop-number
invariant-loop-number g l =
    record {
      gone : HasGone l.seal (state_at l.core (g.B.Bus.byte_at l.bus) l.tape l.log) l.marks l.number;
      aligned : l.core.pc % 4 ≡ 0;
      opens : g.B.Bus.opens l.bus ≡ is_among (opened_by l.seal);
      size : length l.marks ≡ length l.fn.marks;
      marked : (p : ℕ) → IsTrue (get_or l.marks p false) → IsTrue (g.B.Bus.opens l.bus p);
      within : l.number ≤ l.seal.steps;
    }

abbrev pub decreases-loop-number : goal.decreases-loop-number
decreases-loop-number g l = l.seal.steps - l.number
