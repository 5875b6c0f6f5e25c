use Rattle.std.proofs.Common.{◌≡◌, ◌-◌, ◌%◌, ◌≤◌}
use Rattle.rv_step.specs.Quick.{GoesQuickly}
use Rattle.rv_step.specs.Stepping.{state_at}
use Rattle.rv_step.specs.Tapes.{Tape, Log}
use Rattle.rv_step.proofs.quick.quick_steps.Given as goal

-- the steps so far went quickly
abbrev pub invariant-loop-done : goal.invariant-loop-done
invariant-loop-done g l =
    record {
      within : l.done ≤ l.room;
      aligned : l.core.pc % 4 ≡ 0;
      pages : g.B.Bus.opens l.bus ≡ g.B.Bus.opens l.fn.bus;
      went : (tape : Tape) (log : Log)
          → GoesQuickly (g.P.PageSet.holds l.pages) (state_at l.fn.core (g.B.Bus.byte_at l.fn.bus) tape log) l.done (state_at l.core (g.B.Bus.byte_at l.bus) tape log);
    }

abbrev pub decreases-loop-done : goal.decreases-loop-done
decreases-loop-done g l = l.room - l.done
