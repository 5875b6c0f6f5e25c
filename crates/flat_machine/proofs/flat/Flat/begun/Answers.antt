use Rattle.std.proofs.Common.{take, drop, refl, sym, ap}
use Rattle.rv_step.specs.Tapes.{Tape, Log}
use Rattle.flat_machine.proofs.RunSteps.{stands_new}
use Rattle.flat_machine.proofs.flat.Flat.begun.Goals as goal

pub returns-clause-stands : goal.returns-clause-stands
returns-clause-stands c image entry memory =
    stands_new _ image c.args.words.items (sym entry) c.new.ensures memory (ap (λ (t : Tape). take t.used t.words) c.new-2.ensures) (ap (λ (t : Tape). drop t.used t.words) c.new-2.ensures)
    (ap (λ (l : Log). l.journal) c.new-3.ensures) (ap (λ (l : Log). l.calls) c.new-3.ensures) refl refl refl
