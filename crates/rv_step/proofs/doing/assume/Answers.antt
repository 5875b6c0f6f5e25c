use Rattle.rv_step.proofs.Done.{assumes_to}
use Rattle.rv_step.proofs.doing.assume.Goals as goal

pub returns-clause-went : goal.returns-clause-went
returns-clause-went g c = λ tape.
    assumes_to c.args.image c.args.journal (record { image = c.load_digest.result; journal = c.load_digest-2.result }) c.args.core.now c.go_on.new.core
    (g.B.Bus.byte_at c.args.bus.now) tape c.args.log.now c.assume.new.self c.load_digest.ensures c.load_digest-2.ensures c.in_ok-assume.ensures.ok c.go_on.ensures
