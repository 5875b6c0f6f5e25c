use Rattle.rv_step.proofs.Done.{loads_to}
use Rattle.rv_step.proofs.doing.load.Goals as goal

pub returns-clause-went : goal.returns-clause-went
returns-clause-went g c = λ tape log.
    loads_to c.args.op c.args.rd c.args.address c.load_value-value.result c.args.core.now c.go_on.new.core (g.B.Bus.byte_at c.args.bus.now) tape log
    c.load_value-value.ensures c.go_on.ensures
