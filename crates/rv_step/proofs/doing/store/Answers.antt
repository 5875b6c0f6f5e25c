use Rattle.std.proofs.Common.{ap, ◌∙◌}
use Rattle.std.specs.Int.{to_le_bytes}
use Rattle.page_core.specs.Memory.{put}
use Rattle.rv_step.specs.Machine.{store_width}
use Rattle.rv_step.proofs.Done.{stores_to}
use Rattle.rv_step.proofs.doing.store.Goals as goal

pub returns-clause-went : goal.returns-clause-went
returns-clause-went g c = λ tape log.
    stores_to c.args.op c.args.address c.args.value c.args.core.now c.go_on.new.core (g.B.Bus.byte_at c.args.bus.now) (g.B.Bus.byte_at c.store_value.new.bus) tape log
    (c.store_value.ensures.written ∙ ap (λ m. put m c.args.address (to_le_bytes (store_width c.args.op) c.args.value)) c.make_ready.ensures.same_bytes) c.go_on.ensures
