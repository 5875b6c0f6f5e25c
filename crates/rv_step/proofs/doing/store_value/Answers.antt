use Rattle.std.proofs.Common.{ap, ◌∙◌}
use Rattle.page_core.specs.Memory.{put}
use Rattle.rv_step.proofs.Words.{two_lowest}
use Rattle.rv_step.proofs.doing.store_value.Goals as goal

pub returns-in-Sh-clause-written : goal.returns-in-Sh-clause-written
returns-in-Sh-clause-written g c =
    rw c.in-Sh.is (c.store_half.ensures.written ∙ ap (put (g.B.Bus.byte_at c.args.bus.now) c.args.address) (two_lowest c.args.value))
