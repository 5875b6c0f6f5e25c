use Rattle.std.proofs.Common.{◌∙◌}
use Rattle.rv_step.proofs.Words.{half_in}
use Rattle.rv_step.proofs.access.load_half.Goals as goal

pub returns : goal.returns
returns g c =
    c.from_le_bytes.ensures
    ∙ half_in (g.B.Bus.byte_at c.args.bus.now) c.args.address c.word_bytes-bytes.result c.requires.aligned c.word_bytes-bytes.ensures
