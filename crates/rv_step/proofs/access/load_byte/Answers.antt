use Rattle.std.proofs.Common.{◌%◌, get_or, ap, ◌∙◌}
use Rattle.rv_step.proofs.Words.{byte_in}
use Rattle.rv_step.proofs.access.load_byte.Goals as goal

pub returns : goal.returns
returns g c = ap (λ bytes. get_or bytes (c.args.address % 4) 0) c.word_bytes.ensures ∙ byte_in (g.B.Bus.byte_at c.args.bus.now) c.args.address
