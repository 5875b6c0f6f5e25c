use Rattle.std.proofs.Common.{rules}
use Rattle.receipt_codec.proofs.Seals.{no_fields}
use Rattle.receipt_codec.proofs.seal.read_fields.Goals as goal

pub returns-else-keep_limits-clause-none : goal.returns-else-keep_limits-clause-none
returns-else-keep_limits-clause-none c =
    no_fields (record { pc = c.in_ok-take_u32.field-0; steps = c.in_ok-take_u32-2.field-0; count = c.in_ok-take_u32-3.field-0 }) _ c.take_u32-3.new.self
    (search rules) (search rules) (search rules) (search rules) (search rules)
