use Rattle.std.proofs.Common.{length, refl, arith}
use Rattle.rv_step.proofs.Words.{byte_read, no_bytes}
use Rattle.rv_step.proofs.access.load_bytes.Goals as goal

pub loop-place-init : goal.loop-place-init
loop-place-init g c = (omega arith, refl, no_bytes (g.B.Bus.byte_at c.args.bus.now) c.args.address)

pub loop-place-preserved : goal.loop-place-preserved
loop-place-preserved g c =
    let (there, size, before) = c.loop-place.invariant in
    byte_read (g.B.Bus.byte_at c.args.bus.now) c.args.address c.loop-place.at c.loop-place.place c.load_byte.result (length c.args.buffer.now)
    c.loop-place.buffer (omega arith) size there c.load_byte.ensures before
