use Rattle.std.proofs.Common.{◌≡◌, ◌+◌, take, length}
use Rattle.page_core.specs.Memory.{bytes}
use Rattle.rv_step.proofs.access.load_bytes.Given as goal

abbrev pub invariant-loop-place : goal.invariant-loop-place
invariant-loop-place g l =
    (l.at ≡ l.address + l.place)
    × (length l.buffer ≡ length l.fn.buffer)
    × (take l.place l.buffer ≡ bytes (g.B.Bus.byte_at l.bus) l.address l.place)
