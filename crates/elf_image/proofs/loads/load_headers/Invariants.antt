use Rattle.std.proofs.Common.{◌+◌, ◌*◌, ◌-◌}
use Rattle.elf_image.proofs.Tested.{Tested}
use Rattle.elf_image.proofs.loads.load_headers.Given as goal

-- the load headers so far passed, and the others are left
abbrev pub invariant-loop-number : goal.invariant-loop-number
invariant-loop-number l = Tested l.file l.loads.items (l.header.headers_at + 32 * l.number) (l.number-end - l.number)
