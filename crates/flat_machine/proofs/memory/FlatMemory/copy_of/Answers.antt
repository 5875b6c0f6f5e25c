use Rattle.flat_machine.proofs.Layered.{copied_bytes}
use Rattle.flat_machine.proofs.memory.FlatMemory.copy_of.Goals as goal

pub returns : goal.returns
returns c = copied_bytes c.new-above.result c.args.map.now (record { above = c.copy_pages.new.above; below = c.new.result }) c.new-above.ensures c.new.ensures c.in_ok-copy_pages.ensures.copied
