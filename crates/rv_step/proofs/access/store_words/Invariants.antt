use Rattle.std.proofs.Common.{◌≡◌, ◌+◌, ◌*◌, take}
use Rattle.std.specs.Int.{w32, to_le_bytes}
use Rattle.std.specs.List.{flat_map}
use Rattle.page_core.specs.Memory.{put}
use Rattle.rv_step.proofs.access.store_words.Given as goal

abbrev pub invariant-loop-word : goal.invariant-loop-word
invariant-loop-word g l =
    (l.at ≡ l.fn.address + 4 * l.word-index)
    × (g.B.Bus.opens l.bus ≡ g.B.Bus.opens l.fn.bus)
    × (g.B.Bus.readies l.bus ≡ g.B.Bus.readies l.fn.bus)
    × (g.B.Bus.byte_at l.bus ≡ put (g.B.Bus.byte_at l.fn.bus) l.fn.address (flat_map (to_le_bytes w32) (take l.word-index l.words)))
