use Rattle.std.proofs.Common.{◌≡◌, ◌++◌}
use Rattle.std.specs.Int.{w16, to_le_bytes}
use Rattle.std.specs.List.{flat_map}
use Rattle.receipt_codec.specs.Reading.{AreLinks}
use Rattle.receipt_codec.proofs.bundle.read_links.Given as goal

abbrev pub invariant-loop : goal.invariant-loop
invariant-loop l = AreLinks l.number l.count l.counter l.links.items × (l.fn.cursor ≡ flat_map (to_le_bytes w16) l.links.items ++ l.cursor)
