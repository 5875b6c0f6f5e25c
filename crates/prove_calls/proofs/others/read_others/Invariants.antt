use Rattle.std.proofs.Common.{◌≡◌, ◌≤◌, take}
use Rattle.resolve.specs.Resolving.{bundles_of}
use Rattle.prove_calls.specs.Others.{HasOthers}
use Rattle.prove_calls.proofs.others.read_others.Given as goal

abbrev pub invariant-loop-name : goal.invariant-loop-name
invariant-loop-name g l =
    (g.K.Desk.contents l.desk ≡ g.K.Desk.contents l.initial.desk)
    × (g.K.Desk.write_faults l.desk ≡ g.K.Desk.write_faults l.initial.desk)
    × (g.K.Desk.read_faults l.initial.desk ≤ g.K.Desk.read_faults l.desk)
    × HasOthers g.D.Digester.digest_of (g.K.Desk.contents l.initial.desk) (take l.name-index l.names) (bundles_of l.others.items)
