use Rattle.std.proofs.Common.{◌≡◌, ◌+◌, ◌≤◌, length, IfSome, ◌-◌}
use Rattle.outside.proofs.Pieces.{Begins}
use Rattle.outside.proofs.reading.read_all.Given as goal

-- what was read so far begins the file, and each read took a byte or more
abbrev pub invariant-loop-room : goal.invariant-loop-room
invariant-loop-room g l = record {
  length_is : length l.out ≡ l.at;
  within : l.at ≤ l.limit;
  begins : IfSome (g.K.Desk.contents l.desk) (λ files. Begins (files l.name) l.at l.out);
  counted : g.K.Desk.calls l.desk ≤ g.K.Desk.calls l.initial.desk + l.at;
  contents : g.K.Desk.contents l.desk ≡ g.K.Desk.contents l.initial.desk;
  read_faults : g.K.Desk.read_faults l.initial.desk ≤ g.K.Desk.read_faults l.desk;
  write_faults : g.K.Desk.write_faults l.desk ≡ g.K.Desk.write_faults l.initial.desk;
}

abbrev pub decreases-loop-room : goal.decreases-loop-room
decreases-loop-room g l = l.limit + 1 - l.at
