use Rattle.std.proofs.Common.{◌≡◌, ◌%◌, ◌+◌, sum, take}
use Rattle.digest_core.proofs.weak.WeakDigesterDigester.add.Given as goal

-- the sum and the number of the bytes so far were added
abbrev pub invariant-loop-byte : goal.invariant-loop-byte
invariant-loop-byte l = record {
  sum_is : l.self.sum ≡ (l.initial.self.sum + sum (take l.byte-index l.bytes)) % 256;
  count_is : l.self.count ≡ (l.initial.self.count + l.byte-index) % 256;
}
