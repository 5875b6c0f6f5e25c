use Rattle.seal_replay.proofs.Written.{AreWritten}
use Rattle.seal_replay.proofs.claiming.write_words.Given as goal

abbrev pub invariant-loop-n : goal.invariant-loop-n
invariant-loop-n l = AreWritten l.fn.pages l.pages l.regs l.n
