use Rattle.executor.proofs.Claimed as Claimed
use Rattle.executor.proofs.laws.stretches_replay.Goals as goal

pub returns-clause-replay : goal.returns-clause-replay
returns-clause-replay g c = Claimed.stretches_replay g.D.Digester.digest_of

pub returns-clause-claim : goal.returns-clause-claim
returns-clause-claim g c = Claimed.stretches_claim g.D.Digester.digest_of
