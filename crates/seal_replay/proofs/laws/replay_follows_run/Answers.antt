use Rattle.seal_replay.proofs.Chains.{replay_follows_run}
use Rattle.seal_replay.proofs.laws.replay_follows_run.Goals as goal

pub returns : goal.returns
returns c = replay_follows_run
