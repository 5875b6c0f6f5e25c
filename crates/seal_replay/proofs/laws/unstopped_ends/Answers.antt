use Rattle.seal_replay.proofs.Endings.{has_ending}
use Rattle.seal_replay.proofs.laws.unstopped_ends.Goals as goal

pub returns : goal.returns
returns c = has_ending
