use Rattle.seal_replay.proofs.claiming.+node_after.Given as goal

abbrev pub decreases-node_after : goal.decreases-node_after
decreases-node_after g l = l.height
