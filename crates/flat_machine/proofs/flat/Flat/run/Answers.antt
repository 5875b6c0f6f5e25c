use Rattle.flat_machine.proofs.flat.Flat.run.Goals as goal

pub returns-in-Some-clause-outcome : goal.returns-in-Some-clause-outcome
returns-in-Some-clause-outcome c image words stands =
    let ended = rw c.in-Some.is at c.in_ok-outcome.ensures.ended in
    ended image words (c.go_quickly.ensures.stands image words (c.loop-outcome.invariant.0 image words stands))
