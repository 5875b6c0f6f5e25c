use Rattle.std.proofs.Common.{rules, ◌≤◌, arith}
use Rattle.part_tree.proofs.Below.{sides_fit}
use Rattle.collide.proofs.place.+place_below.Goals as goal

pub place_below-left_digest-requires-clause-fits : goal.place_below-left_digest-requires-clause-fits
place_below-left_digest-requires-clause-fits g t c κs within =
    let some : 1 ≤ c.args.height = search rules in
    omega (arith, sides_fit c.args.height c.args.index some c.requires.low c.requires.fits)

pub place_below-right_digest-requires-clause-fits : goal.place_below-right_digest-requires-clause-fits
place_below-right_digest-requires-clause-fits g t c κs within =
    let some : 1 ≤ c.args.height = search rules in
    omega (arith, sides_fit c.args.height c.args.index some c.requires.low c.requires.fits)
