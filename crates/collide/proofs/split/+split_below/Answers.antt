use Rattle.std.proofs.Common.{rules, ◌≤◌, arith}
use Rattle.part_tree.proofs.Below.{sides_fit}
use Rattle.collide.proofs.split.+split_below.Goals as goal

pub split_below-requires-clause-fits : goal.split_below-requires-clause-fits
split_below-requires-clause-fits g t c κs within =
    let some : 1 ≤ c.args.height = search rules in
    omega (arith, sides_fit c.args.height c.args.index some c.requires.low c.requires.fits)

pub split_below-requires-in-Branch-clause-fits : goal.split_below-requires-in-Branch-clause-fits
split_below-requires-in-Branch-clause-fits g t c κs within =
    let some : 1 ≤ c.args.height = search rules in
    omega (arith, sides_fit c.args.height c.args.index some c.requires.low c.requires.fits)
