use Rattle.std.proofs.Common.{rules, ◌≤◌, arith}
use Rattle.part_tree.proofs.Below.{sides_fit}
use Rattle.part_tree.proofs.tree.PartTree.+add_opened.Goals as goal

pub add_opened-requires : goal.add_opened-requires
add_opened-requires t c =
    let some : 1 ≤ c.args.height = search rules in
    let fit = sides_fit c.args.height c.args.index some c.requires.low c.requires.fits in
    (omega arith, (search rules, (omega arith, omega arith)))

pub add_opened-requires-in-Branch : goal.add_opened-requires-in-Branch
add_opened-requires-in-Branch t c =
    let some : 1 ≤ c.args.height = search rules in
    let fit = sides_fit c.args.height c.args.index some c.requires.low c.requires.fits in
    (omega arith, (search rules, (omega arith, fit)))
