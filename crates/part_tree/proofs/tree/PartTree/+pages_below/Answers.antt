use Rattle.std.proofs.Common.{◌≤◌, ◌-◌, arith}
use Rattle.part_tree.proofs.Counts.{few_below}
use Rattle.part_tree.proofs.tree.PartTree.+pages_below.Goals as goal

pub overflow_add-pages : goal.overflow_add-pages
overflow_add-pages t c =
    let low : c.args.height - 1 ≤ 17 = omega (arith, c.requires) in
    let left = few_below (c.args.height - 1) _ low c.in_ok-left_pages-in-Branch.ensures.shape in
    let right = few_below (c.args.height - 1) _ low c.in_ok-right_pages-in-Branch.ensures.shape in
    omega (arith, left, right, c.in_ok-left_pages-in-Branch.ensures.count, c.in_ok-right_pages-in-Branch.ensures.count)
