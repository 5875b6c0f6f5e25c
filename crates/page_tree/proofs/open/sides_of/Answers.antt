use Rattle.std.proofs.Common.{rules, ℕ, ◌%◌, ◌*◌, ◌-◌, ◌+◌, ◌^◌, ◌<◌, ltb, ltb-true, ltb-false, get_or, length, subst, arith}
use Rattle.std.proofs.lemmas.List.Sorted.{IsPartitionPoint-from_clause, IsPartitionedBy-ltb}
use Rattle.page_tree.specs.Grown.{AscendFrom}
use Rattle.page_tree.proofs.Sides.{ascend_front, ascend_back, never_fall, middle_fits, before_middle, from_middle}
use Rattle.page_tree.proofs.open.sides_of.Goals as goal

pub returns-clause-left : goal.returns-clause-left
returns-clause-left c =
    let height = c.args.height in
    let index = c.args.index in
    let pages = c.args.pages.now in
    let middle : ℕ = ((2 * index + 1) * 2 ^ (height - 1)) % 4294967296 in
    let parted = IsPartitionedBy-ltb (λ p. p) _ middle (never_fall 0 pages c.requires.ascending) in
    let point = IsPartitionPoint-from_clause (λ p. ltb p middle) _ _ c.partition_point.ensures.partitioned parted (λ a r q k. search rules) in
    λ k d h.
    let first : k < c.partition_point.result = omega (arith, h, c.split_at.ensures.front_len) in
    let before = ltb-true (get_or pages k d) middle (point.0 k d (omega arith) first) in
    rw (c.split_at.ensures.by_index.1 k d first)
    (before_middle height index (get_or pages k d) c.requires.some (c.requires.below k d (omega (arith, first, c.partition_point.ensures.bound)))
    (rw (middle_fits height index c.requires.some c.requires.low c.requires.fits) at before))

pub returns-clause-right : goal.returns-clause-right
returns-clause-right c =
    let height = c.args.height in
    let index = c.args.index in
    let pages = c.args.pages.now in
    let middle : ℕ = ((2 * index + 1) * 2 ^ (height - 1)) % 4294967296 in
    let parted = IsPartitionedBy-ltb (λ p. p) _ middle (never_fall 0 pages c.requires.ascending) in
    let point = IsPartitionPoint-from_clause (λ p. ltb p middle) _ _ c.partition_point.ensures.partitioned parted (λ a r q k. search rules) in
    λ k d h.
    let j : ℕ = c.partition_point.result + k in
    let inside : j < length pages = omega (arith, h, c.split_at.ensures.back_len) in
    let from = ltb-false (get_or pages j d) middle (point.1 j d (omega arith) inside) in
    rw (c.split_at.ensures.by_index.2 k d)
    (from_middle height index (get_or pages j d) c.requires.some (c.requires.below j d inside)
    (rw (middle_fits height index c.requires.some c.requires.low c.requires.fits) at from))

pub returns-clause-left_ascending : goal.returns-clause-left_ascending
returns-clause-left_ascending c =
    ascend_front 0 _ _ (subst (AscendFrom 0) c.split_at.ensures.by_index.0 c.requires.ascending)

pub returns-clause-right_ascending : goal.returns-clause-right_ascending
returns-clause-right_ascending c =
    ascend_back 0 _ _ (subst (AscendFrom 0) c.split_at.ensures.by_index.0 c.requires.ascending)
