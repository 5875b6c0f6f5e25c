use Rattle.std.proofs.Common.{◌≡◌, ◌-◌, ◌+◌, ◌*◌, ◌/◌, ◌<◌, ◌≤◌, ℕ, Option, [], ap, subst, ◌∙◌, arith}
use Rattle.std.specs.Prelude.{IfSome}
use Rattle.page_core.specs.Stored.{stored_at}
use Rattle.page_tree.specs.Grown.{stored_with_all, gathered}
use Rattle.page_tree.proofs.Filled.{bound, next_after, found_low, filled_up, filled_first, filled_next, filled_last, all_before, copied_numbers, IsFilled}
use Rattle.page_tree.proofs.build.filled.Goals as goal

-- no page is put before the first number
pub loop-next-init : goal.loop-next-init
loop-next-init g c =
    let map = c.args.map.now in
    let next = c.next_number-next.result in
    let made = c.next_number-next.ensures in
    record {
      stored = made.stored;
      low = found_low 0 next map made.stored made.number;
      filled = rw c.in_ok-tree.ensures (filled_up 0 next [] map (omega arith) made.stored made.number (filled_first map));
    }

-- then those of 64 numbers more, and up to the next that has one
pub loop-next-preserved : goal.loop-next-preserved
loop-next-preserved g c =
    let map = c.args.map.now in
    let tree = c.loop-next.tree in
    let number = c.in-Some.number in
    let first : ℕ = number / 64 * 64 in
    let next = c.next_number-next-in-Some.result in
    let made = c.next_number-next-in-Some.ensures in
    let invariant = c.loop-next.invariant in
    let low : number < 262144 = subst (λ (o : Option ℕ). IfSome o (λ n. n < 262144)) c.in-Some.is invariant.low in
    let before = subst (λ (o : Option ℕ). IsFilled (bound o) tree map) c.in-Some.is invariant.filled in
    let put : c.update.new.self ≡ stored_with_all tree (gathered (stored_at map) first 64) =
    c.in_ok-update.ensures.updated ∙ ap (stored_with_all tree) (c.deref.ensures.value ∙ c.in_ok-pages.ensures) in
    record {
      stored = invariant.stored;
      low = found_low (first + 64) next map invariant.stored made.number;
      filled = filled_up (first + 64) next c.update.new.self map (omega arith) invariant.stored made.number
          (filled_next number first tree c.update.new.self map before (omega arith) (omega arith) put);
    }

pub loop-next-smaller : goal.loop-next-smaller
loop-next-smaller g c =
    let number = c.in-Some.number in
    let next = c.next_number-next-in-Some.result in
    let invariant = c.loop-next.invariant in
    let low : number < 262144 = subst (λ (o : Option ℕ). IfSome o (λ n. n < 262144)) c.in-Some.is invariant.low in
    let here : bound c.loop-next.next ≡ number = ap bound c.in-Some.is in
    let after : number / 64 * 64 + 64 ≤ bound next = next_after (number / 64 * 64 + 64) next c.args.map.now (omega arith) invariant.stored c.next_number-next-in-Some.ensures.number in
    let smaller : 262144 - bound next < 262144 - bound c.loop-next.next = omega arith in
    smaller

pub pages_from-requires : goal.pages_from-requires
pages_from-requires g c =
    let low : c.in-Some.number < 262144 = subst (λ (o : Option ℕ). IfSome o (λ n. n < 262144)) c.in-Some.is c.loop-next.invariant.low in
    omega arith

pub update-requires-after_bounds : goal.update-requires-after_bounds
update-requires-after_bounds g c κs within =
    let low : c.in-Some.number < 262144 = subst (λ (o : Option ℕ). IfSome o (λ n. n < 262144)) c.in-Some.is c.loop-next.invariant.low in
    rw (c.deref.ensures.value, c.in_ok-pages.ensures) (copied_numbers (stored_at c.args.map.now) (c.in-Some.number / 64 * 64) 64 (omega arith))

pub returns-clause-tree : goal.returns-clause-tree
returns-clause-tree g c =
    let tree = c.loop-next.tree in
    let map = c.args.map.now in
    filled_last tree map (subst (λ (n : ℕ). IsFilled n tree map) (all_before c.loop-next.next c.in_default.not-Some) c.loop-next.invariant.filled) c.loop-next.invariant.stored
