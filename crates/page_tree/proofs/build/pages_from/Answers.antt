use Rattle.std.proofs.Common.{◌≡◌, ◌+◌, ◌-◌, ◌++◌, ℕ, List, suc, [], sym, ap, ◌∙◌, arith}
use Rattle.page_core.specs.Stored.{stored_at}
use Rattle.page_tree.specs.Grown.{found_before, gathered}
use Rattle.page_tree.proofs.Merged.{gathered_zero, gathered_more}
use Rattle.page_tree.proofs.build.pages_from.Goals as goal

pub loop-number-init : goal.loop-number-init
loop-number-init c =
    let none : c.args.first - c.args.first ≡ 0 = omega arith in
    c.new-pages.ensures.items ∙ sym (ap (gathered (stored_at c.args.map.now) c.args.first) none ∙ gathered_zero (stored_at c.args.map.now) c.args.first)

pub loop-number-preserved : goal.loop-number-preserved
loop-number-preserved c =
    let first = c.args.first in
    let number = c.loop-number.number in
    let found = stored_at c.args.map.now in
    let more : number + 1 - first ≡ suc (number - first) = omega arith in
    let here : number ≡ first + (number - first) = omega arith in
    c.in_ok-push_page.ensures
    ∙ ap (λ (l : List (ℕ × List ℕ)). l ++ found_before number (found number) []) c.loop-number.invariant
    ∙ ap (λ (n : ℕ). gathered found first (number - first) ++ found_before n (found n) []) here
    ∙ sym (ap (gathered found first) more ∙ gathered_more found first (number - first))
