use Rattle.std.proofs.Common.{◌≡◌, ℕ, ◌+◌, suc, List, ◌++◌, get_or, take, sym, ap, ap₂, ◌∙◌, arith}
use Rattle.page_core.specs.Memories.{page_of}
use Rattle.page_core.specs.Pages.{Pages}
use Rattle.page_core.specs.Stored.{Stored, stored_pages}
use Rattle.rv_step.specs.Machine.{full}
use Rattle.flat_machine.specs.Going.{flat_state}
use Rattle.flat_machine.specs.Following.{changed, changed_page}
use Rattle.flat_machine.proofs.Followed.{changed_none, changed_more}
use Rattle.flat_machine.proofs.following.changed_pages.Goals as goal

pub loop-page-init : goal.loop-page-init
loop-page-init g c = c.new-list.ensures.items ∙ sym (changed_none (stored_pages c.args.tree.now) (page_of (full (flat_state c.args.flat.now))))

pub loop-page-preserved : goal.loop-page-preserved
loop-page-preserved g c =
    let old : Pages = stored_pages c.args.tree.now in
    let new : Pages = page_of (full (flat_state c.args.flat.now)) in
    let pages : List ℕ = c.args.pages.now in
    let i : ℕ = c.loop-page.page-index in
    let next : i + 1 ≡ suc i = omega arith in
    c.in_ok-push_changed.ensures
    ∙ ap₂ (λ (list : Stored) (page : List ℕ). list ++ changed_page (get_or pages i 0) (old (get_or pages i 0)) page) c.loop-page.invariant c.full_page.ensures
    ∙ sym (ap (λ (n : ℕ). changed old new (take n pages)) next ∙ changed_more old new pages i (omega arith))
