use Rattle.std.proofs.Common.{ap, ◌∙◌}
use Rattle.std.specs.Option.{option_or}
use Rattle.std.specs.Arc.{arc_value}
use Rattle.page_tree.specs.Blocks.{page_of_middle, page_of_top}
use Rattle.page_tree.specs.Changes.{last_of}
use Rattle.page_tree.proofs.Children.{same_found}
use Rattle.page_tree.proofs.Merged.{none_with_all}
use Rattle.page_tree.proofs.Whole.{whole_with_all}
use Rattle.page_tree.proofs.tree.PageTree.update.Goals as goal

pub returns-then-is_empty-clause-updated : goal.returns-then-is_empty-clause-updated
returns-then-is_empty-clause-updated g c =
    none_with_all c.args.self.now c.args.pages.now c.is_empty.result c.is_empty.ensures c.if-is_empty.true

pub returns-clause-updated : goal.returns-clause-updated
returns-clause-updated g c =
    let old = arc_value c.self.inside.top in
    let block = c.in_ok-block.block in
    whole_with_all (page_of_top old) (page_of_top (arc_value c.in-Ok.top)) c.args.self.now c.args.pages.now c.self.view_is c.requires
    (λ n. rw c.in-Ok.ensures.ok (
    c.in_ok-root.ensures.pages n
    ∙ ap (option_or (last_of 262144 n c.args.pages.now))
    (same_found g.D.Digester.digest_of page_of_middle 12 old.children.items block.children.items (λ k. rw c.deref.ensures at (c.in_ok-block.ensures.children k)) n)))
