use Rattle.std.proofs.Common.{ℕ, Option, List, ap, ◌∙◌}
use Rattle.std.specs.Prelude.{unwrap_or}
use Rattle.std.specs.Arc.{arc_value}
use Rattle.page_core.specs.Pages.{zero_page}
use Rattle.page_tree.specs.Blocks.{memory_by, page_of_middle, page_of_top, IsMiddle}
use Rattle.page_tree.proofs.Children.{zero_block, none_found}
use Rattle.page_tree.proofs.Unstored.{zeros_below}
use Rattle.page_tree.proofs.Whole.{none_whole}
use Rattle.page_tree.proofs.tree.PageTree.empty.Goals as goal

pub invariant_of-result : goal.invariant_of-result
invariant_of-result g c =
    let H = g.D.Digester.digest_of in
    let block = c.in_ok-block.block in
    let made = c.in_ok-block.ensures in
    rw c.in-Ok.ensures.ok (
      zero_block H page_of_middle 12 (IsMiddle H) block.digests block.children.items made.long made.children (λ k x most. rw made.digests (c.zero_digests.ensures k x most)),
      c.at-root.ensures ∙ zeros_below H (memory_by (page_of_top block)) 18 0 0 (λ n below. ap (λ (o : Option (List ℕ)). unwrap_or o zero_page) (none_found H page_of_middle 12 block.children.items made.children n)),
    )

pub returns : goal.returns
returns g c =
    none_whole (page_of_top (arc_value c.in-Ok.top)) 0 262144
    (λ n. rw c.in-Ok.ensures.ok (none_found g.D.Digester.digest_of page_of_middle 12 c.in_ok-block.block.children.items c.in_ok-block.ensures.children n))
