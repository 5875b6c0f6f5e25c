use Rattle.std.proofs.Common.{◌∙◌, arith}
use Rattle.std.specs.Arc.{arc_value}
use Rattle.page_tree.specs.Blocks.{page_of_top}
use Rattle.page_tree.proofs.Whole.{whole_page, no_page}
use Rattle.page_tree.proofs.tree.PageTree.page.Goals as goal

pub returns-then-page-lt-PAGES : goal.returns-then-page-lt-PAGES
returns-then-page-lt-PAGES g c =
    (rw c.deref.ensures at c.top_page.ensures) ∙ whole_page (page_of_top (arc_value c.self.inside.top)) c.args.self.now c.self.view_is c.args.page c.if-page-lt-PAGES.true

pub returns-else-page-lt-PAGES : goal.returns-else-page-lt-PAGES
returns-else-page-lt-PAGES g c = no_page (page_of_top (arc_value c.self.inside.top)) c.args.self.now c.self.view_is c.args.page (omega arith)
