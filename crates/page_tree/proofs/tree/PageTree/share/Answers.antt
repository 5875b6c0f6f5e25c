use Rattle.std.specs.Arc.{arc_value}
use Rattle.page_tree.specs.Blocks.{page_of_top}
use Rattle.page_tree.proofs.Whole.{top_pages, memory_pages}
use Rattle.page_tree.proofs.tree.PageTree.share.Goals as goal

pub returns-in_err-try_clone-clause-pages : goal.returns-in_err-try_clone-clause-pages
returns-in_err-try_clone-clause-pages g c =
    let top = arc_value c.self.inside.top in
    memory_pages (page_of_top top) c.args.self.now c.self.view_is (λ n. top_pages g.D.Digester.digest_of top n c.self.invariant.0)

pub returns-clause-pages : goal.returns-clause-pages
returns-clause-pages g c =
    let top = arc_value c.self.inside.top in
    memory_pages (page_of_top top) c.args.self.now c.self.view_is (λ n. top_pages g.D.Digester.digest_of top n c.self.invariant.0)
