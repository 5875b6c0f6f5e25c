use Rattle.std.proofs.Common.{sym, subst}
use Rattle.std.specs.Arc.{arc_value}
use Rattle.std.proofs.lemmas.Result.{IfOk-weaker}
use Rattle.page_core.specs.Stored.{stored_pages}
use Rattle.part_tree.specs.Canonical.{IsCanonical}
use Rattle.part_tree.proofs.Formed.{canonical_form}
use Rattle.page_tree.specs.Blocks.{page_of_top}
use Rattle.page_tree.proofs.Sides.{below_root, below_top}
use Rattle.page_tree.proofs.Whole.{top_pages, memory_pages}
use Rattle.page_tree.proofs.tree.PageTree.open.Goals as goal

pub open_below-requires-clause-below : goal.open_below-requires-clause-below
open_below-requires-clause-below g c κs within = below_root 0 c.args.pages.now c.requires.ascending

pub returns-clause-canonical : goal.returns-clause-canonical
returns-clause-canonical g c =
    let H = g.D.Digester.digest_of in
    let top = arc_value c.self.inside.top in
    let memory = memory_pages (page_of_top top) c.args.self.now c.self.view_is (λ n. top_pages H top n c.self.invariant.0) in
    let form = canonical_form H (stored_pages c.args.self.now) c.args.pages.now g.D.Digester.is_digest memory (below_top 0 c.args.pages.now c.requires.ascending) c.requires.some c.requires.few in
    IfOk-weaker c.open_below.result _ _ (λ tree is. subst IsCanonical (sym is) form) c.open_below.ensures
