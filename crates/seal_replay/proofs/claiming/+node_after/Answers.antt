use Rattle.std.proofs.Common.{rules, ◌≤◌, sym, ap, ◌∙◌, arith}
use Rattle.page_core.specs.Pages.{zero_page}
use Rattle.page_core.specs.Memories.{flat, page_of}
use Rattle.part_tree.specs.declared.tree.PartTree.{PartTree}
use Rattle.part_tree.specs.Part.{root_of, put_part}
use Rattle.part_tree.specs.Views.{part}
use Rattle.rv_step.specs.Opened.{pages_in}
use Rattle.part_tree.proofs.Below.{sides_fit}
use Rattle.seal_replay.proofs.Written.{open_shown, shut_shown}
use Rattle.seal_replay.proofs.claiming.+node_after.Goals as goal

pub node_after-left_digest-requires-clause-fits : goal.node_after-left_digest-requires-clause-fits
node_after-left_digest-requires-clause-fits g t c κs within =
    let some : 1 ≤ c.args.height = search rules in
    let fit = sides_fit c.args.height c.args.index some c.requires.low c.requires.fits in
    omega arith

pub node_after-right_digest-requires-clause-fits : goal.node_after-right_digest-requires-clause-fits
node_after-right_digest-requires-clause-fits g t c κs within =
    let some : 1 ≤ c.args.height = search rules in
    let fit = sides_fit c.args.height c.args.index some c.requires.low c.requires.fits in
    omega arith

pub returns-in-Some : goal.returns-in-Some
returns-in-Some g t c =
    c.hash.ensures
    ∙ ap g.D.Digester.digest_of (c.bytes.ensures.value ∙ sym (open_shown c.args.pages.now c.args.index c.in-Some.page.now c.in-Some.ensures c.bytes.ensures.page))
    ∙ ap (λ (tree : PartTree). root_of g.D.Digester.digest_of (put_part c.args.index (part tree) (page_of (flat (pages_in c.args.pages.now))))) (sym c.in-Leaf.is)

pub returns-in-None : goal.returns-in-None
unfolding zero_page
returns-in-None g t c =
    c.hash-in-None.ensures
    ∙ ap g.D.Digester.digest_of (sym (shut_shown c.args.pages.now c.args.index c.in-None.ensures))
    ∙ ap (λ (tree : PartTree). root_of g.D.Digester.digest_of (put_part c.args.index (part tree) (page_of (flat (pages_in c.args.pages.now))))) (sym c.in-Leaf.is)
