use Rattle.std.proofs.Common.{◌++◌, sym, ap₂, ◌∙◌, arith}
use Rattle.page_core.specs.Stored.{stored_pages}
use Rattle.part_tree.proofs.Below.{sides_fit}
use Rattle.collide.proofs.Nodes.{node_string-above}
use Rattle.collide.proofs.strings.inner_string.Goals as goal

pub node_at-left-requires-clause-fits : goal.node_at-left-requires-clause-fits
node_at-left-requires-clause-fits g c κs within =
    omega (arith, sides_fit c.args.height c.args.index c.requires.some c.requires.low c.requires.fits)

pub node_at-right-requires-clause-fits : goal.node_at-right-requires-clause-fits
node_at-right-requires-clause-fits g c κs within =
    sides_fit c.args.height c.args.index c.requires.some c.requires.low c.requires.fits

pub returns : goal.returns
returns g c =
    c.joined.ensures ∙ ap₂ ◌++◌ c.node_at-left.ensures c.node_at-right.ensures
    ∙ sym (node_string-above g.D.Digester.digest_of (stored_pages c.args.real.now) c.args.height c.args.index c.requires.some)
