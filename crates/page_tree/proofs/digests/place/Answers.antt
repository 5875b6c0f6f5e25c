use Rattle.std.proofs.Common.{◌%◌, ◌+◌, ◌<◌, ℕ, sym, subst}
use Rattle.page_tree.proofs.Places.{place_most, place_inner}
use Rattle.page_tree.proofs.digests.place.Goals as goal

pub returns-clause-most : goal.returns-clause-most
returns-clause-most c = subst (λ (w : ℕ). w + c.args.index % w < 128) (sym c.nodes_of-width.ensures) (place_most c.args.height c.args.index)

pub returns-clause-inner : goal.returns-clause-inner
returns-clause-inner c some = subst (λ (w : ℕ). w + c.args.index % w < 64) (sym c.nodes_of-width.ensures) (place_inner c.args.height c.args.index some)
