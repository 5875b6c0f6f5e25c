use Rattle.std.proofs.Common.{sym, refl}
use Rattle.page_core.specs.Stored.{stored_pages}
use Rattle.part_tree.specs.Views.{part}
use Rattle.part_tree.proofs.Splits.{agree_unsplit}
use Rattle.audit.proofs.walk.compare_tree.Goals as goal

pub returns-in_default-clause-pair : goal.returns-in_default-clause-pair
returns-in_default-clause-pair g c =
    sym (agree_unsplit g.D.Digester.digest_of (stored_pages c.args.real.now) 18 0 (part c.args.tree.now) (c.in_default.ensures.agrees.0 refl))

pub returns-in_default-clause-agrees : goal.returns-in_default-clause-agrees
returns-in_default-clause-agrees g c = c.in_default.ensures.agrees.0 refl
