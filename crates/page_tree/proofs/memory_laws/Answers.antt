use Rattle.std.proofs.Common.{ap}
use Rattle.part_tree.proofs.Change.{same_pages}
use Rattle.page_tree.proofs.Parted.{same_part}
use Rattle.page_tree.proofs.memory_laws.Goals as goal

pub returns-clause-nodes : goal.returns-clause-nodes
returns-clause-nodes g c m m' h i same = ap g.D.Digester.digest_of (same_pages g.D.Digester.digest_of m m' h i same).0

pub returns-clause-parts : goal.returns-clause-parts
returns-clause-parts g c = same_part g.D.Digester.digest_of
