use Rattle.part_tree.proofs.Change as Change
use Rattle.part_tree.proofs.laws.put_keeps_agreement.Goals as goal

pub returns-clause-agreement : goal.returns-clause-agreement
returns-clause-agreement g c = Change.put_keeps_agreement g.D.Digester.digest_of

pub returns-clause-strings : goal.returns-clause-strings
returns-clause-strings g c = Change.put_has_new_strings g.D.Digester.digest_of
