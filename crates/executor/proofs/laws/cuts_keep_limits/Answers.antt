use Rattle.executor.proofs.Limited as Limited
use Rattle.executor.proofs.laws.cuts_keep_limits.Goals as goal

pub returns : goal.returns
returns g c = Limited.cuts_keep_limits g.D.Digester.digest_of g.D.Digester.is_digest
