use Rattle.session.proofs.Chains as Chains
use Rattle.session.proofs.laws.segments_chain.Goals as goal

pub returns-clause-halted : goal.returns-clause-halted
returns-clause-halted g c = Chains.cuts_chain g.D.Digester.digest_of

pub returns-clause-split : goal.returns-clause-split
returns-clause-split g c = Chains.stretches_chain g.D.Digester.digest_of

pub returns-clause-segments : goal.returns-clause-segments
returns-clause-segments g c = Chains.segments_chain g.D.Digester.digest_of
