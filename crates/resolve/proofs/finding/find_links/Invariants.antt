use Rattle.resolve.proofs.Links.{LinksSoFar}
use Rattle.resolve.proofs.finding.find_links.Given as goal

abbrev pub invariant-loop-call : goal.invariant-loop-call
invariant-loop-call g l = LinksSoFar g.D.Digester.digest_of l.claims l.calls l.call-index l.links.items
