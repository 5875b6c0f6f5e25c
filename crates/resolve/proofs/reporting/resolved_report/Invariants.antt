use Rattle.resolve.proofs.Reported.{ReportsSoFar}
use Rattle.resolve.proofs.reporting.resolved_report.Given as goal

abbrev pub invariant-loop-other : goal.invariant-loop-other
invariant-loop-other g l = ReportsSoFar g.D.Digester.digest_of l.bundle l.others l.other-index l.entries.items
