use Rattle.std.proofs.Common.{◌≡◌, ◌++◌, map, take}
use Rattle.resolve.proofs.finding.add_claims.Given as goal

abbrev pub invariant-loop-report : goal.invariant-loop-report
invariant-loop-report l = l.claims.items ≡ l.initial.claims.items ++ map (λ report. report.claim) (take l.report-index l.reports)
