use Rattle.std.proofs.Common.{◌≡◌, ◌++◌, length, map, take}
use Rattle.resolve.specs.Parts.{raised_report}
use Rattle.resolve.proofs.reporting.add_reports.Given as goal

abbrev pub invariant-loop-report : goal.invariant-loop-report
invariant-loop-report l = l.entries.items ≡ l.initial.entries.items ++ map (raised_report (length l.initial.entries.items)) (take l.report-index l.reports)
