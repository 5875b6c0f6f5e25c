use Rattle.std.proofs.Common.{◌≡◌, Some, length, take}
use Rattle.check_core.specs.Reports.{entry_reports}
use Rattle.check_core.proofs.reporting.entry_reports.Given as goal

abbrev pub invariant-loop-entry : goal.invariant-loop-entry
invariant-loop-entry g l = entry_reports g.D.Digester.digest_of (take (length l.yielded) l.bundle) ≡ Some l.reports.items
