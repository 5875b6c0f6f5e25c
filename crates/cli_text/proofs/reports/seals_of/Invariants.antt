use Rattle.std.proofs.Common.{◌≡◌, ◌≤◌, ◌*◌, take}
use Rattle.std.specs.Prelude.{sum_by}
use Rattle.cli_text.proofs.reports.seals_of.Given as goal

abbrev pub invariant-loop-entry : goal.invariant-loop-entry
invariant-loop-entry l = (l.seals ≡ sum_by (λ entry. entry.seals) (take l.entry-index l.entries)) × (l.seals ≤ 18446744073709551615 * l.entry-index)
