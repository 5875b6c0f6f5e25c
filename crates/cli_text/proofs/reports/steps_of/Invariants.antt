use Rattle.std.proofs.Common.{◌≡◌, ◌≤◌, ◌*◌, take}
use Rattle.std.specs.Prelude.{sum_by}
use Rattle.cli_text.proofs.reports.steps_of.Given as goal

abbrev pub invariant-loop-entry : goal.invariant-loop-entry
invariant-loop-entry l = (l.steps ≡ sum_by (λ entry. entry.steps) (take l.entry-index l.entries)) × (l.steps ≤ 18446744073709551615 * l.entry-index)
