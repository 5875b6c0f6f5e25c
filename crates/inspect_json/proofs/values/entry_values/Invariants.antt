use Rattle.std.proofs.Common.{map, take}
use Rattle.inspect_json.specs.Text.{entry_text}
use Rattle.inspect_json.specs.Values.{HaveTexts}
use Rattle.inspect_json.proofs.values.entry_values.Given as goal

abbrev pub invariant-loop-entry : goal.invariant-loop-entry
invariant-loop-entry l = HaveTexts l.values.items (map entry_text (take l.entry-index l.entries))
