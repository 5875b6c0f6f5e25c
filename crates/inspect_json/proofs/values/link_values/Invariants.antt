use Rattle.std.proofs.Common.{map, take}
use Rattle.std.specs.Prelude.{decimal}
use Rattle.inspect_json.specs.Values.{HaveTexts}
use Rattle.inspect_json.proofs.values.link_values.Given as goal

abbrev pub invariant-loop-link : goal.invariant-loop-link
invariant-loop-link l = HaveTexts l.values.items (map decimal (take l.link-index l.links))
