use Rattle.std.proofs.Common.{ap}
use Rattle.std.specs.Prelude.{decimal}
use Rattle.serde_json.specs.Written.{has_float, compact_text}
use Rattle.inspect_json.proofs.Lists.{one_more}
use Rattle.inspect_json.proofs.values.link_values.Goals as goal

pub loop-link-preserved : goal.loop-link-preserved
loop-link-preserved c =
    one_more decimal c.args.links.now c.loop-link.link-index 0 c.loop-link.values.items c.from.result c.push.new.self.items c.loop-link-test.true c.loop-link.invariant
    (ap has_float c.from.ensures, ap compact_text c.from.ensures) c.in_ok-push.ensures.items
