use Rattle.std.proofs.Common.{subst}
use Rattle.check_core.specs.Reports.{EntryReport}
use Rattle.inspect_json.specs.Text.{entry_text}
use Rattle.inspect_json.specs.Values.{HasText}
use Rattle.inspect_json.proofs.Lists.{one_more}
use Rattle.inspect_json.proofs.values.entry_values.Goals as goal

pub loop-entry-preserved : goal.loop-entry-preserved
loop-entry-preserved c =
    let value = c.in_ok-entry_value.field-0 in
    one_more entry_text c.args.entries.now c.loop-entry.entry-index c.entry-item.result c.loop-entry.values.items value c.push.new.self.items c.loop-entry-test.true c.loop-entry.invariant
    (subst (λ (entry : EntryReport). HasText value (entry_text entry)) c.entry-item.is c.in_ok-entry_value.ensures) c.in_ok-push.ensures.items
