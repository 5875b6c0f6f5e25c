use Rattle.std.proofs.Common.{◌∙◌}
use Rattle.receipt_codec.proofs.Written.{entry_limits}
use Rattle.receipt_codec.proofs.writer.write_bundle.Goals as goal

pub put_entry-requires-clause-few_links : goal.put_entry-requires-clause-few_links
put_entry-requires-clause-few_links c =
    let here =
    entry_limits c.args.bundle.now c.as_slice-entries.result.now c.loop-entry.entry-index c.entry-item.result c.requires (c.as_slice-entries.ensures ∙ c.bundle.view_is) c.loop-entry-test.true
    c.entry-item.is in
    here.1.few_links

pub put_entry-requires-clause-few_seals : goal.put_entry-requires-clause-few_seals
put_entry-requires-clause-few_seals c =
    let here =
    entry_limits c.args.bundle.now c.as_slice-entries.result.now c.loop-entry.entry-index c.entry-item.result c.requires (c.as_slice-entries.ensures ∙ c.bundle.view_is) c.loop-entry-test.true
    c.entry-item.is in
    here.1.few_seals

pub put_entry-requires-clause-seals : goal.put_entry-requires-clause-seals
put_entry-requires-clause-seals c =
    let here =
    entry_limits c.args.bundle.now c.as_slice-entries.result.now c.loop-entry.entry-index c.entry-item.result c.requires (c.as_slice-entries.ensures ∙ c.bundle.view_is) c.loop-entry-test.true
    c.entry-item.is in
    here.1.seals
