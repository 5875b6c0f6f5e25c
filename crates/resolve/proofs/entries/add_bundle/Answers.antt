use Rattle.std.proofs.Common.{◌∙◌, arith}
use Rattle.receipt_codec.proofs.Written.{entry_limits}
use Rattle.resolve.proofs.entries.add_bundle.Goals as goal

pub raised-requires : goal.raised-requires
raised-requires c k d inside =
    let (at, limits) =
    entry_limits c.args.bundle.now c.as_slice-entry-items.result.now c.loop-entry.entry-index c.entry-item.result c.requires.limits
    (c.as_slice-entry-items.ensures ∙ c.bundle.view_is) c.loop-entry-test.true c.entry-item.is in
    let (above, below) = limits.links k d inside in
    let number = c.len-first.ensures in
    let few = c.requires.few in
    omega (arith, number, below, few)
