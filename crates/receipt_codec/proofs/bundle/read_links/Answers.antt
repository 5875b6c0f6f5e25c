use Rattle.std.proofs.Common.{rules, arith}
use Rattle.receipt_codec.proofs.Entries.{no_links, short_link, bad_link}
use Rattle.receipt_codec.proofs.bundle.read_links.Goals as goal
use Rattle.receipt_codec.proofs.bundle.read_links.Goals.{then-link-number-via-then-link-number, then-link-number-via-else-link-number+then-link-count}

pub returns-in_err-link-clause-malformed : goal.returns-in_err-link-clause-malformed
returns-in_err-link-clause-malformed c =
    λ _.
    no_links c.args.number c.args.count c.args.many c.loop.links.items _ c.loop.cursor (search rules) (search rules) c.loop.invariant.0.each c.loop.invariant.1
    (short_link c.args.number c.args.count c.loop.cursor (search rules))

pub returns-then-link-number-clause-malformed : goal.returns-then-link-number-clause-malformed
returns-then-link-number-clause-malformed c =
    λ _.
    no_links c.args.number c.args.count c.args.many c.loop.links.items _ c.loop.cursor (search rules) (search rules) c.loop.invariant.0.each c.loop.invariant.1
    (bad_link c.args.number c.args.count c.in_ok-link.link c.loop.cursor c.take_u16.new.self (search rules) (search rules) (search rules)
    (λ is_link. elim c.then-link-number.branch [
      | then-link-number-via-then-link-number w ↦ omega (arith, is_link.0, w.if-link-number)
      | then-link-number-via-else-link-number+then-link-count w ↦ omega (arith, is_link.1, w.if-link-count)
    ]))
