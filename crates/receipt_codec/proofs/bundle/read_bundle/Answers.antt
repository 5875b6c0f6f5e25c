use Rattle.std.proofs.Common.{rules}
use Rattle.std.proofs.lemmas.Result.{err_from_is_err_and}
use Rattle.receipt_codec.proofs.Entries.{entries_kept}
use Rattle.receipt_codec.proofs.Wholes.{begins_so, no_next_entry, more_than_bundle, is_bundle}
use Rattle.receipt_codec.proofs.bundle.read_bundle.Goals as goal

pub returns-in_err-entry-clause-malformed : goal.returns-in_err-entry-clause-malformed
returns-in_err-entry-clause-malformed c =
    λ e.
    let out = c.from_residual in
    let p = err_from_is_err_and out.result out.ensures.1 in
    no_next_entry c.in-Some-take_u16.count c.loop-number.entries.items _ c.take_u16-2.new.self c.loop-number.cursor (search rules)
    (begins_so _ c.in-Some-SEAL.field-0.now c.take.new.self c.take_u16.new.self c.take_u16-2.new.self c.in-Some-eq1.field-0 c.in-Some-take_u16.count (search rules) (search rules)
    (search rules) (search rules) (search rules) (search rules) (search rules) c.in-Some-eq1.field-0-test (search rules))
    c.loop-number.invariant.1 c.loop-number.invariant.2
    c.loop-number.number c.loop-number.invariant.0 (search rules) (c.in_err-entry.ensures.malformed (search (rules, p.1, p.2)))

pub loop-number-preserved : goal.loop-number-preserved
loop-number-preserved c =
    entries_kept c.in-Some-take_u16.count c.loop-number.number c.loop-number.entries.items c.push.new.self.items c.in_ok-entry.entry _ c.loop-number.cursor c.read_entry.new.cursor
    c.loop-number.invariant.0 c.loop-number.invariant.1 (search rules) (search rules) c.loop-number.invariant.2 (search rules)

pub returns-then-left-ne0-clause-malformed : goal.returns-then-left-ne0-clause-malformed
returns-then-left-ne0-clause-malformed c =
    λ _.
    more_than_bundle c.in-Some-take_u16.count c.loop-number.entries.items _ c.take_u16-2.new.self c.loop-number.cursor (search rules)
    (begins_so _ c.in-Some-SEAL.field-0.now c.take.new.self c.take_u16.new.self c.take_u16-2.new.self c.in-Some-eq1.field-0 c.in-Some-take_u16.count (search rules) (search rules)
    (search rules) (search rules) (search rules) (search rules) (search rules) c.in-Some-eq1.field-0-test (search rules))
    c.loop-number.invariant.1 c.loop-number.invariant.2 (search rules)
    (search rules)

pub returns-clause-spells : goal.returns-clause-spells
returns-clause-spells c =
    is_bundle c.in-Some-take_u16.count c.loop-number.entries.items _ c.take_u16-2.new.self c.loop-number.cursor (search rules)
    (begins_so _ c.in-Some-SEAL.field-0.now c.take.new.self c.take_u16.new.self c.take_u16-2.new.self c.in-Some-eq1.field-0 c.in-Some-take_u16.count (search rules) (search rules)
    (search rules) (search rules) (search rules) (search rules) (search rules) c.in-Some-eq1.field-0-test (search rules))
    c.loop-number.invariant.1 c.loop-number.invariant.2 (search rules)
    (search rules) (search rules)
