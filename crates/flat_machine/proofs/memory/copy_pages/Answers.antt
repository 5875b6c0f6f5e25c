use Rattle.std.proofs.Common.{sym, arith}
use Rattle.flat_machine.specs.Layers.{Layers}
use Rattle.flat_machine.proofs.Layered.{first_after, lifted_more, lifted_first, copied_all, opened_none}
use Rattle.flat_machine.proofs.memory.copy_pages.Goals as goal
use Rattle.flat_machine.proofs.memory.copy_pages.Goals.{then-not-is_open+in_ok-open, else-not-is_open}

pub open-requires : goal.open-requires
open-requires c = (first_after c.args.below.now 0 c.loop-number.least c.in-Some.number c.in-Some.page.now c.in-Some.ensures.stored c.in-Some.ensures.found).1.below

pub overflow_add-least : goal.overflow_add-least
overflow_add-least c =
    let first = first_after c.args.below.now 0 c.loop-number.least c.in-Some.number c.in-Some.page.now c.in-Some.ensures.stored c.in-Some.ensures.found in
    omega (arith, first.1.below)

pub loop-number-smaller : goal.loop-number-smaller
loop-number-smaller c =
    let first = first_after c.args.below.now 0 c.loop-number.least c.in-Some.number c.in-Some.page.now c.in-Some.ensures.stored c.in-Some.ensures.found in
    omega (arith, first.1.below, first.1.from)

pub loop-number-preserved : goal.loop-number-preserved
loop-number-preserved c =
    let first = first_after c.args.below.now 0 c.loop-number.least c.in-Some.number c.in-Some.page.now c.in-Some.ensures.stored c.in-Some.ensures.found in
    let old : Layers = record { above = c.args.above.now; below = c.args.below.now } in
    let now : Layers = record { above = c.loop-number.above; below = c.args.below.now } in
    elim c.if-not-is_open.branch [
      | then-not-is_open+in_ok-open w ↦ rw w.above-is
          (lifted_first old now w.open.new.self c.loop-number.least c.in-Some.number c.in-Some.page.now c.loop-number.invariant first.1
          (sym w.if-not-is_open.ensures) w.in_ok-open.ensures.opened w.in_ok-open.ensures.others)
      | else-not-is_open w ↦ rw w.above-is
          (lifted_more old now c.loop-number.least c.in-Some.number c.in-Some.page.now c.loop-number.invariant first.1 (sym w.if-not-is_open.ensures))
    ]

pub returns-in_err-open-clause-same : goal.returns-in_err-open-clause-same
returns-in_err-open-clause-same c =
    opened_none (record { above = c.args.above.now; below = c.args.below.now }) (record { above = c.loop-number.above; below = c.args.below.now }) c.open.new.self c.loop-number.least c.loop-number.invariant c.in_err-open.ensures.kept

pub returns-clause-same : goal.returns-clause-same
returns-clause-same c = c.loop-number.invariant.same

pub returns-clause-copied : goal.returns-clause-copied
returns-clause-copied c =
    copied_all (record { above = c.args.above.now; below = c.args.below.now }) (record { above = c.loop-number.above; below = c.args.below.now }) c.loop-number.least c.loop-number.invariant c.in_default.ensures.found
