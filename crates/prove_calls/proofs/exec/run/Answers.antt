use Rattle.std.proofs.Common.{length, ap, subst, ◌∙◌}
use Rattle.elf_image.specs.Loaded.{image_of}
use Rattle.flat_machine.specs.Going.{IsRunEnd}
use Rattle.cli_text.specs.declared.status.Status.TheVariants.{Done, Refused}
use Rattle.prove_calls.specs.Exec.{IsExecuted}
use Rattle.prove_calls.proofs.Told.{ended_told, halted_lines_are, halted_told, faulted_told, over_told}
use Rattle.prove_calls.proofs.exec.run.Goals as goal

pub returns-in-Halted-clause-executed : goal.returns-in-Halted-clause-executed
returns-in-Halted-clause-executed c =
    let image = image_of c.args.image in
    let words = c.args.words.items in
    let ends = subst (IsRunEnd c.run.new.self image words c.args.limit) c.in-Halted.is (c.in_ok-code.ensures.outcome image words c.new-flat.ensures.stands) in
    let lines = c.in_ok-lines-in-Halted.lines in
    let same =
    halted_lines_are c.run.new.self c.in-Halted.code c.steps.result c.cycles.result c.as_slice.result.now c.len.result c.steps.ensures c.cycles.ensures (c.as_slice.ensures ∙ c.journal.ensures)
    (c.len.ensures ∙ ap length c.calls.ensures) in
    ended_told (IsExecuted image words c.args.limit) c.new.result Done lines c.new.ensures
    (halted_told c.run.new.self image words c.args.limit lines.items c.in-Halted.code ends (c.in_ok-lines-in-Halted.ensures ∙ same)) tt

pub returns-in-Faulted-clause-executed : goal.returns-in-Faulted-clause-executed
returns-in-Faulted-clause-executed c =
    let image = image_of c.args.image in
    let words = c.args.words.items in
    let ends = subst (IsRunEnd c.run.new.self image words c.args.limit) c.in-Faulted.is (c.in_ok-code.ensures.outcome image words c.new-flat.ensures.stands) in
    let lines = c.in_ok-lines-in-Faulted.lines in
    ended_told (IsExecuted image words c.args.limit) c.new-in-Faulted.result Refused lines c.new-in-Faulted.ensures
    (faulted_told c.run.new.self image words c.args.limit lines.items c.in-Faulted.fault c.in-Faulted.pc c.in-Faulted.step ends c.in_ok-lines-in-Faulted.ensures) tt

pub returns-clause-executed : goal.returns-clause-executed
returns-clause-executed c =
    let image = image_of c.args.image in
    let words = c.args.words.items in
    let ends = subst (IsRunEnd c.run.new.self image words c.args.limit) c.in-OverLimit.is (c.in_ok-code.ensures.outcome image words c.new-flat.ensures.stands) in
    let lines = c.in_ok-lines-in-OverLimit.lines in
    ended_told (IsExecuted image words c.args.limit) c.new-in-OverLimit.result Refused lines c.new-in-OverLimit.ensures
    (over_told c.run.new.self image words c.args.limit lines.items c.in-OverLimit.step ends c.in_ok-lines-in-OverLimit.ensures) tt
