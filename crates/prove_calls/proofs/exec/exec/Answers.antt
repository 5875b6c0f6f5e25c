use Rattle.std.proofs.Common.{rules, ◌≡◌, Option, Err}
use Rattle.outside.specs.Files.{Files}
use Rattle.elf_image.specs.Loaded.{image_of}
use Rattle.command_frame.proofs.Causes.{ended_by}
use Rattle.prove_calls.specs.Exec.{ExecAsked, AnswersExec}
use Rattle.prove_calls.proofs.Answering.{guest_named, none_named, exec_none, exec_run}
use Rattle.prove_calls.proofs.exec.exec.Goals as goal

pub returns-in_err-guest-clause-answer : goal.returns-in_err-guest-clause-answer
returns-in_err-guest-clause-answer g c =
    let told : Option Files = g.K.Desk.contents c.args.desk.now in
    let asked : ExecAsked = record { elf = c.args.elf.now; input = c.args.input.now; limit = c.args.limit } in
    let end = c.in_err-guest.field-0.0 in
    let is : c.from_residual.result ≡ Err end = search rules in
    ended_by (AnswersExec asked told) c.from_residual.result end is
    (exec_none asked told end (none_named c.as_str.result.now asked.elf c.as_str-2.result.now asked.input c.as_str.ensures.value c.as_str-2.ensures.value told end c.in_err-guest.ensures.none))

pub returns-clause-answer : goal.returns-clause-answer
returns-clause-answer g c =
    let told : Option Files = g.K.Desk.contents c.args.desk.now in
    let asked : ExecAsked = record { elf = c.args.elf.now; input = c.args.input.now; limit = c.args.limit } in
    let image = image_of c.in_ok-guest.guest.image in
    let words = c.in_ok-guest.guest.words.items in
    exec_run asked told image words (guest_named c.as_str.result.now asked.elf c.as_str-2.result.now asked.input c.as_str.ensures.value c.as_str-2.ensures.value told image words c.in_ok-guest.ensures.guest) c.run.result c.run.ensures.executed
