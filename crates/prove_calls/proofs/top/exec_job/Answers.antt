use Rattle.std.proofs.Common.{Option}
use Rattle.outside.specs.Files.{Files}
use Rattle.prove_calls.proofs.Jobs.{exec_alone_job}
use Rattle.prove_calls.proofs.top.exec_job.Goals as goal

pub returns-in-Exec-clause-answer : goal.returns-in-Exec-clause-answer
returns-in-Exec-clause-answer g c =
    let told : Option Files = g.K.Desk.contents c.args.desk.now in
    let job = c.in-Exec in
    exec_alone_job told c.exec.result c.args.job job.elf job.input job.limit job.is c.exec.ensures.answer
