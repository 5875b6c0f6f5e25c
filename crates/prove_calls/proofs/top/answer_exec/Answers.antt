use Rattle.std.proofs.Common.{Option, map, sym, subst}
use Rattle.std.specs.Prelude.{string_bytes}
use Rattle.outside.specs.Files.{Files}
use Rattle.cli_text.specs.ProveWords.{NamesProve, NamesNoProve}
use Rattle.command_frame.specs.Ends.{HasCause}
use Rattle.command_frame.proofs.Causes.{cause_wider, silent_fault}
use Rattle.prove_calls.specs.Top.{IsProveUsage, AnswersExecAlone, ExecTable}
use Rattle.prove_calls.proofs.Tops.{exec_alone, no_job_alone, names_run}
use Rattle.prove_calls.proofs.top.answer_exec.Goals as goal

pub returns-in-Ok-Some-clause-answer : goal.returns-in-Ok-Some-clause-answer
returns-in-Ok-Some-clause-answer g c =
    let words = map string_bytes c.args.words.now in
    let told : Option Files = g.K.Desk.contents c.args.desk.now in
    let job = c.in-Ok-Some.job in
    let names : NamesProve words job = rw c.in-Ok-Some.field-0-is at c.in-Ok-Some.ensures.some in
    cause_wider (AnswersExecAlone job told) (ExecTable words told) (exec_alone words told job names) c.ended.result
    (subst (HasCause (AnswersExecAlone job told)) (sym c.ended.ensures) c.exec_job.ensures.answer)

pub returns-in-Ok-Some-clause-fault : goal.returns-in-Ok-Some-clause-fault
returns-in-Ok-Some-clause-fault g c fault =
    let words = map string_bytes c.args.words.now in
    let names : NamesProve words c.in-Ok-Some.job = rw c.in-Ok-Some.field-0-is at c.in-Ok-Some.ensures.some in
    let (is, rose) = c.exec_job.ensures.fault (silent_fault c.exec_job.result c.ended.result c.ended.ensures fault) in
    (names_run words c.in-Ok-Some.job names is, rose)

pub returns-in-Ok-None-clause-answer : goal.returns-in-Ok-None-clause-answer
returns-in-Ok-None-clause-answer g c =
    let words = map string_bytes c.args.words.now in
    let told : Option Files = g.K.Desk.contents c.args.desk.now in
    let none : NamesNoProve words = rw c.in-Ok-None.field-0-is at c.in-Ok-None.ensures.none in
    cause_wider IsProveUsage (ExecTable words told) (no_job_alone words told none) c.ended-in-Ok-None.result
    (subst (HasCause IsProveUsage) (sym c.ended-in-Ok-None.ensures) c.usage.ensures.usage)

pub returns-in-Ok-None-clause-fault : goal.returns-in-Ok-None-clause-fault
returns-in-Ok-None-clause-fault g c fault =
    absurd (c.usage.ensures.no_fault (silent_fault c.usage.result c.ended-in-Ok-None.result c.ended-in-Ok-None.ensures fault))
