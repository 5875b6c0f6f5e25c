use Rattle.std.proofs.Common.{Option, map, inl, inr, sym, subst}
use Rattle.std.specs.Prelude.{string_bytes}
use Rattle.outside.specs.Files.{Files}
use Rattle.cli_text.specs.CheckWords.{NamesCheck, NamesNoCheck}
use Rattle.command_frame.specs.Ends.{HasCause}
use Rattle.command_frame.proofs.Causes.{cause_wider, silent_fault}
use Rattle.check_calls.specs.Top.{IsCheckUsage, CheckJobTable, CheckTable}
use Rattle.check_calls.proofs.top.answer.Goals as goal

pub returns-in-Ok-Some-clause-answer : goal.returns-in-Ok-Some-clause-answer
returns-in-Ok-Some-clause-answer g c =
    let H = g.D.Digester.digest_of in
    let words = map string_bytes c.args.words.now in
    let told : Option Files = g.K.Desk.contents c.args.desk.now in
    let job = c.in-Ok-Some.job in
    let names : NamesCheck words job = rw c.in-Ok-Some.field-0-is at c.in-Ok-Some.ensures.some in
    cause_wider (CheckJobTable H job told) (CheckTable H words told) (λ status lines kept answers. inr (record { job = job; names = names; answers = answers })) c.ended.result
    (subst (HasCause (CheckJobTable H job told)) (sym c.ended.ensures) c.answer_job.ensures.answer)

pub returns-in-Ok-Some-clause-fault : goal.returns-in-Ok-Some-clause-fault
returns-in-Ok-Some-clause-fault g c fault =
    let names : NamesCheck (map string_bytes c.args.words.now) c.in-Ok-Some.job = rw c.in-Ok-Some.field-0-is at c.in-Ok-Some.ensures.some in
    (record { job = c.in-Ok-Some.job; names = names }, c.answer_job.ensures.fault (silent_fault c.answer_job.result c.ended.result c.ended.ensures fault))

pub returns-in-Ok-None-clause-answer : goal.returns-in-Ok-None-clause-answer
returns-in-Ok-None-clause-answer g c =
    let H = g.D.Digester.digest_of in
    let words = map string_bytes c.args.words.now in
    let told : Option Files = g.K.Desk.contents c.args.desk.now in
    let none : NamesNoCheck words = rw c.in-Ok-None.field-0-is at c.in-Ok-None.ensures.none in
    cause_wider IsCheckUsage (CheckTable H words told) (λ status lines kept usage. inl (none, usage)) c.ended-in-Ok-None.result
    (subst (HasCause IsCheckUsage) (sym c.ended-in-Ok-None.ensures) c.usage.ensures.usage)

pub returns-in-Ok-None-clause-fault : goal.returns-in-Ok-None-clause-fault
returns-in-Ok-None-clause-fault g c fault =
    absurd (c.usage.ensures.no_fault (silent_fault c.usage.result c.ended-in-Ok-None.result c.ended-in-Ok-None.ensures fault))
