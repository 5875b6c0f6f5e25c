use Rattle.std.proofs.Common.{Option, map, inl, sym, subst}
use Rattle.std.specs.Prelude.{string_bytes}
use Rattle.outside.specs.Files.{Files}
use Rattle.cli_text.specs.ProveWords.{NamesProve, NamesNoProve}
use Rattle.command_frame.specs.Ends.{HasCause}
use Rattle.command_frame.proofs.Causes.{cause_wider, silent_fault}
use Rattle.prove_calls.specs.Top.{IsProveUsage, ProveJobTable, ProveTable}
use Rattle.prove_calls.proofs.Tops.{answers_some}
use Rattle.prove_calls.proofs.top.answer.Goals as goal

pub answer_job-requires-clause-named : goal.answer_job-requires-clause-named
answer_job-requires-clause-named g c κs within =
    let names : NamesProve (map string_bytes c.args.words.now) c.in-Ok-Some.job = rw c.in-Ok-Some.field-0-is at c.in-Ok-Some.ensures.some in
    (map string_bytes c.args.words.now, names)

pub returns-in-Ok-Some-clause-answer : goal.returns-in-Ok-Some-clause-answer
returns-in-Ok-Some-clause-answer g c =
    let H = g.D.Digester.digest_of in
    let words = map string_bytes c.args.words.now in
    let told : Option Files = g.K.Desk.contents c.args.desk.now in
    let job = c.in-Ok-Some.job in
    let names : NamesProve words job = rw c.in-Ok-Some.field-0-is at c.in-Ok-Some.ensures.some in
    cause_wider (ProveJobTable H job told) (ProveTable H words told) (answers_some H words told job names) c.ended.result
    (subst (HasCause (ProveJobTable H job told)) (sym c.ended.ensures) c.answer_job.ensures.answer)

pub returns-in-Ok-Some-clause-fault : goal.returns-in-Ok-Some-clause-fault
returns-in-Ok-Some-clause-fault g c fault =
    let names : NamesProve (map string_bytes c.args.words.now) c.in-Ok-Some.job = rw c.in-Ok-Some.field-0-is at c.in-Ok-Some.ensures.some in
    let (reads, rose) = c.answer_job.ensures.fault (silent_fault c.answer_job.result c.ended.result c.ended.ensures fault) in
    (record { job = c.in-Ok-Some.job; names = names; reads = reads }, rose)

pub returns-in-Ok-None-clause-answer : goal.returns-in-Ok-None-clause-answer
returns-in-Ok-None-clause-answer g c =
    let H = g.D.Digester.digest_of in
    let words = map string_bytes c.args.words.now in
    let told : Option Files = g.K.Desk.contents c.args.desk.now in
    let none : NamesNoProve words = rw c.in-Ok-None.field-0-is at c.in-Ok-None.ensures.none in
    cause_wider IsProveUsage (ProveTable H words told) (λ status lines kept usage. inl (none, usage)) c.ended-in-Ok-None.result
    (subst (HasCause IsProveUsage) (sym c.ended-in-Ok-None.ensures) c.usage.ensures.usage)

pub returns-in-Ok-None-clause-fault : goal.returns-in-Ok-None-clause-fault
returns-in-Ok-None-clause-fault g c fault =
    absurd (c.usage.ensures.no_fault (silent_fault c.usage.result c.ended-in-Ok-None.result c.ended-in-Ok-None.ensures fault))
