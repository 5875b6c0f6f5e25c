use Rattle.std.proofs.Common.{Option, sym, subst}
use Rattle.outside.specs.Files.{Files}
use Rattle.prove_calls.specs.Top.{ProveReads}
use Rattle.prove_calls.proofs.Jobs.{default_job, prove_job, prove_usage, exec_job, generate_job, generate_usage}
use Rattle.prove_calls.proofs.top.answer_job.Goals as goal

pub returns-in-ProveDefault-clause-answer : goal.returns-in-ProveDefault-clause-answer
returns-in-ProveDefault-clause-answer g c =
    let told : Option Files = g.K.Desk.contents c.args.desk.now in
    let job = c.in-ProveDefault in
    default_job g.D.Digester.digest_of told c.prove.result c.args.job job.elf job.input job.receipt job.is c.limits_of-limits.result c.limits_of-limits.ensures c.prove.ensures.answer

pub returns-then-workers-ne0-clause-answer : goal.returns-then-workers-ne0-clause-answer
returns-then-workers-ne0-clause-answer g c =
    let told : Option Files = g.K.Desk.contents c.args.desk.now in
    let job = c.in-Prove in
    prove_usage g.D.Digester.digest_of told c.usage.result c.args.job job.elf job.input job.receipt job.cycles job.pages job.limit job.workers job.others job.is c.if-workers-ne0.true c.usage.ensures.usage

pub returns-else-workers-ne0-clause-answer : goal.returns-else-workers-ne0-clause-answer
returns-else-workers-ne0-clause-answer g c =
    let told : Option Files = g.K.Desk.contents c.args.desk.now in
    let job = c.in-Prove in
    prove_job g.D.Digester.digest_of told c.prove-in-Prove.result c.args.job job.elf job.input job.receipt job.cycles job.pages job.limit job.workers job.others job.is c.if-workers-ne0.false c.limits_of-limits-in-Prove.result
    c.limits_of-limits-in-Prove.ensures c.as_slice.result.now c.as_slice.ensures c.prove-in-Prove.ensures.answer

pub returns-in-Exec-clause-answer : goal.returns-in-Exec-clause-answer
returns-in-Exec-clause-answer g c =
    let told : Option Files = g.K.Desk.contents c.args.desk.now in
    let job = c.in-Exec in
    exec_job g.D.Digester.digest_of told c.exec.result c.args.job job.elf job.input job.limit job.is c.exec.ensures.answer

pub returns-then-workers-ne0-2-clause-answer : goal.returns-then-workers-ne0-2-clause-answer
returns-then-workers-ne0-2-clause-answer g c =
    let told : Option Files = g.K.Desk.contents c.args.desk.now in
    let job = c.in-Generate in
    generate_usage g.D.Digester.digest_of told c.usage-then-workers-ne0-2.result c.args.job job.number job.size job.cycles job.pages job.workers job.is c.if-workers-ne0-2.true c.usage-then-workers-ne0-2.ensures.usage

pub returns-else-workers-ne0-2-clause-answer : goal.returns-else-workers-ne0-2-clause-answer
returns-else-workers-ne0-2-clause-answer g c =
    let told : Option Files = g.K.Desk.contents c.args.desk.now in
    let job = c.in-Generate in
    generate_job g.D.Digester.digest_of told c.generate.result c.args.job job.number job.size job.cycles job.pages job.workers job.is c.if-workers-ne0-2.false c.limits_of.result
    c.limits_of.ensures c.generate.ensures.answer

pub returns-in-ProveDefault-clause-fault : goal.returns-in-ProveDefault-clause-fault
returns-in-ProveDefault-clause-fault g c fault = (subst ProveReads (sym c.in-ProveDefault.is) tt, c.prove.ensures.fault fault)

pub returns-then-workers-ne0-clause-fault : goal.returns-then-workers-ne0-clause-fault
returns-then-workers-ne0-clause-fault g c fault = absurd (c.usage.ensures.no_fault fault)

pub returns-else-workers-ne0-clause-fault : goal.returns-else-workers-ne0-clause-fault
returns-else-workers-ne0-clause-fault g c fault = (subst ProveReads (sym c.in-Prove.is) c.if-workers-ne0.false, c.prove-in-Prove.ensures.fault fault)

pub returns-in-Exec-clause-fault : goal.returns-in-Exec-clause-fault
returns-in-Exec-clause-fault g c fault = (subst ProveReads (sym c.in-Exec.is) tt, c.exec.ensures.fault fault)

pub returns-then-workers-ne0-2-clause-fault : goal.returns-then-workers-ne0-2-clause-fault
returns-then-workers-ne0-2-clause-fault g c fault = absurd (c.usage-then-workers-ne0-2.ensures.no_fault fault)

pub returns-else-workers-ne0-2-clause-fault : goal.returns-else-workers-ne0-2-clause-fault
returns-else-workers-ne0-2-clause-fault g c fault = absurd (c.generate.ensures.no_fault fault)
