use Rattle.std.proofs.Common.{Option, sym, subst}
use Rattle.outside.specs.Files.{Files}
use Rattle.cli_text.specs.declared.check_words.CheckJob.{CheckJob}
use Rattle.command_frame.specs.Ends.{IsEnded}
use Rattle.check_calls.specs.Top.{CheckJobTable}
use Rattle.check_calls.proofs.top.answer_job.Goals as goal

pub returns-in-Id-clause-answer : goal.returns-in-Id-clause-answer
returns-in-Id-clause-answer g c =
    let told : Option Files = g.K.Desk.contents c.args.desk.now in
    subst (λ (job : CheckJob). IsEnded (CheckJobTable g.D.Digester.digest_of job told) c.identify.result) (sym c.in-Id.is) c.identify.ensures.answer
