use Rattle.std.proofs.Common.{sym, subst}
use Rattle.std.proofs.lemmas.Result.{IfOk-weaker, IfErr-weaker}
use Rattle.elf_image.specs.Loaded.{image_of}
use Rattle.resolve.specs.Resolving.{bundles_of}
use Rattle.command_frame.specs.Ends.{HasCause}
use Rattle.command_frame.proofs.Causes.{cause_wider}
use Rattle.prove_calls.specs.Prove.{Run, IsUnresolved, StopsRun}
use Rattle.prove_calls.specs.Proofs.{run_of, TellsSession}
use Rattle.prove_calls.proofs.Proved.{proved_halted, proved_some, proved_few, proved_calls, proved_unresolved, proof_of, session_stops}
use Rattle.prove_calls.proofs.proof.prove_run.Goals as goal

pub prove_joined-requires-clause-halted : goal.prove_joined-requires-clause-halted
prove_joined-requires-clause-halted g c κs within =
    proved_halted g.D.Digester.digest_of c.args.limits (image_of c.args.image) c.args.words.items c.in-Ok.joined c.in-Ok.ensures.proved

pub prove_joined-requires-clause-some : goal.prove_joined-requires-clause-some
prove_joined-requires-clause-some g c κs within =
    proved_some g.D.Digester.digest_of c.args.limits (image_of c.args.image) c.args.words.items c.in-Ok.joined c.in-Ok.ensures.proved

pub prove_joined-requires-clause-few : goal.prove_joined-requires-clause-few
prove_joined-requires-clause-few g c κs within =
    proved_few g.D.Digester.digest_of c.args.limits (image_of c.args.image) c.args.words.items c.in-Ok.joined c.in-Ok.ensures.proved

pub prove_joined-requires-clause-calls : goal.prove_joined-requires-clause-calls
prove_joined-requires-clause-calls g c κs within =
    proved_calls g.D.Digester.digest_of c.args.limits (image_of c.args.image) c.args.words.items c.in-Ok.joined c.in-Ok.ensures.proved c.limit.ensures.ranges

pub returns-in-Ok-clause-proof : goal.returns-in-Ok-clause-proof
returns-in-Ok-clause-proof g c =
    IfOk-weaker c.prove_joined.result _ _
    (λ proof bundled. proof_of g.D.Digester.digest_of c.args.limits (image_of c.args.image) c.args.words.items c.in-Ok.joined c.in-Ok.ensures.proved (bundles_of c.args.others.now) c.args.image.rest proof bundled)
    c.prove_joined.ensures.bundled

pub returns-in-Ok-clause-stops : goal.returns-in-Ok-clause-stops
returns-in-Ok-clause-stops g c =
    let H = g.D.Digester.digest_of in
    let others = bundles_of c.args.others.now in
    IfErr-weaker c.prove_joined.result _ _
    (λ end. cause_wider (IsUnresolved H c.in-Ok.joined.claim.calls others) (StopsRun H (run_of (image_of c.args.image) c.args.words.items c.args.limits others))
    (proved_unresolved H c.args.limits (image_of c.args.image) c.args.words.items c.in-Ok.joined c.in-Ok.ensures.proved others) end)
    c.prove_joined.ensures.unresolved

pub returns-in-Err-clause-stops : goal.returns-in-Err-clause-stops
returns-in-Err-clause-stops g c =
    let H = g.D.Digester.digest_of in
    let run : Run = run_of (image_of c.args.image) c.args.words.items c.args.limits (bundles_of c.args.others.now) in
    cause_wider (TellsSession c.in-Err.stop) (StopsRun H run) (session_stops H run c.in-Err.stop c.in-Err.ensures.stop) c.ended.result
    (subst (HasCause (TellsSession c.in-Err.stop)) (sym c.ended.ensures) c.stopped.ensures.tells)
