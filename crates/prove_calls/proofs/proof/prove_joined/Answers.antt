use Rattle.std.proofs.Common.{sym, subst}
use Rattle.resolve.specs.Resolving.{bundles_of}
use Rattle.command_frame.specs.Ends.{HasCause}
use Rattle.command_frame.proofs.Causes.{cause_wider}
use Rattle.prove_calls.specs.Prove.{IsUnresolved}
use Rattle.prove_calls.specs.Proofs.{TellsUnresolved}
use Rattle.prove_calls.proofs.proof.prove_joined.Goals as goal

pub returns-in-Err-clause-unresolved : goal.returns-in-Err-clause-unresolved
returns-in-Err-clause-unresolved g c =
    let H = g.D.Digester.digest_of in
    let stop = c.in-Err.stop in
    cause_wider (TellsUnresolved stop) (IsUnresolved H c.args.joined.now.claim.calls (bundles_of c.args.others.now))
    (λ status lines kept tells. record { stop = stop; stops = c.in-Err.ensures.stop; not_memory = tells.not_memory; told = tells.told }) c.ended.result
    (subst (HasCause (TellsUnresolved stop)) (sym c.ended.ensures) c.unresolved.ensures.tells)

pub returns-clause-bundled : goal.returns-clause-bundled
returns-clause-bundled g c = record {
  bundle = c.in-Ok.bundle;
  is_bundle = c.in-Ok.ensures.bundle.is;
  accepted = c.in-Ok.ensures.accepted;
  spells = c.in_ok-receipt.ensures;
  reports = c.in_ok-report.ensures;
}
