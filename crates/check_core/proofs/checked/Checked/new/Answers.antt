use Rattle.std.proofs.Common.{rules, ◌≡◌, Err}
use Rattle.check_core.proofs.Stopping.{stops_itself}
use Rattle.check_core.proofs.checked.Checked.new.Goals as goal

pub returns-in_err-report-clause-stop : goal.returns-in_err-report-clause-stop
returns-in_err-report-clause-stop g c =
    let stop = c.in_err-report.field-0.0 in
    let is : c.from_residual.result ≡ Err stop = search rules in
    rw is (stops_itself g.D.Digester.digest_of c.args.bundle c.first_id-id.result stop c.first_id-id.ensures c.in_err-report.ensures.stop)
