use Rattle.std.proofs.Common.{ap, ◌∙◌}
use Rattle.inspect_json.specs.Text.{report_line}
use Rattle.check_calls.proofs.Inspections.{text_told}
use Rattle.check_calls.proofs.inspect.inspect_bytes.Goals as goal

pub returns-in_ok-lines-in-Ok-clause-inspects : goal.returns-in_ok-lines-in-Ok-clause-inspects
returns-in_ok-lines-in-Ok-clause-inspects g c =
    let checked = c.in-Ok.checked in
    text_told g.D.Digester.digest_of c.args.bytes.now checked.report
    (record {
      bundle = checked.bundle;
      spelled = c.in-Ok.ensures.spells;
      accepted = c.in-Ok.ensures.checked.accepted;
      is_report = c.in-Ok.ensures.checked.is_report;
    })
    c.in_ok-lines-in-Ok.lines c.new.result c.new.ensures (c.in_ok-lines-in-Ok.ensures ∙ ap report_line c.report.ensures.value)
