use Rattle.std.proofs.Common.{◌≡◌, ◌∙◌, List, ap, map, subst, codes, rules}
use Rattle.check_core.specs.Reports.{EntryReport, Report}
use Rattle.serde_json.specs.Data.{Data, number, unsigned, array, object, put, no_members}
use Rattle.serde_json.specs.View.{view, items_view, members_view}
use Rattle.serde_json.specs.declared.value.Value.{Object}
use Rattle.serde_json.proofs.Views.{view-Array, view-Object}
use Rattle.inspect_json.specs.Text.{entry_text}
use Rattle.inspect_json.specs.Values.{HaveTexts}
use Rattle.inspect_json.proofs.Objects.{report_data, report_written}
use Rattle.inspect_json.proofs.values.report_value.Goals as goal

pub returns : goal.returns
returns c =
    let values = c.in_ok-entries.entries.items in
    let none : members_view c.new-members.result.entries ≡ no_members = search rules in
    let entries =
    c.in_ok-put.ensures.ok ∙ ap (λ (list : Data). put (codes "entries") list (members_view c.new-members.result.entries)) (view-Array c.in_ok-entries.entries)
    ∙ ap (put (codes "entries") (array (items_view values))) none in
    let version = c.in_ok-put_number.ensures ∙ ap (put (codes "version") (number (unsigned 1))) entries in
    let members = c.put_number.new.members in
    let built : view (Object members) ≡ report_data (items_view values) = view-Object members ∙ ap object version in
    let reports = c.as_slice.ensures ∙ ap (λ (report : Report). report.entries) c.report.view_is in
    let written = subst (λ (reports : List EntryReport). HaveTexts values (map entry_text reports)) reports c.in_ok-entries.ensures in
    report_written (Object members) c.args.report.now values built written
