use Rattle.std.proofs.Common.{◌≡◌, ◌∙◌, ℕ, List, map, ap, subst, codes, rules}
use Rattle.std.specs.Prelude.{decimal}
use Rattle.hex.specs.Hex.{encode_lower}
use Rattle.check_core.specs.Reports.{EntryReport}
use Rattle.serde_json.specs.Data.{Data, number, unsigned, string, array, object, put, no_members}
use Rattle.serde_json.specs.View.{view, items_view, members_view}
use Rattle.serde_json.specs.declared.value.Value.{Object}
use Rattle.serde_json.proofs.Views.{view-Array, view-Object}
use Rattle.inspect_json.specs.Text.{entry_text}
use Rattle.inspect_json.specs.Values.{HasText, HaveTexts}
use Rattle.inspect_json.proofs.Objects.{entry_data, entry_written}
use Rattle.inspect_json.proofs.values.entry_value.Goals as goal

pub returns : goal.returns
returns c =
    let entry = c.entry.inside in
    let report : EntryReport =
    record {
      image = entry.image;
      exit = entry.exit;
      journal_bytes = entry.journal_bytes;
      journal_digest = entry.journal_digest;
      conditional = entry.conditional;
      claim = entry.claim;
      calls = entry.calls;
      seals = entry.seals;
      steps = entry.steps;
      links = entry.links.items;
    } in
    let values = c.in_ok-links.links.items in
    let none : members_view c.new-members.result.entries ≡ no_members = search rules in
    let calls = c.in_ok-put_number.ensures ∙ ap (put (codes "calls") (number (unsigned report.calls))) none in
    let claim = c.in_ok-put_digest.ensures.digits ∙ ap (put (codes "claim") (string (encode_lower report.claim))) calls in
    let conditional = c.in_ok-put_digest-2.ensures.digits ∙ ap (put (codes "conditional") (string (encode_lower report.conditional))) claim in
    let exit = c.in_ok-put_number-2.ensures ∙ ap (λ (n : ℕ). put (codes "exit") (number (unsigned n)) (members_view c.put_digest-2.new.members.entries)) c.into.ensures
    ∙ ap (put (codes "exit") (number (unsigned report.exit))) conditional in
    let image = c.in_ok-put_digest-3.ensures.digits ∙ ap (put (codes "image") (string (encode_lower report.image))) exit in
    let journal_bytes = c.in_ok-put_number-3.ensures ∙ ap (put (codes "journal_bytes") (number (unsigned report.journal_bytes))) image in
    let journal_digest = c.in_ok-put_digest-4.ensures.digits ∙ ap (put (codes "journal_digest") (string (encode_lower report.journal_digest))) journal_bytes in
    let links = c.in_ok-put.ensures.ok ∙ ap (λ (list : Data). put (codes "links") list (members_view c.put_digest-4.new.members.entries)) (view-Array c.in_ok-links.links)
    ∙ ap (put (codes "links") (array (items_view values))) journal_digest in
    let seals = c.in_ok-put_number-4.ensures ∙ ap (λ (n : ℕ). put (codes "seals") (number (unsigned n)) (members_view c.put.new.map.entries)) c.into-2.ensures
    ∙ ap (put (codes "seals") (number (unsigned report.seals))) links in
    let steps = c.in_ok-put_number-5.ensures ∙ ap (put (codes "steps") (number (unsigned report.steps))) seals in
    let members = c.put_number-5.new.members in
    let built : view (Object members) ≡ entry_data report (items_view values) = view-Object members ∙ ap object steps in
    let all = subst (λ (links : List ℕ). HaveTexts values (map decimal links)) c.as_slice.ensures c.in_ok-links.ensures in
    subst (λ (e : EntryReport). HasText (Object members) (entry_text e)) c.entry.view_is
    (entry_written (Object members) report values built c.in_ok-put_digest.ensures.plain c.in_ok-put_digest-2.ensures.plain c.in_ok-put_digest-3.ensures.plain c.in_ok-put_digest-4.ensures.plain all)
