use Rattle.std.proofs.Common.{rules, ◌≡◌, ℕ, List, Option, Err, inl, subst}
use Rattle.outside.specs.Files.{Files}
use Rattle.check_core.specs.Checked.{RefusesItself}
use Rattle.receipt_types.specs.Spelling.{Spells}
use Rattle.command_frame.specs.Reading.{IsUnread}
use Rattle.command_frame.specs.declared.reading.TheConstants.{MOST_RECEIPT_BYTES}
use Rattle.command_frame.proofs.Causes.{cause_wider}
use Rattle.prove_calls.specs.Others.{NotOther}
use Rattle.prove_calls.proofs.Receiving.{refused_other}
use Rattle.prove_calls.proofs.others.read_other.Goals as goal

pub returns-in_err-bytes-clause-bad : goal.returns-in_err-bytes-clause-bad
returns-in_err-bytes-clause-bad g c =
    let H = g.D.Digester.digest_of in
    let told : Option Files = g.K.Desk.contents c.args.desk.now in
    let end = c.in_err-bytes.field-0.0 in
    let is : c.from_residual.result ≡ Err end = search rules in
    rw is
    (cause_wider (IsUnread MOST_RECEIPT_BYTES c.args.name.now told) (NotOther H told c.args.place c.args.name.now) (λ status lines kept unread. inl unread) end c.in_err-bytes.ensures.unread)

pub returns-in-Ok-clause-other : goal.returns-in-Ok-clause-other
returns-in-Ok-clause-other g c = record {
  bytes = c.in_ok-bytes.bytes.items;
  is_read = c.in_ok-bytes.ensures.read;
  spells = subst (λ (b : List ℕ). Spells c.in-Ok.other.bundle b) c.as_slice.ensures c.in-Ok.ensures.spells;
  accepted = c.in-Ok.ensures.checked.accepted;
}

pub returns-clause-bad : goal.returns-clause-bad
returns-clause-bad g c =
    let H = g.D.Digester.digest_of in
    let told : Option Files = g.K.Desk.contents c.args.desk.now in
    refused_other H told c.args.place c.args.name.now c.in_ok-bytes.bytes.items c.in_ok-bytes.ensures.read c.in-Err.stop
    (subst (λ (b : List ℕ). RefusesItself H b c.in-Err.stop) c.as_slice.ensures c.in-Err.ensures.stop) (search rules) c.bad_receipt.result c.ended.result c.ended.ensures
    c.bad_receipt.ensures.tells
