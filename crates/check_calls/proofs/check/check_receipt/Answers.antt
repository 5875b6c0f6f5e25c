use Rattle.std.proofs.Common.{rules, ◌≡◌, ℕ, List, Option, Err, inl, inr, subst}
use Rattle.outside.specs.Files.{Files}
use Rattle.command_frame.specs.Reading.{IsRead, IsUnread}
use Rattle.command_frame.specs.declared.reading.TheConstants.{MOST_RECEIPT_BYTES}
use Rattle.command_frame.specs.Ends.{HasCause, IsEnded}
use Rattle.command_frame.proofs.Causes.{cause_wider, ended_by, ended_wider}
use Rattle.check_calls.specs.Check.{CheckAsked, Judges, AnswersCheck}
use Rattle.check_calls.proofs.check.check_receipt.Goals as goal

pub returns-in_err-bytes-clause-answer : goal.returns-in_err-bytes-clause-answer
returns-in_err-bytes-clause-answer g c =
    let H = g.D.Digester.digest_of in
    let told : Option Files = g.K.Desk.contents c.args.desk.now in
    let asked : CheckAsked = record { receipt = c.args.receipt.now; id = c.args.id.now; journal = c.args.journal } in
    let end = c.in_err-bytes.field-0.0 in
    let is : c.from_residual.result ≡ Err end = search rules in
    ended_by (AnswersCheck H asked told) c.from_residual.result end is
    (cause_wider (IsUnread MOST_RECEIPT_BYTES c.args.receipt.now told) (AnswersCheck H asked told) (λ status lines kept unread. inl unread) end
    (subst (λ (n : List ℕ). HasCause (IsUnread MOST_RECEIPT_BYTES n told) end) c.as_str.ensures.value c.in_err-bytes.ensures.unread))

pub returns-clause-answer : goal.returns-clause-answer
returns-clause-answer g c =
    let H = g.D.Digester.digest_of in
    let told : Option Files = g.K.Desk.contents c.args.desk.now in
    let asked : CheckAsked = record { receipt = c.args.receipt.now; id = c.args.id.now; journal = c.args.journal } in
    let bytes = c.in_ok-bytes.bytes.items in
    ended_wider (Judges H c.args.id.now c.args.journal bytes) (AnswersCheck H asked told)
    (λ status lines kept judges. inr (record { bytes = bytes; is_read = subst (λ (n : List ℕ). IsRead MOST_RECEIPT_BYTES n told bytes) c.as_str.ensures.value c.in_ok-bytes.ensures.read; judges = judges })) c.judge.result
    (subst (λ (b : List ℕ). IsEnded (Judges H c.args.id.now c.args.journal b) c.judge.result) c.as_slice.ensures c.judge.ensures.judges)
