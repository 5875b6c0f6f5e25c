use Rattle.std.proofs.Common.{rules, ◌≡◌, ℕ, List, Option, Err, inl, inr, subst}
use Rattle.outside.specs.Files.{Files}
use Rattle.command_frame.specs.Reading.{IsRead, IsUnread}
use Rattle.command_frame.specs.declared.reading.TheConstants.{MOST_RECEIPT_BYTES}
use Rattle.command_frame.specs.Ends.{HasCause, IsEnded}
use Rattle.command_frame.proofs.Causes.{cause_wider, ended_by, ended_wider}
use Rattle.check_calls.specs.Inspect.{Inspects, AnswersInspect}
use Rattle.check_calls.proofs.inspect.inspect.Goals as goal

pub returns-in_err-bytes-clause-answer : goal.returns-in_err-bytes-clause-answer
returns-in_err-bytes-clause-answer g c =
    let H = g.D.Digester.digest_of in
    let told : Option Files = g.K.Desk.contents c.args.desk.now in
    let receipt = c.args.receipt.now in
    let end = c.in_err-bytes.field-0.0 in
    let is : c.from_residual.result ≡ Err end = search rules in
    ended_by (AnswersInspect H receipt told) c.from_residual.result end is
    (cause_wider (IsUnread MOST_RECEIPT_BYTES receipt told) (AnswersInspect H receipt told) (λ status lines kept unread. inl unread) end
    (subst (λ (n : List ℕ). HasCause (IsUnread MOST_RECEIPT_BYTES n told) end) c.as_str.ensures.value c.in_err-bytes.ensures.unread))

pub returns-clause-answer : goal.returns-clause-answer
returns-clause-answer g c =
    let H = g.D.Digester.digest_of in
    let told : Option Files = g.K.Desk.contents c.args.desk.now in
    let receipt = c.args.receipt.now in
    let bytes = c.in_ok-bytes.bytes.items in
    ended_wider (Inspects H bytes) (AnswersInspect H receipt told)
    (λ status lines kept inspects. inr (record { bytes = bytes; is_read = subst (λ (n : List ℕ). IsRead MOST_RECEIPT_BYTES n told bytes) c.as_str.ensures.value c.in_ok-bytes.ensures.read; inspects = inspects })) c.inspect_bytes.result
    (subst (λ (b : List ℕ). IsEnded (Inspects H b) c.inspect_bytes.result) c.as_slice.ensures c.inspect_bytes.ensures.inspects)
