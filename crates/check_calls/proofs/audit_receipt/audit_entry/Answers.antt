use Rattle.std.proofs.Common.{rules, ◌≡◌, ℕ, List, Option, Err, subst}
use Rattle.outside.specs.Files.{Files}
use Rattle.elf_image.specs.Loaded.{image_of}
use Rattle.command_frame.specs.Reading.{IsRead, IsUnread, HasImage, HasNoImage}
use Rattle.command_frame.specs.declared.reading.TheConstants.{MOST_RECEIPT_BYTES}
use Rattle.command_frame.specs.Ends.{HasCause, IsEnded}
use Rattle.command_frame.proofs.Causes.{ended_by}
use Rattle.check_calls.specs.Audit.{AuditAsked, Audits, AnswersAudit}
use Rattle.check_calls.proofs.Auditing.{audit_unread, audit_no_image, audit_made}
use Rattle.check_calls.proofs.audit_receipt.audit_entry.Goals as goal

pub returns-in_err-bytes-clause-answer : goal.returns-in_err-bytes-clause-answer
returns-in_err-bytes-clause-answer g c =
    let H = g.D.Digester.digest_of in
    let told : Option Files = g.K.Desk.contents c.args.desk.now in
    let asked : AuditAsked = record { receipt = c.args.receipt.now; entry = c.args.entry; elf = c.args.elf.now } in
    let end = c.in_err-bytes.field-0.0 in
    let is : c.from_residual.result ≡ Err end = search rules in
    ended_by (AnswersAudit H asked told) c.from_residual.result end is
    (audit_unread H asked told end (subst (λ (n : List ℕ). HasCause (IsUnread MOST_RECEIPT_BYTES n told) end) c.as_str.ensures.value c.in_err-bytes.ensures.unread))

pub returns-in_err-image-clause-answer : goal.returns-in_err-image-clause-answer
returns-in_err-image-clause-answer g c =
    let H = g.D.Digester.digest_of in
    let told : Option Files = g.K.Desk.contents c.args.desk.now in
    let asked : AuditAsked = record { receipt = c.args.receipt.now; entry = c.args.entry; elf = c.args.elf.now } in
    let bytes : List ℕ = c.in_ok-bytes.bytes.items in
    let read = subst (λ (n : List ℕ). IsRead MOST_RECEIPT_BYTES n told bytes) c.as_str.ensures.value c.in_ok-bytes.ensures.read in
    let end = c.in_err-image.field-0.0 in
    let is : c.from_residual-in_err-image.result ≡ Err end = search rules in
    ended_by (AnswersAudit H asked told) c.from_residual-in_err-image.result end is
    (audit_no_image H asked told bytes read end
    (subst (λ (t : Option Files). HasCause (HasNoImage asked.elf t) end) c.read_file.ensures.contents
    (subst (λ (n : List ℕ). HasCause (HasNoImage n (g.K.Desk.contents c.read_file.new.desk)) end) c.as_str-2.ensures.value c.in_err-image.ensures.none)))

pub returns-clause-answer : goal.returns-clause-answer
returns-clause-answer g c =
    let H = g.D.Digester.digest_of in
    let told : Option Files = g.K.Desk.contents c.args.desk.now in
    let asked : AuditAsked = record { receipt = c.args.receipt.now; entry = c.args.entry; elf = c.args.elf.now } in
    let bytes : List ℕ = c.in_ok-bytes.bytes.items in
    let image = image_of c.in_ok-image.image in
    let read = subst (λ (n : List ℕ). IsRead MOST_RECEIPT_BYTES n told bytes) c.as_str.ensures.value c.in_ok-bytes.ensures.read in
    let loads =
    subst (λ (t : Option Files). HasImage asked.elf t image) c.read_file.ensures.contents
    (subst (λ (n : List ℕ). HasImage n (g.K.Desk.contents c.read_file.new.desk) image) c.as_str-2.ensures.value c.in_ok-image.ensures.image) in
    audit_made H asked told bytes read image loads c.audit_bytes.result
    (subst (λ (b : List ℕ). IsEnded (Audits H b asked.entry image) c.audit_bytes.result) c.as_slice.ensures c.audit_bytes.ensures.audits)
