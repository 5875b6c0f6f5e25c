use Rattle.std.proofs.Common.{rules, ◌≢◌, Err, sym, ap, subst}
use Rattle.elf_image.specs.Loaded.{image_of}
use Rattle.receipt_codec.specs.declared.stop.ReadStop.TheVariants.{Memory}
use Rattle.check_core.specs.declared.stop.CheckStop.{CheckStop}
use Rattle.check_calls.specs.Audit.{IsUnspelled}
use Rattle.check_calls.proofs.Auditing.{unspelled_of, unspelled_told}
use Rattle.check_calls.proofs.audit_receipt.audit_bytes.Goals as goal

pub returns-in_ok-lines-in-Err : goal.returns-in_ok-lines-in-Err
returns-in_ok-lines-in-Err g c =
    let bytes = c.args.bytes.now in
    let stop = c.in-Err.stop in
    let other : stop ≢ Memory = search rules in
    let unspelled =
    unspelled_of bytes stop (λ e. c.in-Err.ensures.malformed (ap Err e)) (λ e. c.in-Err.ensures.not_version (ap Err e)) (λ v e. c.in-Err.ensures.version v (ap Err e)) other in
    record {
      audits =
          unspelled_told g.D.Digester.digest_of bytes c.args.entry (image_of c.args.image.now) c.from.result
          (subst (λ (s : CheckStop). IsUnspelled bytes s) (sym c.from.ensures) unspelled) c.in_ok-lines-in-Err.lines c.new.result c.new.ensures c.in_ok-lines-in-Err.ensures;
      no_fault = λ e. cc;
    }
