use Rattle.std.proofs.Common.{◌≡◌, Err, refl, sym, ap, subst}
use Rattle.std.proofs.lemmas.Result.{err_from_is_err_and}
use Rattle.receipt_codec.specs.declared.stop.ReadStop.{ReadStop}
use Rattle.receipt_codec.specs.declared.stop.ReadStop.TheVariants.{Malformed, Version, Memory}
use Rattle.check_core.specs.Checking.{Refuses, stop_of_bytes}
use Rattle.check_core.proofs.checking.check.Goals as goal

pub returns-in_err-bundle-clause-stop : goal.returns-in_err-bundle-clause-stop
returns-in_err-bundle-clause-stop g c =
    let H = g.D.Digester.digest_of in
    let (stop, is, from) = err_from_is_err_and c.from_residual.result c.from_residual.ensures.1 in
    let refuses : (read : ReadStop) → c.in_err-bundle.field-0.0 ≡ read → Refuses H c.args.id.now c.args.bytes.now (stop_of_bytes read) = go in
    rw is (subst (Refuses H c.args.id.now c.args.bytes.now) (sym from) (refuses c.in_err-bundle.field-0.0 refl))
  where
    go : (read : ReadStop) → c.in_err-bundle.field-0.0 ≡ read → Refuses g.D.Digester.digest_of c.args.id.now c.args.bytes.now (stop_of_bytes read)
    go Malformed e = record { none = c.in_err-bundle.ensures.malformed (ap Err e); no_version = c.in_err-bundle.ensures.not_version (ap Err e) }
    go (Version version) e = c.in_err-bundle.ensures.version version (ap Err e)
    go Memory e = tt
