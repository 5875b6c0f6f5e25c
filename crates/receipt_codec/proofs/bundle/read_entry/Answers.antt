use Rattle.std.proofs.Common.{rules}
use Rattle.std.proofs.lemmas.Result.{err_from_is_err_and}
use Rattle.receipt_codec.proofs.Entries.{no_entry_seals}
use Rattle.receipt_codec.proofs.bundle.read_entry.Goals as goal

pub returns-in_err-seals-clause-malformed : goal.returns-in_err-seals-clause-malformed
returns-in_err-seals-clause-malformed c =
    λ e.
    let out = c.from_residual-in_err-seals in
    let p = err_from_is_err_and out.result out.ensures.1 in
    no_entry_seals c.args.number c.args.count c.in_ok-seal_count.seal_count c.in_ok-links.links.items _ c.take_u32-2.new.self c.read_links.new.cursor c.in_ok-link_count.link_count
    (search rules) (search rules) (search rules) (search rules) (search rules) (search rules) (c.in_err-seals.ensures.malformed (cc (p.1, p.2)))
