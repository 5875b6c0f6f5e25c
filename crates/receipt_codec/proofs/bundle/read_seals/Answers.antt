use Rattle.std.proofs.Common.{rules, map}
use Rattle.std.proofs.lemmas.Result.{err_from_is_err_and}
use Rattle.std.specs.Arc.{arc_value}
use Rattle.receipt_codec.proofs.Items.{map_one_more}
use Rattle.receipt_codec.proofs.Entries.{no_seals, sealed_one_more}
use Rattle.receipt_codec.proofs.bundle.read_seals.Goals as goal

pub returns-in_err-seal-clause-malformed : goal.returns-in_err-seal-clause-malformed
returns-in_err-seal-clause-malformed c =
    λ e.
    let out = c.from_residual in
    let p = err_from_is_err_and out.result out.ensures.1 in
    no_seals c.args.many (map (λ seal. arc_value seal) c.loop.seals.items) _ c.loop.cursor (search rules) c.loop.invariant.0.limits c.loop.invariant.1
    (c.in_err-seal.ensures.malformed (cc (p.1, p.2)))

pub loop-preserved : goal.loop-preserved
loop-preserved c =
    sealed_one_more c.loop.counter (map (λ seal. arc_value seal) c.loop.seals.items) (map (λ seal. arc_value seal) c.push.new.self.items) c.in_ok-seal.seal _ c.loop.cursor c.read_seal.new.cursor
    c.loop.invariant.0 (search rules)
    (map_one_more (λ seal. arc_value seal) c.loop.seals.items c.push.new.self.items c.in_ok-new.field-0 c.in_ok-seal.seal c.in_ok-push.ensures.ok c.in_ok-new.ensures.ok)
    c.loop.invariant.1 (search rules)
