use Rattle.std.proofs.Common.{rules}
use Rattle.receipt_codec.proofs.Seals.{no_words}
use Rattle.receipt_codec.proofs.seal.read_words.Goals as goal

pub returns-in_err-word-clause-malformed : goal.returns-in_err-word-clause-malformed
returns-in_err-word-clause-malformed c =
    λ _. no_words c.args.count c.loop.counter c.loop.words.items _ c.loop.cursor (search rules) c.loop.invariant.0.many c.loop.invariant.1 (search rules)
