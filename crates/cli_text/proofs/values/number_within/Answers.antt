use Rattle.std.proofs.Common.{arith}
use Rattle.cli_text.proofs.Telling.{told_outside}
use Rattle.cli_text.proofs.values.number_within.Goals as goal

pub returns-in_default-clause-none : goal.returns-in_default-clause-none
returns-in_default-clause-none c =
    told_outside c.args.word.now c.in_ok-number.field-0 c.in-Some.number c.args.low c.args.high c.in_ok-number.ensures.some c.in-Some.is c.ranges.high.fits
    (λ _ at_most. omega (arith, at_most))

pub returns-in_default-2-clause-none : goal.returns-in_default-2-clause-none
returns-in_default-2-clause-none c =
    told_outside c.args.word.now c.in_ok-number.field-0 c.in-Some.number c.args.low c.args.high c.in_ok-number.ensures.some c.in-Some.is c.ranges.high.fits
    (λ at_least _. omega (arith, at_least))
