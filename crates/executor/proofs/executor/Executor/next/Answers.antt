use Rattle.std.proofs.Common.{ℕ, ◌+◌, length, sym, ap, ap₂, ◌∙◌, subst, arith}
use Rattle.rv_step.specs.Runs.{start, IsOutcome}
use Rattle.receipt_types.specs.Bundles.{item}
use Rattle.executor.specs.Segments.{Limits, lengths}
use Rattle.executor.specs.Proving.{cut_seals}
use Rattle.executor.specs.Cutting.{Cutting, IsCutting}
use Rattle.executor.proofs.UnderWay.{some_not_none}
use Rattle.executor.proofs.Onward.{over, has_ended, has_more}
use Rattle.executor.proofs.executor.Executor.next.Goals as goal

pub returns-in_err-advance-clause-stands : goal.returns-in_err-advance-clause-stands
returns-in_err-advance-clause-stands g c image words stands = c.advance.ensures.stands image words (c.loop.invariant.0 image words stands)

pub loop-smaller : goal.loop-smaller
loop-smaller g c =
    let went = c.in_ok-advance.ensures.went c.if-branch.true in
    omega (arith, went.0, went.1, ap (λ (l : Limits). l.limit) c.advance.ensures.same.0)

pub loop-preserved : goal.loop-preserved
loop-preserved g c =
    (λ image words stands. c.advance.ensures.stands image words (c.loop.invariant.0 image words stands), c.advance.ensures.same.0 ∙ c.loop.invariant.1, c.advance.ensures.same.1 ∙ c.loop.invariant.2)

pub returns-in-Some-clause-stands : goal.returns-in-Some-clause-stands
returns-in-Some-clause-stands g c image words stands = c.advance.ensures.stands image words (c.loop.invariant.0 image words stands)

pub returns-in-Some-clause-gives : goal.returns-in-Some-clause-gives
returns-in-Some-clause-gives g c image words stands =
    let limits = c.advance.ensures.same.0 ∙ c.loop.invariant.1 in
    let number = c.advance.ensures.same.1 ∙ c.loop.invariant.2 in
    let here = c.advance.ensures.stands image words (c.loop.invariant.0 image words stands) in
    let ended = over c.advance.new.self c.in-Some.outcome (ap (λ (x : Cutting). x.outcome) (sym c.self.view_is) ∙ c.in-Some.is) (ap (λ (x : Cutting). x.steps) (sym c.self.view_is) ∙ c.if-self-eq0.true) image words here in
    (sym number ∙ ended.0 ∙ ap (λ (l : Limits). length (lengths l (start image words))) limits, subst (λ (l : Limits). IsOutcome (start image words) l.limit c.in-Some.outcome) limits ended.1, number)

pub unreachable-requires : goal.unreachable-requires
unreachable-requires g c =
    let h = subst (λ (x : Cutting). IsCutting x) c.self.view_is c.self.invariant in
    let (o, is) = has_ended (start h.image h.words) c.advance.new.self h.stands.segment (c.in_ok-advance.ensures.whole c.if-branch.false h.image h.words h.stands) (ap (λ (x : Cutting). x.steps) (sym c.self.view_is) ∙ c.if-self-eq0.true) in
    some_not_none o c.self.inside.outcome (ap (λ (x : Cutting). x.outcome) c.self.view_is ∙ is) c.in-None.is

pub returns-then-self-eq-MOST_SEALS-clause-stands : goal.returns-then-self-eq-MOST_SEALS-clause-stands
returns-then-self-eq-MOST_SEALS-clause-stands g c image words stands = c.advance.ensures.stands image words (c.loop.invariant.0 image words stands)

pub returns-then-self-eq-MOST_SEALS-clause-gives : goal.returns-then-self-eq-MOST_SEALS-clause-gives
returns-then-self-eq-MOST_SEALS-clause-gives g c image words stands =
    let limits = c.advance.ensures.same.0 ∙ c.loop.invariant.1 in
    let number = c.advance.ensures.same.1 ∙ c.loop.invariant.2 in
    let here = c.advance.ensures.stands image words (c.loop.invariant.0 image words stands) in
    let steps = ap (λ (x : Cutting). x.steps) c.self.view_is in
    let more = has_more c.advance.new.self (omega (arith, c.if-self-eq0.false, steps)) image words here (c.in_ok-advance.ensures.whole c.if-branch.false image words here) in
    let given = ap (λ (x : Cutting). x.number) c.self.view_is in
    (omega (arith, number, given, c.if-self-eq-MOST_SEALS.true), omega (arith, number, more, ap (λ (l : Limits). length (lengths l (start image words))) limits), number)

pub cut-requires-clause-whole : goal.cut-requires-clause-whole
cut-requires-clause-whole g c κs within image words stands = c.in_ok-advance.ensures.whole c.if-branch.false image words stands

pub returns-in_err-cut-clause-stands : goal.returns-in_err-cut-clause-stands
returns-in_err-cut-clause-stands g c image words stands = c.advance.ensures.stands image words (c.loop.invariant.0 image words stands)

pub returns-clause-gives : goal.returns-clause-gives
returns-clause-gives g c image words stands =
    let limits = c.advance.ensures.same.0 ∙ c.loop.invariant.1 in
    let number = c.advance.ensures.same.1 ∙ c.loop.invariant.2 in
    let here = c.advance.ensures.stands image words (c.loop.invariant.0 image words stands) in
    let given = ap (λ (x : Cutting). x.number) c.self.view_is in (
      omega (arith, number, given, c.self.invariant.number, c.if-self-eq-MOST_SEALS.false),
      c.in_ok-cut.ensures.number ∙ number,
      ap₂ (λ (l : Limits) (n : ℕ). item (cut_seals g.D.Digester.digest_of l (start image words)) n) (sym limits) (sym number) ∙ c.in_ok-cut.ensures.seal image words here,
      c.in_ok-turn.ensures.turned ∙ ap (λ (n : ℕ). n + 1) number,
    )

pub turn-requires-clause-whole : goal.turn-requires-clause-whole
turn-requires-clause-whole g c κs within image words stands = c.in_ok-advance.ensures.whole c.if-branch.false image words stands

pub returns-in_err-turn-clause-stands : goal.returns-in_err-turn-clause-stands
returns-in_err-turn-clause-stands g c image words stands = c.turn.ensures.stands image words (c.advance.ensures.stands image words (c.loop.invariant.0 image words stands))

pub returns-clause-stands : goal.returns-clause-stands
returns-clause-stands g c image words stands = c.turn.ensures.stands image words (c.advance.ensures.stands image words (c.loop.invariant.0 image words stands))
