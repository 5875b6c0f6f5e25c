use Rattle.std.proofs.Common.{◌≡◌, ℕ, Bool, ◌∙◌, refl, sym, ap, subst, arith}
use Rattle.rv_step.specs.Machine.{State}
use Rattle.rv_step.specs.Quick.{GoesQuickly}
use Rattle.rv_step.specs.Stepping.{state_at}
use Rattle.rv_step.proofs.QuickSteps.{none_gone, one_more}
use Rattle.rv_step.proofs.quick.quick_steps.Goals as goal

pub returns-then-not-has-clause-went : goal.returns-then-not-has-clause-went
returns-then-not-has-clause-went g c tape log =
    none_gone (g.P.PageSet.holds c.args.pages.now) (state_at c.args.core.now (g.B.Bus.byte_at c.args.bus.now) tape log)

pub loop-done-init : goal.loop-done-init
loop-done-init g c = record {
  within = omega arith;
  aligned = c.requires.aligned;
  pages = refl;
  went = λ tape log. none_gone (g.P.PageSet.holds c.args.pages.now) (state_at c.args.core.now (g.B.Bus.byte_at c.args.bus.now) tape log);
}

pub quick_step-requires-clause-aligned : goal.quick_step-requires-clause-aligned
quick_step-requires-clause-aligned g c = c.loop-done.invariant.aligned

pub quick_step-requires-clause-open : goal.quick_step-requires-clause-open
quick_step-requires-clause-open g c p h = ap (λ (opens : ℕ → Bool). opens p) c.loop-done.invariant.pages ∙ c.requires.open p h

pub loop-done-preserved : goal.loop-done-preserved
loop-done-preserved g c = record {
  within = omega arith;
  aligned = c.quick_step.ensures.aligned;
  pages = c.quick_step.ensures.same_pages ∙ c.loop-done.invariant.pages;
  went = λ tape log.
      one_more (g.P.PageSet.holds c.args.pages.now) (state_at c.args.core.now (g.B.Bus.byte_at c.args.bus.now) tape log) c.loop-done.done
      (state_at c.loop-done.core (g.B.Bus.byte_at c.loop-done.bus) tape log) (state_at c.quick_step.new.core (g.B.Bus.byte_at c.quick_step.new.bus) tape log)
      (c.loop-done.invariant.went tape log) (c.quick_step.ensures.went c.if-quick_step.true tape log);
}

pub returns-else-quick_step-clause-went : goal.returns-else-quick_step-clause-went
returns-else-quick_step-clause-went g c tape log =
    let stays = c.quick_step.ensures.stays c.if-quick_step.false in
    let was : State = state_at c.loop-done.core (g.B.Bus.byte_at c.loop-done.bus) tape log in
    let now : State = state_at c.quick_step.new.core (g.B.Bus.byte_at c.quick_step.new.bus) tape log in
    let same : was ≡ now = sym (λ i. state_at (stays.0 i) (stays.1 i) tape log) in
    subst (λ (s : State). GoesQuickly (g.P.PageSet.holds c.args.pages.now) (state_at c.args.core.now (g.B.Bus.byte_at c.args.bus.now) tape log) c.loop-done.done s)
    {x = was} {y = now} same (c.loop-done.invariant.went tape log)

pub returns-else-quick_step-clause-same_pages : goal.returns-else-quick_step-clause-same_pages
returns-else-quick_step-clause-same_pages g c = c.quick_step.ensures.same_pages ∙ c.loop-done.invariant.pages

pub returns-after-loop-done-clause-bound : goal.returns-after-loop-done-clause-bound
returns-after-loop-done-clause-bound g c = c.loop-done.invariant.within

pub returns-after-loop-done-clause-went : goal.returns-after-loop-done-clause-went
returns-after-loop-done-clause-went g c = c.loop-done.invariant.went

pub returns-after-loop-done-clause-aligned : goal.returns-after-loop-done-clause-aligned
returns-after-loop-done-clause-aligned g c = c.loop-done.invariant.aligned

pub returns-after-loop-done-clause-same_pages : goal.returns-after-loop-done-clause-same_pages
returns-after-loop-done-clause-same_pages g c = c.loop-done.invariant.pages
