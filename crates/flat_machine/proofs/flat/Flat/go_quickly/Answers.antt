use Rattle.std.proofs.Common.{◌≡◌, refl, sym, ◌∙◌, subst, None}
use Rattle.rv_step.specs.Machine.{State}
use Rattle.rv_step.specs.Stepping.{state_at}
use Rattle.rv_step.specs.Quick.{GoesQuickly}
use Rattle.rv_step.proofs.QuickSteps.{none_gone}
use Rattle.flat_machine.specs.Layers.{memory_in}
use Rattle.flat_machine.specs.Going.{Going, IsRunOf, flat_state}
use Rattle.flat_machine.proofs.RunSteps.{no_code}
use Rattle.flat_machine.proofs.RunQuick.{stands_further, uncut_further}
use Rattle.flat_machine.proofs.flat.Flat.go_quickly.Goals as goal

pub returns-then-is_some-clause-went : goal.returns-then-is_some-clause-went
returns-then-is_some-clause-went g c = none_gone (g.P.PageSet.holds c.args.pages.now) (flat_state c.args.self.now)

pub invariant_of-self : goal.invariant_of-self
invariant_of-self g c =
    uncut_further (g.P.PageSet.holds c.args.pages.now) _ _ c.quick_steps-done.result (c.quick_steps-done.ensures.went c.self.inside.tape c.self.inside.log) refl refl c.requires.pages
    c.quick_steps-done.ensures.aligned c.self.invariant

pub returns-clause-stands : goal.returns-clause-stands
returns-clause-stands g c image words stands =
    let on : c.self.inside.halted ≡ None = no_code c.self.inside.halted (sym c.is_some.ensures ∙ c.if-is_some.false) in
    stands_further (g.P.PageSet.holds c.args.pages.now) _ _ c.quick_steps-done.result (c.quick_steps-done.ensures.went c.self.inside.tape c.self.inside.log) refl refl refl on on image words
    (subst (λ (x : Going). IsRunOf x image words) (sym c.self.view_is) stands)

pub returns-clause-went : goal.returns-clause-went
returns-clause-went g c =
    let now : State = state_at c.quick_steps-done.new.core (memory_in c.quick_steps-done.new.bus) c.self.inside.tape c.self.inside.log in
    subst (λ (x : Going). GoesQuickly (g.P.PageSet.holds c.args.pages.now) (flat_state x) c.quick_steps-done.result now) c.self.view_is
    (c.quick_steps-done.ensures.went c.self.inside.tape c.self.inside.log)
