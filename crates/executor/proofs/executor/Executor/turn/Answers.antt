use Rattle.std.proofs.Common.{◌≤◌, ℕ, List, refl, sym, ap, ◌∙◌, subst, arith}
use Rattle.std.specs.Prelude.{Contains}
use Rattle.page_core.specs.Images.{Image}
use Rattle.page_core.proofs.Options.{none_from}
use Rattle.page_tree.specs.Grown.{AscendFrom}
use Rattle.host_calls.specs.Meters.{Metered}
use Rattle.rv_step.specs.Runs.{start}
use Rattle.executor.specs.Cutting.{Cutting, CutsRun, IsWhole, IsCutting}
use Rattle.executor.proofs.UnderWay.{some_of}
use Rattle.executor.proofs.Sealed.{opened_pages, pages_left}
use Rattle.executor.proofs.Onward.{stands_over, stands_next, cutting_given}
use Rattle.executor.proofs.executor.Executor.turn.Goals as goal

-- the run has ended
pub invariant_of-self : goal.invariant_of-self
invariant_of-self g c =
    let v : Cutting = record { going = c.self.inside.flat; limits = c.self.inside.limits; number = c.self.inside.number; beginning = c.self.inside.beginning; steps = c.self.inside.steps; meter = c.self.inside.meter.segment; outcome = c.self.inside.outcome } in
    let some : 1 ≤ v.steps = omega (arith, c.requires.some, ap (λ (x : Cutting). x.steps) c.self.view_is) in
    let whole = subst (λ (x : Cutting). (image : Image) (words : List ℕ) → (stands : CutsRun x image words) → IsWhole (start image words) x stands.segment) (sym c.self.view_is) c.requires.whole in
    let h : IsCutting v = c.self.invariant in
    let (o, told) = some_of c.self.inside.outcome (sym c.is_some.ensures ∙ c.if-is_some.true) in
    cutting_given v v.beginning v.meter some h (stands_over v v.beginning v.meter some h.image h.words o told h.stands (whole h.image h.words h.stands)) refl refl
    (omega (arith, c.requires.few, ap (λ (x : Cutting). x.number) c.self.view_is))

pub returns-then-is_some-clause-stands : goal.returns-then-is_some-clause-stands
returns-then-is_some-clause-stands g c image words stands =
    let v : Cutting = record { going = c.self.inside.flat; limits = c.self.inside.limits; number = c.self.inside.number; beginning = c.self.inside.beginning; steps = c.self.inside.steps; meter = c.self.inside.meter.segment; outcome = c.self.inside.outcome } in
    let some : 1 ≤ v.steps = omega (arith, c.requires.some, ap (λ (x : Cutting). x.steps) c.self.view_is) in
    let whole = subst (λ (x : Cutting). (image : Image) (words : List ℕ) → (stands : CutsRun x image words) → IsWhole (start image words) x stands.segment) (sym c.self.view_is) c.requires.whole in
    let here : CutsRun v image words = subst (λ (x : Cutting). CutsRun x image words) (sym c.self.view_is) stands in
    let (o, told) = some_of c.self.inside.outcome (sym c.is_some.ensures ∙ c.if-is_some.true) in
    stands_over v v.beginning v.meter some image words o told here (whole image words here)

-- the run goes on
pub next-requires-clause-ascending : goal.next-requires-clause-ascending
next-requires-clause-ascending g c κs within =
    let some = ap (λ (x : Cutting). x.steps) c.self.view_is in
    subst (λ (ps : List ℕ). AscendFrom 0 ps) (sym c.pages.ensures.value) (opened_pages _ c.self.invariant (omega (arith, c.requires.some, some))).ascending

pub next-requires-clause-others : goal.next-requires-clause-others
next-requires-clause-others g c κs within page low away =
    let some = ap (λ (x : Cutting). x.steps) c.self.view_is in
    pages_left _ c.self.invariant (omega (arith, c.requires.some, some)) (none_from c.self.inside.outcome (sym c.is_some.ensures ∙ c.if-is_some.false)) page low
    (subst (λ (ps : List ℕ). ¬ Contains ps page) c.pages.ensures.value away)

pub invariant_of-self-2 : goal.invariant_of-self-2
invariant_of-self-2 g c =
    let v : Cutting = record { going = c.self.inside.flat; limits = c.self.inside.limits; number = c.self.inside.number; beginning = c.self.inside.beginning; steps = c.self.inside.steps; meter = c.self.inside.meter.segment; outcome = c.self.inside.outcome } in
    let some : 1 ≤ v.steps = omega (arith, c.requires.some, ap (λ (x : Cutting). x.steps) c.self.view_is) in
    let whole = subst (λ (x : Cutting). (image : Image) (words : List ℕ) → (stands : CutsRun x image words) → IsWhole (start image words) x stands.segment) (sym c.self.view_is) c.requires.whole in
    let h : IsCutting v = c.self.invariant in
    let untold = none_from c.self.inside.outcome (sym c.is_some.ensures ∙ c.if-is_some.false) in
    let fresh = c.in_ok-clear.ensures.fresh in
    cutting_given v c.in_ok-beginning.beginning c.clear.new.self.segment some h
    (stands_next v c.in_ok-beginning.beginning c.clear.new.self.segment some untold (h.halted untold) c.in_ok-beginning.ensures.pc c.in_ok-beginning.ensures.read c.in_ok-beginning.ensures.memory fresh h.image h.words h.stands.run h.stands (whole h.image h.words h.stands))
    (ap (λ (m : Metered). m.cycles) fresh) (ap (λ (m : Metered). m.pages) fresh)
    (omega (arith, c.requires.few, ap (λ (x : Cutting). x.number) c.self.view_is))

pub returns-clause-stands : goal.returns-clause-stands
returns-clause-stands g c image words stands =
    let v : Cutting = record { going = c.self.inside.flat; limits = c.self.inside.limits; number = c.self.inside.number; beginning = c.self.inside.beginning; steps = c.self.inside.steps; meter = c.self.inside.meter.segment; outcome = c.self.inside.outcome } in
    let some : 1 ≤ v.steps = omega (arith, c.requires.some, ap (λ (x : Cutting). x.steps) c.self.view_is) in
    let whole = subst (λ (x : Cutting). (image : Image) (words : List ℕ) → (stands : CutsRun x image words) → IsWhole (start image words) x stands.segment) (sym c.self.view_is) c.requires.whole in
    let here : CutsRun v image words = subst (λ (x : Cutting). CutsRun x image words) (sym c.self.view_is) stands in
    let untold = none_from c.self.inside.outcome (sym c.is_some.ensures ∙ c.if-is_some.false) in
    stands_next v c.in_ok-beginning.beginning c.clear.new.self.segment some untold (c.self.invariant.halted untold) c.in_ok-beginning.ensures.pc c.in_ok-beginning.ensures.read c.in_ok-beginning.ensures.memory c.in_ok-clear.ensures.fresh image words here.run here (whole image words here)
