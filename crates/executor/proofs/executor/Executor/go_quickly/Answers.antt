use Rattle.std.proofs.Common.{refl, sym, ◌∙◌, subst, arith}
use Rattle.page_core.proofs.Options.{none_from}
use Rattle.executor.specs.Marked.{with_steps}
use Rattle.executor.specs.Cutting.{Cutting, CutsRun}
use Rattle.executor.proofs.UnderWay.{few_steps}
use Rattle.executor.proofs.Quickly.{gone_on, stands_gone_on, cutting_gone_on}
use Rattle.executor.proofs.executor.Executor.go_quickly.Goals as goal

pub overflow_add-self : goal.overflow_add-self
overflow_add-self g c =
    let v : Cutting = record { going = c.self.inside.flat; limits = c.self.inside.limits; number = c.self.inside.number; beginning = c.self.inside.beginning; steps = c.self.inside.steps; meter = c.self.inside.meter.segment; outcome = c.self.inside.outcome } in
    let untold = none_from c.self.inside.outcome (sym c.is_some.ensures ∙ c.if-is_some.false) in
    let m = with_steps c.go_quickly-done.result v.meter in
    let after = cutting_gone_on v c.go_quickly-done.new.self c.go_quickly-done.result m untold (c.self.invariant.halted untold) c.go_quickly-done.ensures.went c.go_quickly-done.ensures.steps c.go_quickly-done.ensures.cycles c.go_quickly-done.ensures.halted
    (omega (arith, c.go_quickly-done.ensures.bound, c.min.ensures, c.limit.ensures.value, c.cycles.ensures, c.self.invariant.within)) (omega (arith, c.go_quickly-done.ensures.bound, c.min.ensures, c.room.ensures.room, c.self.invariant.cycles)) refl c.go_quickly-done.ensures.stands c.self.invariant in
    omega (arith, few_steps (gone_on v c.go_quickly-done.new.self c.go_quickly-done.result m) after untold)

pub invariant_of-self : goal.invariant_of-self
invariant_of-self g c =
    let v : Cutting = record { going = c.self.inside.flat; limits = c.self.inside.limits; number = c.self.inside.number; beginning = c.self.inside.beginning; steps = c.self.inside.steps; meter = c.self.inside.meter.segment; outcome = c.self.inside.outcome } in
    let untold = none_from c.self.inside.outcome (sym c.is_some.ensures ∙ c.if-is_some.false) in
    cutting_gone_on v c.go_quickly-done.new.self c.go_quickly-done.result c.add_quick.new.self.segment untold (c.self.invariant.halted untold) c.go_quickly-done.ensures.went c.go_quickly-done.ensures.steps c.go_quickly-done.ensures.cycles c.go_quickly-done.ensures.halted
    (omega (arith, c.go_quickly-done.ensures.bound, c.min.ensures, c.limit.ensures.value, c.cycles.ensures, c.self.invariant.within)) (omega (arith, c.go_quickly-done.ensures.bound, c.min.ensures, c.room.ensures.room, c.self.invariant.cycles)) c.add_quick.ensures c.go_quickly-done.ensures.stands c.self.invariant

pub returns-clause-stands : goal.returns-clause-stands
returns-clause-stands g c image words stands =
    let v : Cutting = record { going = c.self.inside.flat; limits = c.self.inside.limits; number = c.self.inside.number; beginning = c.self.inside.beginning; steps = c.self.inside.steps; meter = c.self.inside.meter.segment; outcome = c.self.inside.outcome } in
    let untold = none_from c.self.inside.outcome (sym c.is_some.ensures ∙ c.if-is_some.false) in
    let here = subst (λ (x : Cutting). CutsRun x image words) (sym c.self.view_is) stands in
    stands_gone_on v c.go_quickly-done.new.self c.go_quickly-done.result c.add_quick.new.self.segment untold (c.self.invariant.halted untold) c.go_quickly-done.ensures.went c.go_quickly-done.ensures.steps c.go_quickly-done.ensures.cycles c.go_quickly-done.ensures.halted
    (omega (arith, c.go_quickly-done.ensures.bound, c.min.ensures, c.limit.ensures.value, c.cycles.ensures, c.self.invariant.within)) (omega (arith, c.go_quickly-done.ensures.bound, c.min.ensures, c.room.ensures.room, c.self.invariant.cycles)) c.add_quick.ensures image words (c.go_quickly-done.ensures.stands image words here.run) here
