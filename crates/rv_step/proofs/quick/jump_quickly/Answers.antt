use Rattle.rv_step.proofs.QuickSteps.{sets_plainly, jump_at, plainly_as}
use Rattle.rv_step.specs.declared.act.Act.TheVariants.{Sets}
use Rattle.rv_step.proofs.quick.jump_quickly.Goals as goal

pub returns-clause-went : goal.returns-clause-went
returns-clause-went c _ m holds =
    plainly_as holds (Sets c.args.target c.args.rd c.args.value) _ _ _ m m (jump_at c.args.target c.args.rd c.args.value c.if-target-ne0.false)
    (sets_plainly holds c.args.target c.args.rd c.args.value _ _ m (λ i. record { pc = c.args.target; regs = c.set.ensures i }))
