use Rattle.std.proofs.Common.{◌≡◌, ℕ, arith, subst, sym, ◌∙◌}
use Rattle.page_core.specs.Memories.{flat}
use Rattle.page_core.proofs.Options.{none_from}
use Rattle.rv_step.specs.Opened.{page_in, pages_in}
use Rattle.seal_replay.proofs.Entered.{AreShown, all_shown, none_shown}
use Rattle.seal_replay.proofs.entering.registers.Goals as goal

pub returns-then-not-is_open : goal.returns-then-not-is_open
returns-then-not-is_open c =
    all_shown (flat (pages_in c.args.pages.now)) c.new-regs.result
    (subst (λ x. AreShown (flat (pages_in c.args.pages.now)) x 32) (sym c.new-regs.ensures)
    (none_shown c.args.pages.now (none_from (page_in c.args.pages.now 262143) (sym c.is_open.ensures ∙ c.if-not-is_open.true))))

pub returns : goal.returns
returns c =
    let all : c.loop-n.n ≡ 32 = omega arith in
    all_shown (flat (pages_in c.args.pages.now)) c.loop-n.regs
    (subst (λ (n : ℕ). AreShown (flat (pages_in c.args.pages.now)) c.loop-n.regs n) all c.loop-n.invariant)
