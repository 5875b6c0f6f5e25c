use Rattle.std.proofs.Common.{◌≡◌, sym, ap, ◌∙◌, arith}
use Rattle.page_core.specs.Memories.{page_of}
use Rattle.rv_step.specs.Machine.{full, full_of}
use Rattle.flat_machine.specs.Layers.{memory_in}
use Rattle.flat_machine.specs.Going.{Going, flat_state}
use Rattle.flat_machine.proofs.FullPages.{page_in_memory, others_full}
use Rattle.flat_machine.proofs.flat.Flat.full_page.Goals as goal

pub returns-then-number-eq-REGISTER_PAGE : goal.returns-then-number-eq-REGISTER_PAGE
returns-then-number-eq-REGISTER_PAGE c =
    let here : c.args.number ≡ 262143 = omega (arith, c.if-number-eq-REGISTER_PAGE.true) in
    let was = page_in_memory c.self.inside.memory c.args.number c.of-page.result _ c.of-page.ensures c.bytes_of.ensures.value c.bytes_of.ensures.page in
    c.write_registers.ensures (memory_in c.self.inside.memory) (was ∙ ap (page_of (memory_in c.self.inside.memory)) here)
    ∙ ap (page_of (full_of (memory_in c.self.inside.memory) c.self.inside.core.regs)) (sym here)
    ∙ ap (λ (g : Going). page_of (full (flat_state g)) c.args.number) c.self.view_is

pub returns-else-number-eq-REGISTER_PAGE : goal.returns-else-number-eq-REGISTER_PAGE
returns-else-number-eq-REGISTER_PAGE c =
    let was = page_in_memory c.self.inside.memory c.args.number c.of-page.result _ c.of-page.ensures c.bytes_of.ensures.value c.bytes_of.ensures.page in
    was ∙ others_full (memory_in c.self.inside.memory) c.self.inside.core.regs c.args.number (omega (arith, c.requires, c.if-number-eq-REGISTER_PAGE.false))
    ∙ ap (λ (g : Going). page_of (full (flat_state g)) c.args.number) c.self.view_is
