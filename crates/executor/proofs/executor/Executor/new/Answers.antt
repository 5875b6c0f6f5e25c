use Rattle.std.proofs.Common.{None, refl, sym, ap, ◌∙◌, subst, arith}
use Rattle.page_core.specs.Images.{Image}
use Rattle.page_core.specs.Stored.{Stored, IsStoredFrom, memory_of}
use Rattle.elf_image.specs.Loaded.{image_of}
use Rattle.host_calls.specs.Meters.{Metered}
use Rattle.rv_step.specs.Runs.{start}
use Rattle.flat_machine.specs.Going.{Going}
use Rattle.executor.specs.Cutting.{Beginning, Cutting, IsBeginning, CutsRun, IsCutting}
use Rattle.executor.proofs.UnderWay.{zero_registers, first_begins, stands_new, cutting_new}
use Rattle.executor.proofs.executor.Executor.new.Goals as goal

pub invariant_of-result-2 : goal.invariant_of-result-2
invariant_of-result-2 g c =
    let steps = c.in_ok-lift.ensures.same.steps ∙ c.new-flat.ensures.start in
    let cycles = c.in_ok-lift.ensures.same.cycles in
    let image : Image = image_of c.args.image in
    let run = c.lift.ensures.stands image c.args.words.items c.new-flat.ensures.stands in
    let first : Beginning = record { pc = c.args.image.entry; read = 0; tree = c.in_ok-from_map.field-0 } in
    let begins : IsBeginning (start image c.args.words.items) 0 (start image c.args.words.items) first =
    first_begins image c.args.words.items first c.args.image.rest refl refl (subst (λ (t : Stored). IsStoredFrom 0 t) (sym c.in_ok-from_map.ensures.tree) c.in_ok-from_map.ensures.numbers) (ap memory_of c.in_ok-from_map.ensures.tree) in
    let at : Going → Cutting = λ x. record { going = x; limits = c.args.limits; number = 0; beginning = first; steps = 0; meter = c.in_ok-new.field-0.segment; outcome = None } in
    subst (λ (x : Going). IsCutting (at x)) (sym c.flat.view_is)
    (cutting_new (at c.lift.new.self) image c.args.words.items (record { aligned = c.args.image.aligned; registers = zero_registers; is_word = omega (arith, c.args.image.below) })
    (stands_new (at c.lift.new.self) image c.args.words.items run steps refl begins refl (ap (λ (m : Metered). m.cost) c.in_ok-new.ensures) (ap (λ (m : Metered). m.touched) c.in_ok-new.ensures) refl)
    steps (omega (arith, cycles, steps, c.new-flat.ensures.start, ap (λ (x : Going). x.cycles) c.flat.view_is, ap (λ (x : Going). x.steps) c.flat.view_is, c.flat.invariant.going.most)) refl c.cycles.ensures.ranges
    (ap (λ (m : Metered). m.cycles) c.in_ok-new.ensures ∙ c.cycles.ensures.value) (ap (λ (m : Metered). m.pages) c.in_ok-new.ensures ∙ c.pages.ensures.value))

pub returns-clause-stands : goal.returns-clause-stands
returns-clause-stands g c =
    let steps = c.in_ok-lift.ensures.same.steps ∙ c.new-flat.ensures.start in
    let image : Image = image_of c.args.image in
    let first : Beginning = record { pc = c.args.image.entry; read = 0; tree = c.in_ok-from_map.field-0 } in
    let begins : IsBeginning (start image c.args.words.items) 0 (start image c.args.words.items) first =
    first_begins image c.args.words.items first c.args.image.rest refl refl (subst (λ (t : Stored). IsStoredFrom 0 t) (sym c.in_ok-from_map.ensures.tree) c.in_ok-from_map.ensures.numbers) (ap memory_of c.in_ok-from_map.ensures.tree) in
    let at : Going → Cutting = λ x. record { going = x; limits = c.args.limits; number = 0; beginning = first; steps = 0; meter = c.in_ok-new.field-0.segment; outcome = None } in
    subst (λ (x : Going). CutsRun (at x) image c.args.words.items) (sym c.flat.view_is)
    (stands_new (at c.lift.new.self) image c.args.words.items (c.lift.ensures.stands image c.args.words.items c.new-flat.ensures.stands) steps refl begins refl (ap (λ (m : Metered). m.cost) c.in_ok-new.ensures) (ap (λ (m : Metered). m.touched) c.in_ok-new.ensures) refl)
