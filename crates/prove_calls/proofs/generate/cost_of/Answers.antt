use Rattle.std.proofs.Common.{ap, ◌∙◌}
use Rattle.elf_image.specs.Loaded.{image_of}
use Rattle.rv_step.specs.Runs.{start, run_cost}
use Rattle.prove_calls.proofs.generate.cost_of.Goals as goal

pub returns : goal.returns
returns c =
    let image = image_of c.args.image in
    let words = c.args.words.items in
    let ends = c.in_ok-run.ensures.outcome image words c.new-flat.ensures.stands in
    record { outcome = c.in_ok-run.field-0; ends = ends.ends; cost = c.cycles.ensures ∙ ends.stands.cost ∙ ap (run_cost (start image words)) ends.steps }
