use Rattle.std.proofs.Common.{rules, ◌≡◌, ⊎_elim, sym, ◌∙◌}
use Rattle.std.proofs.lemmas.Option.{none-some}
use Rattle.elf_image.specs.declared.stop.ElfStop.TheVariants.{Memory}
use Rattle.prove_calls.proofs.Generated.{generated_passes}
use Rattle.prove_calls.proofs.generate.load_generated.Goals as goal

pub unreachable-requires : goal.unreachable-requires
unreachable-requires c =
    let not_memory : c.in-Err.field-0 ≡ Memory → ⊥ = search rules in
    ⊎_elim not_memory (λ fault. none-some c.in-Err.field-0 (sym (generated_passes c.args.size c.args.elf.now c.requires) ∙ fault)) c.in-Err.ensures.fault
