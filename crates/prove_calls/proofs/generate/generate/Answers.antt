use Rattle.std.proofs.Common.{rules, ◌≡◌, ℕ, List, Err, sym, ap, subst, ◌∙◌}
use Rattle.byte_cursor.specs.Growing.{Growing}
use Rattle.check_core.specs.Checked.{Checked}
use Rattle.elf_image.specs.Loaded.{Loads, image_of}
use Rattle.guest_gen.specs.Assembly.{IsAssembled}
use Rattle.guest_gen.specs.Generator.{generated_guest}
use Rattle.resolve.specs.Resolving.{bundles_of}
use Rattle.cli_text.specs.declared.status.Status.TheVariants.{Done}
use Rattle.cli_text.specs.Reports.{generated_lines}
use Rattle.command_frame.proofs.Causes.{ended_by}
use Rattle.prove_calls.specs.Generate.{GeneratorAsked, IsGenerated, AnswersGenerate}
use Rattle.prove_calls.specs.Generating.{HasCost}
use Rattle.prove_calls.specs.Prove.{Run}
use Rattle.prove_calls.specs.Proofs.{run_of}
use Rattle.prove_calls.proofs.Told.{ended_told}
use Rattle.prove_calls.proofs.Answering.{is_generated, generate_stops, generate_told}
use Rattle.prove_calls.proofs.generate.generate.Goals as goal

pub returns-in_err-proof-clause-answer : goal.returns-in_err-proof-clause-answer
returns-in_err-proof-clause-answer g c =
    let H = g.D.Digester.digest_of in
    let asked : GeneratorAsked = record { number = c.args.number; size = c.args.size; limits = c.args.limits } in
    let elf : List ℕ = c.in_ok-elf.elf.items in
    let run : Run = run_of (image_of c.in_ok-image.image) c.in_ok-copies.copies.items asked.limits (bundles_of c.as_slice-3.result.now) in
    let generated : IsGenerated asked elf run =
    is_generated asked elf c.in_ok-elf.ensures.file (image_of c.in_ok-image.image) c.as_slice.result.now c.as_slice.ensures c.in_ok-image.ensures c.in_ok-copies.copies.items
    (c.in_ok-copies.ensures ∙ c.as_slice-2.ensures ∙ c.in_ok-elf.ensures.words) (bundles_of c.as_slice-3.result.now)
    (ap bundles_of (c.as_slice-3.ensures ∙ ap (λ (others : Growing Checked). others.items) c.new-others.ensures)) in
    let end = c.in_err-proof.field-0.0 in
    let is : c.from_residual-in_err-proof.result ≡ Err end = search rules in
    ended_by (AnswersGenerate H asked) c.from_residual-in_err-proof.result end is (generate_stops H asked elf run generated end c.in_err-proof.ensures.stops)

pub load_generated-requires-2 : goal.load_generated-requires-2
load_generated-requires-2 g c = subst (IsAssembled (generated_guest c.args.size)) (sym c.as_slice-4.ensures) c.in_ok-elf.ensures.file

pub returns-clause-answer : goal.returns-clause-answer
returns-clause-answer g c =
    let H = g.D.Digester.digest_of in
    let asked : GeneratorAsked = record { number = c.args.number; size = c.args.size; limits = c.args.limits } in
    let elf : List ℕ = c.in_ok-elf.elf.items in
    let words : List ℕ = c.in_ok-elf.words.items in
    let copies : c.in_ok-copies.copies.items ≡ words = c.in_ok-copies.ensures ∙ c.as_slice-2.ensures in
    let run : Run = run_of (image_of c.in_ok-image.image) c.in_ok-copies.copies.items asked.limits (bundles_of c.as_slice-3.result.now) in
    let generated : IsGenerated asked elf run =
    is_generated asked elf c.in_ok-elf.ensures.file (image_of c.in_ok-image.image) c.as_slice.result.now c.as_slice.ensures c.in_ok-image.ensures c.in_ok-copies.copies.items
    (copies ∙ c.in_ok-elf.ensures.words) (bundles_of c.as_slice-3.result.now) (ap bundles_of (c.as_slice-3.ensures ∙ ap (λ (others : Growing Checked). others.items) c.new-others.ensures)) in
    let proof = c.in_ok-proof.proof in
    let image = image_of c.in_ok-image-2.image in
    let loads : Loads elf image = subst (λ (file : List ℕ). Loads file image) c.as_slice-4.ensures c.in_ok-image-2.ensures in
    let cycles : ℕ = c.in_ok-cycles.cycles in
    let cost : HasCost image words asked.limits.limit cycles = subst (λ (limit : ℕ). HasCost image words limit cycles) c.limit.ensures.value c.in_ok-cycles.ensures in
    let lines = c.in_ok-lines.lines in
    ended_told (AnswersGenerate H asked) c.new.result Done lines c.new.ensures
    (generate_told H asked elf run generated proof c.in_ok-proof.ensures.proof image loads words (sym copies) cycles cost lines.items
    (c.in_ok-lines.ensures ∙ (λ i. generated_lines asked.number asked.size (c.len.ensures i) (c.len-input.ensures i) cycles proof.report (c.len-2.ensures i)))) tt
