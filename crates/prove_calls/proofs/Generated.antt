-- The generator's guest: its ELF file passes the tests; the answers with a status of 0, and when they have to come. H is the digest function.
use Rattle.std.proofs.Common.{◌≡◌, ℕ, ◌*◌, List, ◌++◌, length, Option, None, inl, inr, ◌⊎◌, refl, sym, ap, subst, ◌∙◌, arith}
use Rattle.outside.specs.Files.{Files}
use Rattle.elf_image.specs.Tests.{elf_fault, all_load_tests}
use Rattle.elf_image.specs.Headers.{loads_from}
use Rattle.std.specs.List.{flat_map}
use Rattle.page_core.specs.Memory.{bytes}
use Rattle.page_core.proofs.Bytes.{length-words}
use Rattle.guest_gen.specs.Assembly.{word, file_header, load_header, elf_file, IsAssembled}
use Rattle.guest_gen.proofs.Lines.{lines_length}
use Rattle.guest_gen.specs.Generator.{generated_guest}
use Rattle.executor.specs.Laws.{AreLimits}
use Rattle.cli_text.specs.declared.status.Status.{Status}
use Rattle.cli_text.specs.declared.status.Status.TheVariants.{Done}
use Rattle.command_frame.specs.Ends.{Kept, IsPut}
use Rattle.prove_calls.specs.Prove.{StopsRun}
use Rattle.prove_calls.specs.Generate.{GeneratorAsked, IsGeneratedProof, AnswersGenerate, IsSummed, CompletesGenerate}
use Rattle.prove_calls.proofs.Done.{put_same}
use Rattle.prove_calls.proofs.Completed.{stops_done, loaded_ready, not_refused_run}

-- ---- the tests of its ELF file
-- they are those of its headers and of how long it is
headers_pass : (code : List ℕ) → length code ≡ 108 → elf_fault (file_header ++ (load_header 108 ++ code)) ≡ None
unfolding all_load_tests loads_from bytes
headers_pass code long = rw long refl

file_passes : (words : List ℕ) → length words ≡ 27 → elf_fault (elf_file words) ≡ None
file_passes words lines =
    let size : 4 * length words ≡ 108 = omega (arith, lines) in
    subst (λ (n : ℕ). elf_fault (file_header ++ (load_header n ++ flat_map word words)) ≡ None) (sym size) (headers_pass (flat_map word words) (length-words words ∙ size))

pub generated_passes : (size : ℕ) (elf : List ℕ) → IsAssembled (generated_guest size) elf → elf_fault elf ≡ None
generated_passes size elf is = ap elf_fault is.file_is ∙ file_passes is.words (lines_length (generated_guest size) is.words is.lines_are)

-- ---- the answers
module _ (H : List ℕ → List ℕ) (asked : GeneratorAsked) (told told' : Option Files) (taken taken' : Option (List ℕ)) (lines : List ℕ) (kept : Option Kept) (put : IsPut kept lines told told' taken taken') where
  pub generate_done : AnswersGenerate H asked Done lines kept → IsSummed H asked told told' taken taken'
  generate_done answers = of_answers answers.answers
    where
      of_answers : StopsRun H answers.run Done lines kept ⊎ IsGeneratedProof H asked answers.elf answers.run Done lines kept → IsSummed H asked told told' taken taken'
      of_answers (inl stops) = stops_done H answers.run lines kept stops
      of_answers (inr proved) = record {
        elf = answers.elf;
        run = answers.run;
        generated = answers.generated;
        proves = proved.proves;
        put = put_same lines _ kept None told told' taken taken' proved.told.lines_are proved.told.nothing_kept put;
      }

pub generate_complete : (H : List ℕ → List ℕ) (asked : GeneratorAsked) → AreLimits asked.limits → CompletesGenerate H asked → (status : Status) (lines : List ℕ) (kept : Option Kept) → AnswersGenerate H asked status lines kept
    → status ≡ Done
generate_complete H asked are all status lines kept answers = of_answers answers.answers
  where
    of_answers : StopsRun H answers.run status lines kept ⊎ IsGeneratedProof H asked answers.elf answers.run status lines kept → status ≡ Done
    of_answers (inl stops) =
        absurd
        (not_refused_run H answers.run (subst AreLimits (sym answers.generated.limits) are) (loaded_ready answers.elf answers.run.image answers.run.words answers.generated.loads)
        (all.can answers.elf answers.run answers.generated) status lines kept stops)
    of_answers (inr proved) = proved.told.status_is
