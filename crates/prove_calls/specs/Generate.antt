-- `generate`: what it answers, a cause a row, in their order; what a status of 0 tells; and when that has to come. It reads and writes no
-- file. H is the digest function.
use Rattle.std.specs.Prelude.{◌≡◌, ◌⊎◌, ℕ, ◌+◌, List, [], length, Option, None}
use Rattle.outside.specs.Files.{Files}
use Rattle.rv_step.specs.Runs.{run_cost}
use Rattle.elf_image.specs.Loaded.{Loads}
use Rattle.executor.specs.Segments.{Limits}
use Rattle.guest_gen.specs.Assembly.{IsAssembled}
use Rattle.guest_gen.specs.Generator.{generated_guest, input_words}
use Rattle.cli_text.specs.declared.status.Status.{Status}
use Rattle.cli_text.specs.declared.status.Status.TheVariants.{Done}
use Rattle.cli_text.specs.Reports.{generated_lines}
use Rattle.command_frame.specs.Ends.{Kept, IsPut}
use Rattle.command_frame.specs.Reading.{IsTold}
use Rattle.prove_calls.specs.Prove.{Run, beginning, Proves, StopsRun, CanProve}

-- the number and the size of the generator's guest, and the limits of the run and its segments
pub record GeneratorAsked : Type 0 where
  pub number : ℕ
  pub size : ℕ
  pub limits : Limits

-- the generator's guest: this is its ELF file, which loads the image, and the words are those that it reads
pub record IsGenerated (asked : GeneratorAsked) (elf : List ℕ) (run : Run) : Type 0 where
  pub assembled : IsAssembled (generated_guest asked.size) elf
  pub loads : Loads elf run.image
  pub words : run.words ≡ input_words asked.number asked.size
  pub limits : run.limits ≡ asked.limits
  pub alone : run.others ≡ []

-- ---- the answers, in the order of their causes
-- the lines of what was generated and proved: the lengths of the ELF file and of the input, the run's cost, the report, and the receipt's length
abbrev pub generate_lines : (H : List ℕ → List ℕ) (asked : GeneratorAsked) (elf : List ℕ) (run : Run) → Proves H run → List ℕ
generate_lines H asked elf run proves =
    generated_lines asked.number asked.size (length elf) (length run.words) (run_cost (beginning run) (proves.ends.step + 1)) proves.report (length proves.bytes)

pub record IsGeneratedProof (H : List ℕ → List ℕ) (asked : GeneratorAsked) (elf : List ℕ) (run : Run) (status : Status) (lines : List ℕ) (kept : Option Kept) : Type 0 where
  pub proves : Proves H run
  pub told : IsTold Done (generate_lines H asked elf run proves) status lines kept

pub record AnswersGenerate (H : List ℕ → List ℕ) (asked : GeneratorAsked) (status : Status) (lines : List ℕ) (kept : Option Kept) : Type 0 where
  pub elf : List ℕ
  pub run : Run
  pub generated : IsGenerated asked elf run
  pub answers : StopsRun H run status lines kept ⊎ IsGeneratedProof H asked elf run status lines kept

-- ---- status 0
pub record IsSummed (H : List ℕ → List ℕ) (asked : GeneratorAsked) (told told' : Option Files) (taken taken' : Option (List ℕ)) : Type 0 where
  pub elf : List ℕ
  pub run : Run
  pub generated : IsGenerated asked elf run
  pub proves : Proves H run
  pub put : IsPut None (generate_lines H asked elf run proves) told told' taken taken'

-- it has to come where each run of the generator's guest can be proved
pub record CompletesGenerate (H : List ℕ → List ℕ) (asked : GeneratorAsked) : Type 0 where
  pub can : (elf : List ℕ) (run : Run) → IsGenerated asked elf run → CanProve H run
