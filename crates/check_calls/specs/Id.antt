-- `id`: what it answers, a cause a row, in their order; what a status of 0 tells; and when that has to come. H is the digest function.
use Rattle.std.specs.Prelude.{◌≡◌, ◌⊎◌, ℕ, ◌≤◌, List, length, Option, Some, None}
use Rattle.outside.specs.Files.{Files}
use Rattle.page_core.specs.Images.{Image}
use Rattle.claim_types.specs.States.{image_id}
use Rattle.elf_image.specs.Tests.{elf_fault}
use Rattle.cli_text.specs.declared.status.Status.{Status}
use Rattle.cli_text.specs.declared.status.Status.TheVariants.{Done}
use Rattle.cli_text.specs.Files.{id_lines}
use Rattle.command_frame.specs.Ends.{Kept, IsPut}
use Rattle.command_frame.specs.Reading.{IsTold, HasImage, HasNoImage}
use Rattle.command_frame.specs.declared.reading.TheConstants.{MOST_ELF_BYTES}

-- the ELF file loads an image, and its id is told
pub record IsIdentified (H : List ℕ → List ℕ) (elf : List ℕ) (told : Option Files) (status : Status) (lines : List ℕ) (kept : Option Kept) : Type 0 where
  pub image : Image
  pub loads : HasImage elf told image
  pub answers : IsTold Done (id_lines (image_id H image)) status lines kept

abbrev pub AnswersId : (List ℕ → List ℕ) → List ℕ → Option Files → Status → List ℕ → Option Kept → Type 0
AnswersId H elf told status lines kept =
    HasNoImage elf told status lines kept
    ⊎ IsIdentified H elf told status lines kept

-- with status 0 the ELF file loads an image, and exactly the line of its id is put
pub record IsIdentifiedPut (H : List ℕ → List ℕ) (elf : List ℕ) (told told' : Option Files) (taken taken' : Option (List ℕ)) : Type 0 where
  pub image : Image
  pub loads : HasImage elf told image
  pub put : IsPut None (id_lines (image_id H image)) told told' taken taken'

-- it has to come where the bytes of the file, as told, fail no test
pub record PassesTests (elf : List ℕ) (files : Files) : Type 0 where
  pub bytes : List ℕ
  pub held : files elf ≡ Some bytes
  pub within : length bytes ≤ MOST_ELF_BYTES
  pub passes : elf_fault bytes ≡ None
