-- The guest and the input words in two files, and what is answered where they hold none.
use Rattle.std.specs.Prelude.{◌≢◌, ◌⊎◌, ℕ, ◌≡◌, ◌%◌, ◌^◌, ◌<◌, List, length, All, Option}
use Rattle.std.specs.Int.{w32, to_le_bytes}
use Rattle.std.specs.List.{flat_map}
use Rattle.outside.specs.Files.{Files}
use Rattle.page_core.specs.Images.{Image}
use Rattle.cli_text.specs.declared.status.Status.{Status}
use Rattle.cli_text.specs.declared.status.Status.TheVariants.{BadFile}
use Rattle.cli_text.specs.Files.{bad_input_lines}
use Rattle.command_frame.specs.Ends.{Kept}
use Rattle.command_frame.specs.Reading.{IsTold, IsRead, IsUnread, HasImage, HasNoImage}
use Rattle.command_frame.specs.declared.reading.TheConstants.{MOST_INPUT_BYTES}

-- the bytes are those of these words, each of four bytes, little-endian
pub record IsInput (bytes words : List ℕ) : Type 0 where
  pub are_words : All (λ word. word < 2 ^ 32) words
  pub bytes_are : bytes ≡ flat_map (to_le_bytes w32) words

-- the file of a name is read, and has whole words
pub record HasInput (name : List ℕ) (told : Option Files) (words : List ℕ) : Type 0 where
  pub bytes : List ℕ
  pub is_read : IsRead MOST_INPUT_BYTES name told bytes
  pub is_input : IsInput bytes words

-- the names of an ELF file and of an input file hold a guest's image and its input words
pub record HasGuest (elf input : List ℕ) (told : Option Files) (image : Image) (words : List ℕ) : Type 0 where
  pub loads : HasImage elf told image
  pub reads : HasInput input told words

-- ---- what is answered where they don't, in the order of the causes
pub record IsBadInput (bytes : List ℕ) (status : Status) (lines : List ℕ) (kept : Option Kept) : Type 0 where
  pub not_whole : length bytes % 4 ≢ 0
  pub told : IsTold BadFile (bad_input_lines (length bytes)) status lines kept

-- the file of a name is read, and has no whole words
pub record ReadsNone (name : List ℕ) (told : Option Files) (status : Status) (lines : List ℕ) (kept : Option Kept) : Type 0 where
  pub bytes : List ℕ
  pub is_read : IsRead MOST_INPUT_BYTES name told bytes
  pub bad : IsBadInput bytes status lines kept

-- the ELF file loads an image, and the input file isn't read or has no whole words
pub record HasNoInput (elf input : List ℕ) (told : Option Files) (status : Status) (lines : List ℕ) (kept : Option Kept) : Type 0 where
  pub image : Image
  pub loads : HasImage elf told image
  pub none : IsUnread MOST_INPUT_BYTES input told status lines kept ⊎ ReadsNone input told status lines kept

abbrev pub HasNoGuest : List ℕ → List ℕ → Option Files → Status → List ℕ → Option Kept → Type 0
HasNoGuest elf input told status lines kept =
    HasNoImage elf told status lines kept
    ⊎ HasNoInput elf input told status lines kept
