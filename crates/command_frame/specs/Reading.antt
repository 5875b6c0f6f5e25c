-- What the files that a command reads hold, and what is answered where they don't hold it. Where a desk tells nothing of its files,
-- these say that there are bytes of which they hold: those that were read.
use Rattle.std.specs.Prelude.{◌≡◌, ◌⊎◌, ⊤, ℕ, ◌<◌, ◌≤◌, List, length, Option, Some, None}
use Rattle.outside.specs.Files.{Files}
use Rattle.page_core.specs.Images.{Image}
use Rattle.elf_image.specs.declared.stop.ElfStop.{ElfStop}
use Rattle.elf_image.specs.Tests.{elf_fault}
use Rattle.elf_image.specs.Loaded.{Loads}
use Rattle.cli_text.specs.declared.status.Status.{Status}
use Rattle.cli_text.specs.declared.status.Status.TheVariants.{NoFile, TooLong, BadFile}
use Rattle.cli_text.specs.Files.{no_file_lines, too_long_lines, bad_elf_lines}
use Rattle.command_frame.specs.Ends.{Kept}
use Rattle.command_frame.specs.declared.reading.TheConstants.{MOST_ELF_BYTES}

-- what a name holds, as far as the files are told
abbrev pub IsHeld : Option Files → List ℕ → Option (List ℕ) → Type 0
IsHeld None name held = ⊤
IsHeld (Some files) name held = files name ≡ held

-- a file that is read: it is there, and has at most so many bytes
pub record IsRead (limit : ℕ) (name : List ℕ) (told : Option Files) (bytes : List ℕ) : Type 0 where
  pub held : IsHeld told name (Some bytes)
  pub within : length bytes ≤ limit

-- an answer that writes no file
pub record IsTold (wanted : Status) (text : List ℕ) (status : Status) (lines : List ℕ) (kept : Option Kept) : Type 0 where
  pub status_is : status ≡ wanted
  pub lines_are : lines ≡ text
  pub nothing_kept : kept ≡ None

-- a file that isn't there, or is longer
abbrev pub NotRead : ℕ → List ℕ → Option (List ℕ) → Status → List ℕ → Option Kept → Type 0
NotRead limit name None status lines kept = IsTold NoFile (no_file_lines name) status lines kept
NotRead limit name (Some bytes) status lines kept = (limit < length bytes) × IsTold TooLong (too_long_lines name) status lines kept

pub record IsUnread (limit : ℕ) (name : List ℕ) (told : Option Files) (status : Status) (lines : List ℕ) (kept : Option Kept) : Type 0 where
  pub held : Option (List ℕ)
  pub is_held : IsHeld told name held
  pub answers : NotRead limit name held status lines kept

-- ---- an ELF file
-- its bytes fail a test, this one first
pub record IsBadElf (bytes : List ℕ) (status : Status) (lines : List ℕ) (kept : Option Kept) : Type 0 where
  pub stop : ElfStop
  pub is_first : elf_fault bytes ≡ Some stop
  pub answers : IsTold BadFile (bad_elf_lines stop) status lines kept

-- the file of a name is read, and loads an image
pub record HasImage (name : List ℕ) (told : Option Files) (image : Image) : Type 0 where
  pub bytes : List ℕ
  pub is_read : IsRead MOST_ELF_BYTES name told bytes
  pub loads : Loads bytes image

-- it is read, and loads none
pub record LoadsNone (name : List ℕ) (told : Option Files) (status : Status) (lines : List ℕ) (kept : Option Kept) : Type 0 where
  pub bytes : List ℕ
  pub is_read : IsRead MOST_ELF_BYTES name told bytes
  pub bad : IsBadElf bytes status lines kept

-- it isn't read, or loads none
abbrev pub HasNoImage : List ℕ → Option Files → Status → List ℕ → Option Kept → Type 0
HasNoImage name told status lines kept = IsUnread MOST_ELF_BYTES name told status lines kept ⊎ LoadsNone name told status lines kept
