-- Files that aren't read, and ELF files that load no image, are answered with another status than that of a collision.
use Rattle.std.proofs.Common.{◌≡◌, inl, inr, ℕ, List, Option, Some, None}
use Rattle.outside.specs.Files.{Files}
use Rattle.cli_text.specs.declared.status.Status.{Status}
use Rattle.cli_text.specs.declared.status.Status.TheVariants.{NoFile, TooLong, BadFile, Collision}
use Rattle.command_frame.specs.Ends.{Kept}
use Rattle.command_frame.specs.declared.reading.TheConstants.{MOST_ELF_BYTES}
use Rattle.command_frame.specs.Reading.{NotRead, IsUnread, HasNoImage}

collision_no_file : Collision ≡ NoFile → ⊥
collision_no_file e = cc

collision_too_long : Collision ≡ TooLong → ⊥
collision_too_long e = cc

collision_bad_file : Collision ≡ BadFile → ⊥
collision_bad_file e = cc

module _ (limit : ℕ) (name : List ℕ) (lines : List ℕ) (kept : Option Kept) where
  not_read_collision : (held : Option (List ℕ)) → NotRead limit name held Collision lines kept → ⊥
  not_read_collision None answers = collision_no_file answers.status_is
  not_read_collision (Some bytes) answers = collision_too_long answers.1.status_is

  pub unread_not_collision : (told : Option Files) → IsUnread limit name told Collision lines kept → ⊥
  unread_not_collision told unread = not_read_collision unread.held unread.answers

module _ (elf : List ℕ) (lines : List ℕ) (kept : Option Kept) where
  pub no_image_not_collision : (told : Option Files) → HasNoImage elf told Collision lines kept → ⊥
  no_image_not_collision told (inl unread) = unread_not_collision MOST_ELF_BYTES elf lines kept told unread
  no_image_not_collision told (inr none) = collision_bad_file none.bad.answers.status_is
