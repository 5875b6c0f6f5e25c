-- Files that aren't read, and ELF files that load no image.
use Rattle.std.proofs.Common.{◌≡◌, ◌≤◌, inl, inr, ℕ, List, length, Option, Some, None, sym, ap, ◌∙◌, arith}
use Rattle.std.proofs.lemmas.Option.{same_Some}
use Rattle.outside.specs.Files.{Files}
use Rattle.elf_image.specs.Tests.{elf_fault}
use Rattle.cli_text.specs.declared.status.Status.{Status}
use Rattle.cli_text.specs.declared.status.Status.TheVariants.{Done, NoFile, TooLong, BadFile}
use Rattle.command_frame.specs.Ends.{Kept}
use Rattle.command_frame.specs.declared.reading.TheConstants.{MOST_ELF_BYTES}
use Rattle.command_frame.specs.Reading.{IsRead, NotRead, IsUnread, HasNoImage}

done_no_file : Done ≡ NoFile → ⊥
done_no_file e = cc

done_too_long : Done ≡ TooLong → ⊥
done_too_long e = cc

done_bad_file : Done ≡ BadFile → ⊥
done_bad_file e = cc

none_some : {A : Type 0} (x : A) → None ≡ Some x → ⊥
none_some x e = cc

module _ (limit : ℕ) (name : List ℕ) (status : Status) (lines : List ℕ) (kept : Option Kept) where
  not_read_done : (held : Option (List ℕ)) → NotRead limit name held status lines kept → status ≡ Done → ⊥
  not_read_done None answers done = done_no_file (sym done ∙ answers.status_is)
  not_read_done (Some bytes) answers done = done_too_long (sym done ∙ answers.1.status_is)

  -- the status is another than 0
  pub unread_not_done : (told : Option Files) → IsUnread limit name told status lines kept → status ≡ Done → ⊥
  unread_not_done told unread = not_read_done unread.held unread.answers

  not_held : (held : Option (List ℕ)) (bytes : List ℕ) → NotRead limit name held status lines kept → held ≡ Some bytes → length bytes ≤ limit → ⊥
  not_held None bytes answers is within = none_some bytes is
  not_held (Some others) bytes answers is within = let same = ap length (same_Some others bytes is) in omega (arith, same, within, answers.0)

  -- a file that is there and is short enough is read
  pub unread_not_held : (files : Files) (bytes : List ℕ) → IsUnread limit name (Some files) status lines kept → files name ≡ Some bytes → length bytes ≤ limit → ⊥
  unread_not_held files bytes unread held within = not_held unread.held bytes unread.answers (sym unread.is_held ∙ held) within

-- what was read is what the file holds
pub read_held : (limit : ℕ) (name : List ℕ) (files : Files) (read bytes : List ℕ) → IsRead limit name (Some files) read → files name ≡ Some bytes → read ≡ bytes
read_held limit name files read bytes is held = same_Some read bytes (sym is.held ∙ held)

module _ (elf : List ℕ) (status : Status) (lines : List ℕ) (kept : Option Kept) where
  pub no_image_not_done : (told : Option Files) → HasNoImage elf told status lines kept → status ≡ Done → ⊥
  no_image_not_done told (inl unread) done = unread_not_done MOST_ELF_BYTES elf status lines kept told unread done
  no_image_not_done told (inr none) done = done_bad_file (sym done ∙ none.bad.answers.status_is)

  -- an ELF file that fails no test loads an image
  pub no_image_not_passes : (files : Files) (bytes : List ℕ) → HasNoImage elf (Some files) status lines kept → files elf ≡ Some bytes → length bytes ≤ MOST_ELF_BYTES → elf_fault bytes ≡ None → ⊥
  no_image_not_passes files bytes (inl unread) held within passes = unread_not_held MOST_ELF_BYTES elf status lines kept files bytes unread held within
  no_image_not_passes files bytes (inr none) held within passes =
      none_some none.bad.stop (sym passes ∙ ap elf_fault (sym (read_held MOST_ELF_BYTES elf files none.bytes bytes none.is_read held)) ∙ none.bad.is_first)
