-- What a read of a whole file tells of the files.
use Rattle.std.proofs.Common.{◌≡◌, ◌+◌, ◌<◌, ◌≤◌, ℕ, List, length, Option, Some, None, refl, arith}
use Rattle.std.specs.Prelude.{IfSome, IsNone, IsSomeAnd, replicate}
use Rattle.std.proofs.lemmas.List.{length-replicate}
use Rattle.outside.specs.Files.{Files}
use Rattle.cli_text.specs.declared.status.Status.TheVariants.{NoFile, TooLong}
use Rattle.cli_text.specs.Files.{no_file_lines, too_long_lines}
use Rattle.command_frame.specs.Reading.{IsHeld, IsRead, IsUnread}

is_none : (held : Option (List ℕ)) → IsNone held → held ≡ None
is_none None none = refl
is_none (Some bytes) none = absurd (cc)

module _ (limit : ℕ) (name : List ℕ) where
  held_whole : (told : Option Files) (bytes : List ℕ) → IfSome told (λ files. files name ≡ Some bytes) → IsHeld told name (Some bytes)
  held_whole None bytes holds = tt
  held_whole (Some files) bytes holds = holds

  -- it answered bytes
  pub is_read : (told : Option Files) (bytes : List ℕ) → IfSome told (λ files. files name ≡ Some bytes) → length bytes ≤ limit → IsRead limit name told bytes
  is_read told bytes holds within = record { held = held_whole told bytes holds; within = within }

  -- it answered that there is no file
  pub is_no_file : (told : Option Files) (lines : List ℕ) → IfSome told (λ files. IsNone (files name)) → lines ≡ no_file_lines name → IsUnread limit name told NoFile lines None
  is_no_file None lines none is = record { held = None; is_held = tt; answers = record { status_is = refl; lines_are = is; nothing_kept = refl } }
  is_no_file (Some files) lines none is =
      record { held = None; is_held = is_none (files name) none; answers = record { status_is = refl; lines_are = is; nothing_kept = refl } }

  too_long_of : (files : Files) (held : Option (List ℕ)) (lines : List ℕ) → files name ≡ held → IsSomeAnd held (λ bytes. limit < length bytes) → lines ≡ too_long_lines name
      → IsUnread limit name (Some files) TooLong lines None
  too_long_of files None lines same long is = absurd long
  too_long_of files (Some bytes) lines same long is =
      record { held = Some bytes; is_held = same; answers = (long, record { status_is = refl; lines_are = is; nothing_kept = refl }) }

  -- it answered that the file is longer
  pub is_too_long : (told : Option Files) (lines : List ℕ) → IfSome told (λ files. IsSomeAnd (files name) (λ bytes. limit < length bytes)) → lines ≡ too_long_lines name
      → IsUnread limit name told TooLong lines None
  is_too_long None lines long is = record {
    held = Some (replicate (limit + 1) 0);
    is_held = tt;
    answers = (omega (arith, length-replicate {A = ℕ} (limit + 1) 0), record { status_is = refl; lines_are = is; nothing_kept = refl });
  }
  is_too_long (Some files) lines long is = too_long_of files (files name) lines refl long is
