-- Which answers have a status of 0, and what then was put.
use Rattle.std.proofs.Common.{◌≡◌, ◌⊎◌, ℕ, List, Option, inl, inr, refl, ap, ◌∙◌}
use Rattle.std.specs.Io.KnownBytes.{append_known}
use Rattle.outside.specs.Files.{Files}
use Rattle.cli_text.specs.declared.status.Status.TheVariants as S
use Rattle.command_frame.specs.Ends.{Kept, files_after, IsPut}
use Rattle.command_frame.specs.Reading.{IsTold, IsUnread}
use Rattle.command_frame.proofs.Unread.{unread_not_done, no_image_not_done}
use Rattle.command_frame.specs.declared.reading.TheConstants.{MOST_INPUT_BYTES}
use Rattle.prove_calls.specs.Guest.{HasNoGuest, ReadsNone}

-- the same lines, and the same file
pub put_same : (lines lines' : List ℕ) (kept kept' : Option Kept) (told told' : Option Files) (taken taken' : Option (List ℕ)) → lines ≡ lines' → kept ≡ kept'
    → IsPut kept lines told told' taken taken' → IsPut kept' lines' told told' taken taken'
put_same lines lines' kept kept' told told' taken taken' text file put = record {
  done = put.done ∙ ap (λ (k : Option Kept). files_after k told) file;
  put = put.put ∙ ap (append_known taken) text;
}

-- ---- answers of another status
pub not_refused : {A : Type 0} (text lines : List ℕ) (kept : Option Kept) → IsTold S.Refused text S.Done lines kept → A
not_refused text lines kept told = absurd (other told.status_is)
  where
    other : S.Done ≡ S.Refused → ⊥
    other e = cc

pub not_usage : {A : Type 0} (text lines : List ℕ) (kept : Option Kept) → IsTold S.Words text S.Done lines kept → A
not_usage text lines kept told = absurd (other told.status_is)
  where
    other : S.Done ≡ S.Words → ⊥
    other e = cc

pub not_too_long : {A : Type 0} (text lines : List ℕ) (kept : Option Kept) → IsTold S.TooLong text S.Done lines kept → A
not_too_long text lines kept told = absurd (other told.status_is)
  where
    other : S.Done ≡ S.TooLong → ⊥
    other e = cc

not_bad_file : {A : Type 0} (text lines : List ℕ) (kept : Option Kept) → IsTold S.BadFile text S.Done lines kept → A
not_bad_file text lines kept told = absurd (other told.status_is)
  where
    other : S.Done ≡ S.BadFile → ⊥
    other e = cc

pub no_guest_done : {A : Type 0} (elf input : List ℕ) (told : Option Files) (lines : List ℕ) (kept : Option Kept) → HasNoGuest elf input told S.Done lines kept → A
no_guest_done elf input told lines kept (inl none) = absurd (no_image_not_done elf S.Done lines kept told none refl)
no_guest_done {A} elf input told lines kept (inr none) = of_input none.none
  where
    of_input : IsUnread MOST_INPUT_BYTES input told S.Done lines kept ⊎ ReadsNone input told S.Done lines kept → A
    of_input (inl unread) = absurd (unread_not_done MOST_INPUT_BYTES input S.Done lines kept told unread refl)
    of_input (inr bad) = not_bad_file _ lines kept bad.bad.told
