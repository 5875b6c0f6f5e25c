-- The answers of `id`: with a status of 0, and where nothing stands against one. H is the digest function.
use Rattle.std.proofs.Common.{◌≡◌, inl, inr, ℕ, List, Option, Some, refl}
use Rattle.outside.specs.Files.{Files}
use Rattle.claim_types.specs.States.{image_id}
use Rattle.cli_text.specs.declared.status.Status.{Status}
use Rattle.cli_text.specs.declared.status.Status.TheVariants.{Done}
use Rattle.cli_text.specs.Files.{id_lines}
use Rattle.command_frame.specs.Ends.{Kept, IsPut}
use Rattle.command_frame.proofs.After.{told_put}
use Rattle.command_frame.proofs.Unread.{no_image_not_done, no_image_not_passes}
use Rattle.check_calls.specs.Id.{AnswersId, IsIdentifiedPut, PassesTests}

module _ (H : List ℕ → List ℕ) (elf : List ℕ) where
  pub id_done : (told told' : Option Files) (taken taken' : Option (List ℕ)) (lines : List ℕ) (kept : Option Kept) → IsPut kept lines told told' taken taken'
      → AnswersId H elf told Done lines kept → IsIdentifiedPut H elf told told' taken taken'
  id_done told told' taken taken' lines kept put (inl none) = absurd (no_image_not_done elf Done lines kept told none refl)
  id_done told told' taken taken' lines kept put (inr is) = record {
    image = is.image;
    loads = is.loads;
    put = told_put Done (id_lines (image_id H is.image)) Done lines kept told told' taken taken' is.answers put;
  }

  pub id_passes : (files : Files) → PassesTests elf files → (status : Status) (lines : List ℕ) (kept : Option Kept) → AnswersId H elf (Some files) status lines kept → status ≡ Done
  id_passes files passes status lines kept (inl none) = absurd (no_image_not_passes elf status lines kept files passes.bytes none passes.held passes.within passes.passes)
  id_passes files passes status lines kept (inr is) = is.answers.status_is
