-- Commands that aren't audits answer no collision. H is the digest function.
use Rattle.std.proofs.Common.{◌≡◌, inl, inr, ℕ, List, Option}
use Rattle.outside.specs.Files.{Files}
use Rattle.cli_text.specs.declared.status.Status.TheVariants.{Done, Refused, Collision}
use Rattle.command_frame.specs.Ends.{Kept}
use Rattle.command_frame.specs.declared.reading.TheConstants.{MOST_RECEIPT_BYTES}
use Rattle.command_frame.proofs.Collided.{unread_not_collision, no_image_not_collision}
use Rattle.check_calls.specs.Check.{CheckAsked, Judges, AnswersCheck}
use Rattle.check_calls.specs.Id.{AnswersId}
use Rattle.check_calls.specs.Inspect.{Inspects, AnswersInspect}

collision_done : Collision ≡ Done → ⊥
collision_done e = cc

collision_refused : Collision ≡ Refused → ⊥
collision_refused e = cc

module _ (H : List ℕ → List ℕ) (told : Option Files) (lines : List ℕ) (kept : Option Kept) where
  judges_not : (id : List ℕ) (journal : Option (List ℕ)) (bytes : List ℕ) → Judges H id journal bytes Collision lines kept → ⊥
  judges_not id journal bytes (inl valid) = collision_done valid.status_is
  judges_not id journal bytes (inr refused) = collision_refused refused.told.status_is

  pub check_not_collision : (asked : CheckAsked) → AnswersCheck H asked told Collision lines kept → ⊥
  check_not_collision asked (inl unread) = unread_not_collision MOST_RECEIPT_BYTES asked.receipt lines kept told unread
  check_not_collision asked (inr judged) = judges_not asked.id asked.journal judged.bytes judged.judges

  pub id_not_collision : (elf : List ℕ) → AnswersId H elf told Collision lines kept → ⊥
  id_not_collision elf (inl none) = no_image_not_collision elf lines kept told none
  id_not_collision elf (inr is) = collision_done is.answers.status_is

  inspects_not : (bytes : List ℕ) → Inspects H bytes Collision lines kept → ⊥
  inspects_not bytes (inl is) = collision_done is.told.status_is
  inspects_not bytes (inr refused) = collision_refused refused.told.status_is

  pub inspect_not_collision : (receipt : List ℕ) → AnswersInspect H receipt told Collision lines kept → ⊥
  inspect_not_collision receipt (inl unread) = unread_not_collision MOST_RECEIPT_BYTES receipt lines kept told unread
  inspect_not_collision receipt (inr is) = inspects_not is.bytes is.inspects
